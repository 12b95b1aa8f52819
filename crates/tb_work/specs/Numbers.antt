-- The refusals by their codes.
use Rattle.std.specs.Prelude.{ℕ}
use Rattle.tb_work.specs.declared.adopt_refusal.AdoptRefusal.{AdoptRefusal}
use Rattle.tb_work.specs.declared.adopt_refusal.AdoptRefusal.TheVariants.{Memory, CellTaken}
use Rattle.tb_work.specs.declared.unmade.Unmade.{Unmade}
use Rattle.tb_work.specs.declared.unmade.Unmade.TheVariants.{Memory as NoRoom, CellTaken as IsTaken}
use Rattle.tb_work.specs.declared.go_refusal.GoRefusal.{GoRefusal}
use Rattle.tb_work.specs.declared.go_refusal.GoRefusal.TheVariants.{Memory as NoMemory, CellTaken as TakenCell}

abbrev pub adopt_number : AdoptRefusal → ℕ
adopt_number Memory = 0
adopt_number CellTaken = 11

abbrev pub go_number : GoRefusal → ℕ
go_number NoMemory = 0
go_number TakenCell = 11

-- why a run isn't taken in whose entry isn't made
abbrev pub not_adopted : Unmade → AdoptRefusal
not_adopted NoRoom = Memory
not_adopted IsTaken = CellTaken
