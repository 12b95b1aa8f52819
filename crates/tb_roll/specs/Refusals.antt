-- The refusals by their codes.
use Rattle.std.specs.Prelude.{ℕ}
use Rattle.tb_roll.specs.declared.roll_refusal.RollRefusal.{RollRefusal}
use Rattle.tb_roll.specs.declared.roll_refusal.RollRefusal.TheVariants.{Memory, NoSuchStep, Full}

abbrev pub roll_number : RollRefusal → ℕ
roll_number Memory = 0
roll_number NoSuchStep = 1
roll_number Full = 2
