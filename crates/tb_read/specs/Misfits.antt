-- Which faults words have at their indexes.
use Rattle.std.specs.Prelude.{◌≡◌, Bool, false, ◌||◌}
use Rattle.tb_read.specs.declared.fault.FaultKind.{FaultKind}
use Rattle.tb_read.specs.declared.fault.FaultKind.TheVariants.{BadNumber, UnknownWord, Register, DependType}
use Rattle.tb_read.specs.declared.misfits.Misfits.{Misfits}

abbrev pub has : Misfits → FaultKind → Bool
has found BadNumber = found.bad_number
has found UnknownWord = found.unknown_word
has found Register = found.register
has found DependType = found.depend_type
has found _ = false

-- what was found before, and the faults that the test says
abbrev pub Finds : Misfits → Misfits → (FaultKind → Bool) → Type 0
Finds old new test = (fault : FaultKind) → has new fault ≡ (has old fault || test fault)
