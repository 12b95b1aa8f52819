-- The refusals by their codes.
use Rattle.std.specs.Prelude.{ℕ}
use Rattle.tb_cause.specs.declared.cause_refusal.CauseRefusal.{CauseRefusal}
use Rattle.tb_cause.specs.declared.cause_refusal.CauseRefusal.TheVariants.{Memory, NoSuchStep}

abbrev pub cause_number : CauseRefusal → ℕ
cause_number Memory = 0
cause_number NoSuchStep = 1
