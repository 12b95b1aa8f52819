-- The refusals of a breakpoint and of a claim by their codes.
use Rattle.std.specs.Prelude.{ℕ}
use Rattle.tb_control.specs.declared.break_refusal.BreakRefusal.{BreakRefusal}
use Rattle.tb_control.specs.declared.break_refusal.BreakRefusal.TheVariants.{Memory, TooMany, NoSuchBreak, NoSuchBody, NoSuchCell}
use Rattle.tb_control.specs.declared.claim_refusal.ClaimRefusal.{ClaimRefusal}
use Rattle.tb_control.specs.declared.claim_refusal.ClaimRefusal.TheVariants.{Memory as NoMemory, NoSuchTask, Ended, Claimed}

abbrev pub break_number : BreakRefusal → ℕ
break_number Memory = 0
break_number TooMany = 1
break_number NoSuchBreak = 2
break_number NoSuchBody = 3
break_number NoSuchCell = 4

abbrev pub claim_number : ClaimRefusal → ℕ
claim_number NoMemory = 0
claim_number NoSuchTask = 1
claim_number Ended = 2
claim_number (Claimed seat) = 12
