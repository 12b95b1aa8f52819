use Rattle.std.proofs.Common.{◌≡◌, take}
use Rattle.tb_next.proofs.same_instr.are_same_operands.Given as goal

abbrev pub invariant-loop-at : goal.invariant-loop-at
invariant-loop-at l = take l.at l.a ≡ take l.at l.b
