use Rattle.tb_core.proofs.CloseLemmas.{Closes}
use Rattle.tb_core.proofs.unwinding.close.Given as goal

abbrev pub invariant-loop-at : goal.invariant-loop-at
invariant-loop-at l = Closes l.going l.fn.entries.items l.entries.items l.at l.stay l.next
