use Rattle.std.proofs.Common.{length}
use Rattle.tb_places.proofs.ClosingLemmas.{Lowers}
use Rattle.tb_places.proofs.gaps.lower_all.Given as goal

abbrev pub invariant-loop-at : goal.invariant-loop-at
invariant-loop-at l = Lowers l.going l.fn.places 0 l.places l.at l.at (length l.going)
