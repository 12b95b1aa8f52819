use Rattle.std.proofs.Common.{◌-◌, length}
use Rattle.tb_places.proofs.ClosingLemmas.{Lowers}
use Rattle.tb_places.proofs.gaps.lower.Given as goal

abbrev pub invariant-pass : goal.invariant-pass
invariant-pass l = Lowers l.going l.fn.places l.from l.places l.at l.stay l.next

abbrev pub decreases-pass : goal.decreases-pass
decreases-pass l = length l.places - l.at

-- all that go are passed
abbrev pub invariant-rest : goal.invariant-rest
invariant-rest l = Lowers l.going l.fn.places l.from l.places l.at l.stay (length l.going)

abbrev pub decreases-rest : goal.decreases-rest
decreases-rest l = length l.places - l.at
