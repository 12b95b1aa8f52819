use Rattle.tb_cause.specs.Keys.{has}
use Rattle.tb_cause.proofs.NearestPassLemmas.{IsPassed}
use Rattle.tb_cause.proofs.nearest.pass.Given as goal

abbrev pub invariant-back : goal.invariant-back
invariant-back l = IsPassed l.indexed l.at l.left l.found.items l.places.items (has l.keys)

abbrev pub decreases-back : goal.decreases-back
decreases-back l = l.left
