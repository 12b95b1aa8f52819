use Rattle.tb_cause.specs.Keys.{IsOfTask, has}
use Rattle.tb_cause.proofs.CausePassLemmas.{IsPassed}
use Rattle.tb_cause.proofs.causes.pass.Given as goal

abbrev pub invariant-back : goal.invariant-back
invariant-back l = record {
  passed : IsPassed l.indexed l.at l.left l.places.items (has l.keys);
  of_task : IsOfTask l.indexed l.left (has l.keys) l.of_task;
}

abbrev pub decreases-back : goal.decreases-back
decreases-back l = l.left
