use Rattle.indexmap.specs.IndexSet.{contains}
use Rattle.tb_model.specs.Names.{same_name}
use Rattle.tb_cause.proofs.HasLemmas.{IsPutSoFar, depth}
use Rattle.tb_cause.proofs.giving.put_above.Given as goal

abbrev pub invariant-up : goal.invariant-up
invariant-up l = IsPutSoFar l.task (contains same_name l.initial.set) (contains same_name l.set) l.next

abbrev pub decreases-up : goal.decreases-up
decreases-up l = depth l.next
