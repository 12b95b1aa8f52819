use Rattle.std.proofs.Common.{◌≡◌}
use Rattle.indexmap.specs.IndexSet.{contains}
use Rattle.tb_model.specs.Names.{same_name}
use Rattle.tb_cause.specs.Asked.{some_above}
use Rattle.tb_cause.proofs.HasLemmas.{passes_above, depth}
use Rattle.tb_cause.proofs.giving.gives_from_above.Given as goal

-- what is left says as all does
abbrev pub invariant-up : goal.invariant-up
invariant-up l = passes_above (contains same_name l.set) l.next ≡ some_above (contains same_name l.set) l.task

abbrev pub decreases-up : goal.decreases-up
decreases-up l = depth l.next
