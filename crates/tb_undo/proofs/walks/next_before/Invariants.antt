use Rattle.std.proofs.Common.{◌-◌}
use Rattle.tb_depend.specs.Relations.{depends}
use Rattle.tb_undo.proofs.WalkLemmas.{NoneUpTo}
use Rattle.tb_undo.proofs.walks.next_before.Given as goal

abbrev pub invariant-walk : goal.invariant-walk
invariant-walk l = NoneUpTo l.waits.tasks l.parent (depends l.siblings.siblings l.n) l.low

abbrev pub decreases-walk : goal.decreases-walk
decreases-walk l = l.n - l.low
