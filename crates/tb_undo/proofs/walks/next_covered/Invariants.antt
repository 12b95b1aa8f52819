use Rattle.std.proofs.Common.{◌-◌}
use Rattle.tb_depend.specs.Relations.{is_covered}
use Rattle.tb_undo.proofs.WalkLemmas.{NoneUpTo}
use Rattle.tb_undo.proofs.walks.next_covered.Given as goal

abbrev pub invariant-walk : goal.invariant-walk
invariant-walk l = NoneUpTo l.waits.tasks l.task (is_covered l.children.siblings l.items) l.low

abbrev pub decreases-walk : goal.decreases-walk
decreases-walk l = 4294967296 - l.low
