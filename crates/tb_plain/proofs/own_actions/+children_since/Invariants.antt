use Rattle.std.proofs.Common.{length}
use Rattle.tb_plain.proofs.own_actions.+children_since.Given as goal

abbrev pub decreases-children_since : goal.decreases-children_since
decreases-children_since l = length l.acts.now
