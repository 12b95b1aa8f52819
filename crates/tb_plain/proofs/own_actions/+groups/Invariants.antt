use Rattle.std.proofs.Common.{length}
use Rattle.tb_plain.proofs.own_actions.+groups.Given as goal

abbrev pub decreases-groups : goal.decreases-groups
decreases-groups l = length l.acts.now
