use Rattle.std.proofs.Common.{length}
use Rattle.tb_plain.proofs.own_actions.+open_groups.Given as goal

abbrev pub decreases-open_groups : goal.decreases-open_groups
decreases-open_groups l = length l.acts.now
