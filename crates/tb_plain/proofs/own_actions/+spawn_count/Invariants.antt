use Rattle.std.proofs.Common.{length}
use Rattle.tb_plain.proofs.own_actions.+spawn_count.Given as goal

abbrev pub decreases-spawn_count : goal.decreases-spawn_count
decreases-spawn_count l = length l.acts.now
