use Rattle.std.proofs.Common.{length}
use Rattle.tb_plain.proofs.state.+spawn_of.Given as goal

abbrev pub decreases-spawn_of : goal.decreases-spawn_of
decreases-spawn_of l = length l.history.now
