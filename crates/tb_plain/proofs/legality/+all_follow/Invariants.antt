use Rattle.std.proofs.Common.{length}
use Rattle.tb_plain.proofs.legality.+all_follow.Given as goal

abbrev pub decreases-all_follow : goal.decreases-all_follow
decreases-all_follow l = length l.history.now
