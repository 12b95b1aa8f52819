use Rattle.std.proofs.Common.{length}
use Rattle.tb_plain.proofs.legality.+everyone.Given as goal

abbrev pub decreases-everyone : goal.decreases-everyone
decreases-everyone l = length l.history.now
