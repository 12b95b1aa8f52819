use Rattle.std.proofs.Common.{length}
use Rattle.tb_plain.proofs.needing.+removed.Given as goal

abbrev pub decreases-removed : goal.decreases-removed
decreases-removed l = length l.history.now
