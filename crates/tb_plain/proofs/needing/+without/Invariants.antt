use Rattle.std.proofs.Common.{length}
use Rattle.tb_plain.proofs.needing.+without.Given as goal

abbrev pub decreases-without : goal.decreases-without
decreases-without l = length l.history.now
