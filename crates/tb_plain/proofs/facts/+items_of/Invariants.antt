use Rattle.std.proofs.Common.{length}
use Rattle.tb_plain.proofs.facts.+items_of.Given as goal

abbrev pub decreases-items_of : goal.decreases-items_of
decreases-items_of l = length l.history.now
