use Rattle.std.proofs.Common.{length}
use Rattle.tb_plain.proofs.facts.+last.Given as goal

abbrev pub decreases-last : goal.decreases-last
decreases-last l = length l.history.now
