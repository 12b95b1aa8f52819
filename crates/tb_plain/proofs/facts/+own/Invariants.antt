use Rattle.std.proofs.Common.{length}
use Rattle.tb_plain.proofs.facts.+own.Given as goal

abbrev pub decreases-own : goal.decreases-own
decreases-own l = length l.history.now
