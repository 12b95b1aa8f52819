use Rattle.std.proofs.Common.{length}
use Rattle.tb_plain.proofs.legality.+all_left.Given as goal

abbrev pub decreases-all_left : goal.decreases-all_left
decreases-all_left l = length l.names.now
