use Rattle.std.proofs.Common.{length}
use Rattle.tb_plain.proofs.legality.+all_past.Given as goal

abbrev pub decreases-all_past : goal.decreases-all_past
decreases-all_past l = length l.names.now
