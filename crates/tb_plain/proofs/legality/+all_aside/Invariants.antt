use Rattle.std.proofs.Common.{length}
use Rattle.tb_plain.proofs.legality.+all_aside.Given as goal

abbrev pub decreases-all_aside : goal.decreases-all_aside
decreases-all_aside l = length l.names.now
