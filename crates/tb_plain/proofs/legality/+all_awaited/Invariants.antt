use Rattle.std.proofs.Common.{length}
use Rattle.tb_plain.proofs.legality.+all_awaited.Given as goal

abbrev pub decreases-all_awaited : goal.decreases-all_awaited
decreases-all_awaited l = length l.names.now
