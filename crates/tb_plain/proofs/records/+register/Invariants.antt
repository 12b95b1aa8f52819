use Rattle.std.proofs.Common.{length}
use Rattle.tb_plain.proofs.records.+register.Given as goal

abbrev pub decreases-register : goal.decreases-register
decreases-register l = length l.acts.now
