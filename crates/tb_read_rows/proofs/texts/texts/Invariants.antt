use Rattle.std.proofs.Common.{length}
use Rattle.tb_read_rows.proofs.texts.texts.Given as goal

-- each text takes bytes away
abbrev pub decreases-loop-rest : goal.decreases-loop-rest
decreases-loop-rest l = length l.rest
