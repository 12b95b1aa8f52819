use Rattle.std.proofs.Common.{length}
use Rattle.tb_model.proofs.name_hash.+mixed_bytes.Given as goal

abbrev pub decreases-mixed_bytes : goal.decreases-mixed_bytes
decreases-mixed_bytes l = length l.numbers.now
