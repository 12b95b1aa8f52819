use Rattle.std.proofs.Common.{length}
use Rattle.tb_model.proofs.name_hash.+mixed.Given as goal

abbrev pub decreases-mixed : goal.decreases-mixed
decreases-mixed l = length l.numbers.now
