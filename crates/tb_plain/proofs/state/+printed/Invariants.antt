use Rattle.std.proofs.Common.{length}
use Rattle.tb_plain.proofs.state.+printed.Given as goal

abbrev pub decreases-printed : goal.decreases-printed
decreases-printed l = length l.history.now
