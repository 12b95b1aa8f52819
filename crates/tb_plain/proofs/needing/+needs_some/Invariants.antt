use Rattle.std.proofs.Common.{length}
use Rattle.tb_plain.proofs.needing.+needs_some.Given as goal

abbrev pub decreases-needs_some : goal.decreases-needs_some
decreases-needs_some l = length l.events.now
