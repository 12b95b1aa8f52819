use Rattle.tb_work.proofs.Releases.{released_more}
use Rattle.tb_work.proofs.closing.release.Goals as goal

pub loop-seat-preserved : goal.loop-seat-preserved
loop-seat-preserved c = released_more c.loop-seat.seat _ _ _ c.loop-seat.invariant c.let_go.ensures
