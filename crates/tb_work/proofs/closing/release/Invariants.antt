use Rattle.tb_work.specs.Closing.{IsReleasedTo}
use Rattle.tb_work.proofs.closing.release.Given as goal

-- the seats in front claim nothing
abbrev pub invariant-loop-seat : goal.invariant-loop-seat
invariant-loop-seat l = IsReleasedTo l.seat l.initial.live.session l.live.session
