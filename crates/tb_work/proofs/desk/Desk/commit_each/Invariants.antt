use Rattle.std.proofs.Common.{◌≡◌, ◌+◌, length, None}
use Rattle.tb_work.specs.Bursts.{CommitsEach, TakesEach}
use Rattle.tb_work.proofs.desk.Desk.commit_each.Given as goal

-- the plans so far are committed
abbrev pub invariant-loop-plan : goal.invariant-loop-plan
invariant-loop-plan g l = record {
  each : CommitsEach g.N.Team.program l.taken (length l.fn.self.live.session.journal) l.yielded l.fn.seat l.seat;
  takes : TakesEach l.fn.seat.number l.taken l.yielded None l.fn.self.live.session l.self.live.session;
  number : l.seat.number ≡ l.fn.seat.number;
  all : length l.yielded ≡ l.taken;
  place : length l.self.live.session.journal ≡ length l.fn.self.live.session.journal + l.taken;
}
