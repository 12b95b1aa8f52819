use Rattle.std.proofs.Common.{◌≡◌}
use Rattle.std.specs.Io.KnownBytes.{prepend_known}
use Rattle.tb_team.specs.Gone.{HasSeats}
use Rattle.tb_session.proofs.ServeLemmas.{Serving}
use Rattle.tb_session.proofs.serving.serve.Given as goal

-- whole lines were taken and answered, and no call failed
abbrev pub invariant-lines : goal.invariant-lines
invariant-lines g l = record {
  can : (goal.iterator-lines g).can_next l.iterator';
  ends : (goal.iterator-lines g).is_finite l.iterator';
  seats : HasSeats l.live.session;
  served : Serving l.limit l.initial.live.session (prepend_known l.initial.reader (g.S.Source.left l.initial.source)) (prepend_known l.reader (g.S.Source.left l.source))
      (g.K.Sink.taken l.initial.sink) (g.K.Sink.taken l.sink) l.live.session;
  reads : g.S.Source.failures l.source ≡ g.S.Source.failures l.initial.source;
  writes : g.K.Sink.failures l.sink ≡ g.K.Sink.failures l.initial.sink;
}
