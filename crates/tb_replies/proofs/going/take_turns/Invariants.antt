use Rattle.std.proofs.Common.{◌≡◌, ◌-◌}
use Rattle.tb_draft.specs.Written.{Told}
use Rattle.tb_replies.proofs.AloneLemmas.{UnderWay}
use Rattle.tb_replies.proofs.going.take_turns.Given as goal

-- the course begins with the turns so far, whatever follows, and no call failed
abbrev pub invariant-turns : goal.invariant-turns
invariant-turns g l = record {
  told : Told (g.K.Sink.taken l.initial.sink) (g.K.Sink.taken l.sink) l.text
      (λ told. UnderWay l.initial.live.session l.most l.count told l.live.session);
  failures : g.K.Sink.failures l.sink ≡ g.K.Sink.failures l.initial.sink;
}

abbrev pub decreases-turns : goal.decreases-turns
decreases-turns g l = l.most - l.count
