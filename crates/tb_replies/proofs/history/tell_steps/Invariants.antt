use Rattle.std.proofs.Common.{◌≡◌, take}
use Rattle.tb_steps.specs.Scans.{history_of}
use Rattle.tb_draft.specs.Written.{Told}
use Rattle.tb_view.specs.Steps.{AreCounts}
use Rattle.tb_replies.proofs.HistoryLemmas.{so_far}
use Rattle.tb_replies.proofs.history.tell_steps.Given as goal

-- the steps so far are counted and written, and no call failed
abbrev pub invariant-steps : goal.invariant-steps
invariant-steps g l = record {
  counts : AreCounts (history_of (take l.at l.entries)) l.counts;
  told : Told (g.K.Sink.taken l.initial.sink) (g.K.Sink.taken l.sink) l.text (λ told. told ≡ so_far l.program l.entries l.initial.text l.at);
  failures : g.K.Sink.failures l.sink ≡ g.K.Sink.failures l.initial.sink;
}
