use Rattle.std.proofs.Common.{◌≡◌, drop}
use Rattle.tb_draft.proofs.PassageLemmas.{Passed}
use Rattle.tb_draft.proofs.spelling.put_passages.Given as goal

-- the passages so far wait or were written, and no call failed
abbrev pub invariant-passages : goal.invariant-passages
invariant-passages g l = record {
  passed : Passed (g.K.Sink.taken l.fn.sink) (g.K.Sink.taken l.sink) l.waiting.items l.fn.waiting.items l.passages (drop l.passage-index l.passages);
  failures : g.K.Sink.failures l.sink ≡ g.K.Sink.failures l.fn.sink;
}
