use Rattle.std.proofs.Common.{◌≡◌, ◌++◌, ◌∷◌, [], length}
use Rattle.tb_draft.proofs.PassageLemmas.{Spelled}
use Rattle.tb_draft.proofs.spelling.put_name.Given as goal

-- all levels but those of the parts wait or were written, and no call failed
abbrev pub invariant-spelled : goal.invariant-spelled
invariant-spelled g l = record {
  spelled : Spelled (g.K.Sink.taken l.fn.sink) (g.K.Sink.taken l.sink) l.waiting.items (l.fn.waiting.items ++ 48 ∷ []) l.name l.parts;
  failures : g.K.Sink.failures l.sink ≡ g.K.Sink.failures l.fn.sink;
}

abbrev pub decreases-spelled : goal.decreases-spelled
decreases-spelled g l = length l.parts

-- all levels but those of the run and of the parts wait or were written, and no call failed
abbrev pub invariant-runs : goal.invariant-runs
invariant-runs g l = record {
  spelled : Spelled (g.K.Sink.taken l.fn.sink) (g.K.Sink.taken l.sink) l.waiting.items (l.fn.waiting.items ++ 48 ∷ []) l.name (l.parts ++ l.run);
  last : l.run ≡ [] → l.parts ≡ [];
  failures : g.K.Sink.failures l.sink ≡ g.K.Sink.failures l.fn.sink;
}

abbrev pub decreases-runs : goal.decreases-runs
decreases-runs g l = length (l.parts ++ l.run)
