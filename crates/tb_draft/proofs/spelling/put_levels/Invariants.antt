use Rattle.std.proofs.Common.{◌≡◌, length}
use Rattle.tb_draft.proofs.PassageLemmas.{Spelled}
use Rattle.tb_draft.proofs.spelling.put_levels.Given as goal

-- all levels but those of the rest wait or were written, and no call failed
abbrev pub invariant-levels : goal.invariant-levels
invariant-levels g l = record {
  spelled : Spelled (g.K.Sink.taken l.fn.sink) (g.K.Sink.taken l.sink) l.waiting.items l.fn.waiting.items l.fn.numbers l.rest;
  failures : g.K.Sink.failures l.sink ≡ g.K.Sink.failures l.fn.sink;
}

abbrev pub decreases-levels : goal.decreases-levels
decreases-levels g l = length l.rest
