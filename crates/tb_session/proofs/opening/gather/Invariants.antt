use Rattle.std.proofs.Common.{◌≡◌}
use Rattle.std.specs.Io.KnownBytes.{prepend_known}
use Rattle.tb_session.proofs.GatherLemmas.{Gathering}
use Rattle.tb_session.proofs.opening.gather.Given as goal

-- whole lines of the program were taken, and no call failed
abbrev pub invariant-lines : goal.invariant-lines
invariant-lines g l = record {
  can : (goal.iterator-lines g).can_next l.iterator';
  ends : (goal.iterator-lines g).is_finite l.iterator';
  taken : Gathering (prepend_known l.initial.reader (g.S.Source.left l.initial.source)) (prepend_known l.reader (g.S.Source.left l.source)) l.text.items;
  failures : g.S.Source.failures l.source ≡ g.S.Source.failures l.initial.source;
}
