use Rattle.std.proofs.Common.{◌≡◌, []}
use Rattle.std.specs.Io.KnownBytes.{prepend_known}
use Rattle.tb_taskcheck.proofs.ReadLemmas.{Reading}
use Rattle.tb_taskcheck.proofs.reading.read_text.Given as goal

-- whole lines were read and judged, and no call failed
abbrev pub invariant-lines : goal.invariant-lines
invariant-lines g l = record {
  can : (goal.iterator-lines g).can_next l.iterator';
  ends : (goal.iterator-lines g).is_finite l.iterator';
  reading : Reading (prepend_known [] (g.S.Source.left l.initial.source)) (prepend_known l.reader (g.S.Source.left l.source)) l.judge l.found;
  failures : g.S.Source.failures l.source ≡ g.S.Source.failures l.initial.source;
}
