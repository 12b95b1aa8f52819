use Rattle.std.proofs.Common.{◌≡◌, ◌≤◌, length}
use Rattle.std.specs.Io.KnownBytes.{Consumes, prepend_known}
use Rattle.tb_lines.specs.Lines.{IsUnbroken}
use Rattle.tb_lines.proofs.line_reader.LineReader.next_line_within.Given as goal

-- what was taken so far is the line so far, which isn't long, and no call failed
abbrev pub invariant-pieces : goal.invariant-pieces
invariant-pieces g l = record {
  can : (goal.iterator-pieces g).can_next l.iterator';
  ends : (goal.iterator-pieces g).is_finite l.iterator';
  taken : Consumes (prepend_known l.initial.self (g.S.Source.left l.initial.source)) (prepend_known l.self (g.S.Source.left l.source)) l.line.items;
  unbroken : IsUnbroken l.line.items;
  few : length l.line.items ≤ l.most;
  failures : g.S.Source.failures l.source ≡ g.S.Source.failures l.initial.source;
}
