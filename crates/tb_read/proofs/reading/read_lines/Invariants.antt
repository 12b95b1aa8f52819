use Rattle.std.proofs.Common.{◌≡◌, ◌<◌, ◌≤◌, ℕ, map, None}
use Rattle.tb_read.specs.Reading.{context_at, fault_at}
use Rattle.tb_read.specs.Meaning.{lines_until}
use Rattle.tb_read.specs.Shown.{shown_line}
use Rattle.tb_read.proofs.reading.read_lines.Given as goal

-- what the lines in front of the line `at` say, and that none of them is faulty
abbrev pub invariant-loop-at : goal.invariant-loop-at
invariant-loop-at l = record {
  few : l.at ≤ 65537;
  told : l.before ≡ context_at (map (λ line. line.now) l.lines) l.at;
  faultless : (m : ℕ) → m < l.at → fault_at (map (λ line. line.now) l.lines) m ≡ None;
  lines : map shown_line l.all.items ≡ lines_until (map (λ line. line.now) l.lines) l.at;
}
