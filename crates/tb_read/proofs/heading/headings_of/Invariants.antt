use Rattle.std.proofs.Common.{◌≡◌, ◌++◌, ℕ, List, map, drop}
use Rattle.tb_read.specs.Headings.{heading_of, headings_from}
use Rattle.tb_read.proofs.heading.headings_of.Given as goal

-- the headings so far and those of the lines that are left find what all headings find
abbrev pub invariant-loop-line : goal.invariant-loop-line
invariant-loop-line l = (name : List ℕ) → heading_of (l.headings ++ headings_from l.line (map (λ line. line.now) (drop l.line l.lines))) name ≡ heading_of (headings_from 0 (map (λ line. line.now) l.lines)) name
