use Rattle.std.proofs.Common.{◌≡◌, ◌++◌, length, map}
use Rattle.tb_read.specs.Text.{lines_of, numbered}
use Rattle.tb_read.proofs.text.numbered.Given as goal

-- the lines so far and those of the rest are those of the text
abbrev pub invariant-loop-rest : goal.invariant-loop-rest
invariant-loop-rest l = map (λ line. line.now) l.lines.items ++ lines_of l.rest ≡ numbered l.text

abbrev pub decreases-loop-rest : goal.decreases-loop-rest
decreases-loop-rest l = length l.rest
