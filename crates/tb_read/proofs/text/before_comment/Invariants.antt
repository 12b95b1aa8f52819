use Rattle.std.proofs.Common.{◌≡◌, ◌++◌, take, drop}
use Rattle.tb_read.specs.Text.{uncommented, before_comment}
use Rattle.tb_read.proofs.text.before_comment.Given as goal

abbrev pub invariant-loop-at : goal.invariant-loop-at
invariant-loop-at l = take l.at l.line ++ uncommented l.starts (drop l.at l.line) ≡ before_comment l.line
