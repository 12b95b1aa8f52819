use Rattle.std.proofs.Common.{◌≡◌, length}
use Rattle.tb_read.specs.Text.{begins_with}
use Rattle.tb_read.proofs.text.begins_with.Given as goal

-- the bytes that are left say what all bytes say
abbrev pub invariant-loop-left : goal.invariant-loop-left
invariant-loop-left l = begins_with l.first l.left ≡ begins_with l.first l.line

abbrev pub decreases-loop-left : goal.decreases-loop-left
decreases-loop-left l = length l.left
