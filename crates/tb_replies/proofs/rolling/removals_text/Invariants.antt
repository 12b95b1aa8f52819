use Rattle.std.proofs.Common.{◌≡◌, ◌++◌, drop}
use Rattle.tb_replies.specs.Rolled.{removal_lines, removals_text}
use Rattle.tb_replies.proofs.rolling.removals_text.Given as goal

-- the text so far, and the lines of the steps that are left, are the whole text
abbrev pub invariant-loop-removed : goal.invariant-loop-removed
invariant-loop-removed l = l.text ++ removal_lines l.program (drop l.removed-index l.removals) ≡ removals_text l.program l.removals
