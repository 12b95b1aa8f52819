use Rattle.std.proofs.Common.{◌≡◌, map, length}
use Rattle.tb_read.specs.Clauses.{is_broken}
use Rattle.tb_read.proofs.clauses.is_broken.Given as goal

-- the words that are left say the rest of what all words say
abbrev pub invariant-loop-left : goal.invariant-loop-left
invariant-loop-left l = is_broken l.on_wait (map (λ word. word.now) l.left) ≡ is_broken l.on_wait (map (λ word. word.now) l.words)

abbrev pub decreases-loop-left : goal.decreases-loop-left
decreases-loop-left l = length l.left
