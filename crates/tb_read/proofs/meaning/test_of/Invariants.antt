use Rattle.std.proofs.Common.{◌≡◌, map, length}
use Rattle.tb_read.specs.Clauses.{test_of}
use Rattle.tb_read.proofs.meaning.test_of.Given as goal

-- the words that are left say the rest of what all words say
abbrev pub invariant-loop-left : goal.invariant-loop-left
invariant-loop-left l = test_of (map (λ word. word.now) l.left) ≡ test_of (map (λ word. word.now) l.words)

abbrev pub decreases-loop-left : goal.decreases-loop-left
decreases-loop-left l = length l.left
