use Rattle.std.proofs.Common.{◌≡◌, ◌||◌, map, length}
use Rattle.tb_read.specs.Clauses.{is_misplaced_in_clauses}
use Rattle.tb_read.specs.Misfits.{has}
use Rattle.tb_read.specs.declared.fault.FaultKind.{FaultKind}
use Rattle.tb_read.proofs.clauses.add_clauses.Given as goal

-- what was found and what the words that are left say is what all words say
abbrev pub invariant-loop-left : goal.invariant-loop-left
invariant-loop-left l = (fault : FaultKind) →
    (has l.found fault || is_misplaced_in_clauses fault l.on_wait (map (λ word. word.now) l.left))
    ≡ (has l.fn.found fault || is_misplaced_in_clauses fault l.on_wait (map (λ word. word.now) l.words))

abbrev pub decreases-loop-left : goal.decreases-loop-left
decreases-loop-left l = length l.left
