use Rattle.std.proofs.Common.{◌≡◌, ◌||◌, map, length}
use Rattle.std.specs.List.{list_any}
use Rattle.tb_read.specs.Clauses.{is_misplaced_argument}
use Rattle.tb_read.specs.Misfits.{has}
use Rattle.tb_read.specs.declared.fault.FaultKind.{FaultKind}
use Rattle.tb_read.proofs.clauses.add_arguments.Given as goal

-- what was found and what the words that are left say is what all words say
abbrev pub invariant-loop-left : goal.invariant-loop-left
invariant-loop-left l = (fault : FaultKind) →
    (has l.found fault || list_any (is_misplaced_argument fault) (map (λ word. word.now) l.left))
    ≡ (has l.fn.found fault || list_any (is_misplaced_argument fault) (map (λ word. word.now) l.words))

abbrev pub decreases-loop-left : goal.decreases-loop-left
decreases-loop-left l = length l.left
