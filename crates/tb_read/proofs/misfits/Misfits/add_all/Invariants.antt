use Rattle.std.proofs.Common.{◌≡◌, ◌||◌, map, length}
use Rattle.tb_read.specs.Grammar.{is_misplaced}
use Rattle.tb_read.specs.Misfits.{has}
use Rattle.tb_read.specs.declared.fault.FaultKind.{FaultKind}
use Rattle.tb_read.proofs.misfits.Misfits.add_all.Given as goal

-- what was found and what the words that are left say is what all words say
abbrev pub invariant-loop-left_places : goal.invariant-loop-left_places
invariant-loop-left_places l = (fault : FaultKind) →
    (has l.self fault || is_misplaced fault l.left_places (map (λ word. word.now) l.left_words))
    ≡ (has l.fn.self fault || is_misplaced fault l.places (map (λ word. word.now) l.words))

abbrev pub decreases-loop-left_places : goal.decreases-loop-left_places
decreases-loop-left_places l = length l.left_places
