-- What is left after the last whole three.
use Rattle.std.proofs.Common.{◌≡◌, ℕ, ◌<◌, List, [], ◌∷◌, Bool, not, length, map, Bor, None, arith, refl, nat_eq}
use Rattle.tb_read.specs.Clauses.{is_broken, item_count, is_misplaced_in_rest, is_misplaced_in_clauses, clauses_of, test_of}
use Rattle.tb_read.specs.declared.fault.FaultKind.{FaultKind}

pub broken_short : (on_wait : Bool) (left : List (Bor (List ℕ))) → length left < 3 → is_broken on_wait (map (λ word. word.now) left) ≡ not (nat_eq (length left) 0)
broken_short on_wait [] few = refl
broken_short on_wait (a ∷ []) few = refl
broken_short on_wait (a ∷ b ∷ []) few = refl
broken_short on_wait (a ∷ b ∷ c ∷ left) few = absurd (omega arith)

pub count_short : (on_wait : Bool) (left : List (Bor (List ℕ))) → length left < 3 → item_count on_wait (map (λ word. word.now) left) ≡ 0
count_short on_wait [] few = refl
count_short on_wait (a ∷ []) few = refl
count_short on_wait (a ∷ b ∷ []) few = refl
count_short on_wait (a ∷ b ∷ c ∷ left) few = absurd (omega arith)

pub misplaced_short : (fault : FaultKind) (on_wait : Bool) (left : List (Bor (List ℕ))) → length left < 3 →
    is_misplaced_in_clauses fault on_wait (map (λ word. word.now) left) ≡ is_misplaced_in_rest fault on_wait (map (λ word. word.now) left)
misplaced_short fault on_wait [] few = refl
misplaced_short fault on_wait (a ∷ []) few = refl
misplaced_short fault on_wait (a ∷ b ∷ []) few = refl
misplaced_short fault on_wait (a ∷ b ∷ c ∷ left) few = absurd (omega arith)

pub clauses_short : (on_wait : Bool) (left : List (Bor (List ℕ))) → length left < 3 → clauses_of on_wait (map (λ word. word.now) left) ≡ []
clauses_short on_wait [] few = refl
clauses_short on_wait (a ∷ []) few = refl
clauses_short on_wait (a ∷ b ∷ []) few = refl
clauses_short on_wait (a ∷ b ∷ c ∷ left) few = absurd (omega arith)

pub test_short : (left : List (Bor (List ℕ))) → length left < 3 → test_of (map (λ word. word.now) left) ≡ None
test_short [] few = refl
test_short (a ∷ []) few = refl
test_short (a ∷ b ∷ []) few = refl
test_short (a ∷ b ∷ c ∷ left) few = absurd (omega arith)
