-- Rows of seats.
use Rattle.std.proofs.Common.{ℕ, ◌<◌, ◌≡◌, zero, suc, List, [], ◌∷◌, true, nat_lt, length, set, get_or, arith}
use Rattle.std.proofs.lemmas.Bool.Decides.{nat_tests}
use Rattle.tb_model.specs.declared.entry.Entry.{Entry}
use Rattle.tb_journal.specs.Journals.{seat_of, all_below}

-- what holds at each slot, and of what is written to one, holds at each slot then
pub each_set : {X : Type 0} (P : ℕ → X → Type 0) (xs : List X) (k : ℕ) (x : X) → ((i : ℕ) (d : X) → i < length xs → P i (get_or xs i d)) → P k x → (i : ℕ) (d : X) → i < length (set xs k x) → P i (get_or (set xs k x) i d)
each_set P [] k x each at i d lt = absurd (omega (arith, lt))
each_set P (y ∷ xs) zero x each at zero d lt = at
each_set P (y ∷ xs) zero x each at (suc i) d lt = each (suc i) d (omega (arith, lt))
each_set P (y ∷ xs) (suc k) x each at zero d lt = each 0 d (omega arith)
each_set P (y ∷ xs) (suc k) x each at (suc i) d lt = each_set (λ n z. P (suc n) z) xs k x (λ j e l. each (suc j) e (omega (arith, l))) at i d (omega (arith, lt))

pub below_at : (n : ℕ) (es : List Entry) (k : ℕ) (d : Entry) → k < length es → all_below n es ≡ true → seat_of (get_or es k d) < n
below_at n [] k d lt is = absurd (omega (arith, lt))
below_at n (e ∷ es) zero d lt is =
    let first : nat_lt (seat_of e) n ≡ true = grind arith in
    grind (arith, nat_tests)
below_at n (e ∷ es) (suc k) d lt is =
    let rest : all_below n es ≡ true = grind arith in
    below_at n es k d (omega (arith, lt)) rest
