-- Receipts against the journal.
use Rattle.std.proofs.Common.{ℕ, ◌+◌, ◌<◌, ◌≡◌, zero, suc, List, [], ◌∷◌, ◌++◌, Some, map, length, get_or, slice_get, refl, ap, sym, subst, ◌∙◌, arith, Option, None, MatchOption, All, Bool, true, false, cond, nat_lt}
use Rattle.std.proofs.lemmas.List.{append-nil}
use Rattle.std.proofs.lemmas.List.Sums.{sum_by-cons, sum_by-append}
use Rattle.std.proofs.lemmas.Grind.{flat_map-append}
use Rattle.tb_model.specs.declared.entry.Entry.{Entry}
use Rattle.tb_work.specs.declared.receipt.Receipt.{Receipt}
use Rattle.tb_work.specs.Receipts.{Seated, first_gap, all_receipts, receipts_in}

-- what the notes say of a slot is the journal's entry there
pub told_at : (entries : List Entry) (p : ℕ) (d : Entry) → p < length entries → slice_get (map (λ e. Some e) entries) p ≡ Some (Some (get_or entries p d))
told_at [] p d lt = absurd (omega (arith, lt))
told_at (e ∷ es) zero d lt = refl
told_at (e ∷ es) (suc p) d lt = told_at es p d (omega (arith, lt))

-- the first gap of rs after that of what came before, which was `before`
abbrev pub After : ℕ → List Receipt → Option ℕ → Option ℕ → Type 0
After n rs before after = MatchOption before (after ≡ first_gap n rs) (λ m. after ≡ Some m)

first_step : (n : ℕ) (k : ℕ) (rs ss : List Receipt) (b c : Option ℕ) (t : Bool) → (first_gap n rs ≡ b → After n ss b c → c ≡ first_gap n (rs ++ ss))
    → cond t (first_gap n rs) (Some k) ≡ b → After n ss b c → c ≡ cond t (first_gap n (rs ++ ss)) (Some k)
first_step n k rs ss b c true rec is h = rec is h
first_step n k rs ss b c false rec is h = subst (λ o. After n ss o c) (sym is) h

first_append : (n : ℕ) (rs ss : List Receipt) (b c : Option ℕ) → first_gap n rs ≡ b → After n ss b c → c ≡ first_gap n (rs ++ ss)
first_append n [] ss b c is h = subst (λ o. After n ss o c) (sym is) h
first_append n (r ∷ rs) ss b c is h = first_step n r.place rs ss b c (nat_lt r.place n) (first_append n rs ss b c) is h

pub gap_append : (n : ℕ) (rs ss : List Receipt) (a b c : Option ℕ) → After n rs a b → After n ss b c → After n (rs ++ ss) a c
gap_append n rs ss None b c is h = first_append n rs ss b c (sym is) h
gap_append n rs ss (Some m) b c is h = subst (λ o. After n ss o c) is h

pub all_append : {X : Type 0} (P : X → Type 0) (xs ys : List X) → All P xs → All P ys → All P (xs ++ ys)
all_append P [] ys a b k d lt = b k d lt
all_append P (x ∷ xs) ys a b zero d lt = a 0 d (omega arith)
all_append P (x ∷ xs) ys a b (suc k) d lt = all_append P xs ys (λ i e l. a (suc i) e (omega (arith, l))) b k d (omega (arith, lt))

pub all_one : {X : Type 0} (P : X → Type 0) (x : X) → P x → All P (x ∷ [])
all_one P x p zero d lt = p
all_one P x p (suc k) d lt = absurd (omega (arith, lt))

-- one more seat
pub receipts_more : (ys : List Seated) (s : Seated) → all_receipts (ys ++ s ∷ []) ≡ all_receipts ys ++ s.receipts
receipts_more ys s = flat_map-append (λ (t : Seated). t.receipts) ys (s ∷ []) ∙ ap (λ l. all_receipts ys ++ l) (append-nil s.receipts)

pub count_more : (ys : List Seated) (s : Seated) → receipts_in (ys ++ s ∷ []) ≡ receipts_in ys + length s.receipts
count_more ys s =
    let f : Seated → ℕ = λ t. length t.receipts in
    omega (arith, sum_by-append f ys (s ∷ []), sum_by-cons f s [])
