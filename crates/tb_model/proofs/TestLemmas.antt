-- Tests of lists and names.
use Rattle.std.proofs.Common.{◌≡◌, ℕ, List, [], ◌∷◌, Bool, true, false, ⊎_elim, refl, sym, ap, ap₂, ◌∙◌, ◌==◌}
use Rattle.std.specs.List.{list_any}
use Rattle.std.proofs.lemmas.Bool.{or_cases, or_left, or_right, false_from_ne_true, both_ways, and_parts, and_from, eqb-true, eq-eqb, false≢true}
use Rattle.tb_model.specs.Names.{Name, same_name}

-- a weaker test passes too
pub any_weaker : {A : Type 0} (p q : A → Bool) → ((x : A) → p x ≡ true → q x ≡ true) → (xs : List A) → list_any p xs ≡ true → list_any q xs ≡ true
any_weaker p q f [] h = h
any_weaker p q f (x ∷ xs) h =
    ⊎_elim (λ a. or_left (q x) (list_any q xs) (f x a)) (λ b. or_right (q x) (list_any q xs) (any_weaker p q f xs b)) (or_cases (p x) (list_any p xs) h)

-- where a weaker test fails, the stronger one does
pub none_weaker : {A : Type 0} (p q : A → Bool) → ((x : A) → p x ≡ true → q x ≡ true) → (xs : List A) → list_any q xs ≡ false → list_any p xs ≡ false
none_weaker p q f xs h =
    false_from_ne_true (list_any p xs) (λ e. both_ways (list_any q xs) h (any_weaker p q f xs e))

-- ---- names

-- the test of names decides equality
pub same_true : (t u : Name) → same_name t u ≡ true → t ≡ u
same_true [] [] h = refl
same_true [] (n ∷ u) h = absurd (false≢true h)
same_true (m ∷ t) [] h = absurd (false≢true h)
same_true (m ∷ t) (n ∷ u) h =
    let o = and_parts (m == n) (same_name t u) h in
    ap₂ (λ (k : ℕ) (v : Name). k ∷ v) (eqb-true m n o.0) (same_true t u o.1)

pub same_refl : (t : Name) → same_name t t ≡ true
same_refl [] = refl
same_refl (n ∷ t) = and_from (n == n) (same_name t t) (eq-eqb n n refl) (same_refl t)

-- two names differ both ways
pub other_way : (t u : Name) → same_name t u ≡ false → same_name u t ≡ false
other_way t u e =
    false_from_ne_true (same_name u t) (λ q. false≢true (sym e ∙ ap (same_name t) (same_true u t q) ∙ same_refl t))
