-- The steps that a step may need, the oldest first.
use Rattle.std.proofs.Common.{◌≡◌, ◌≢◌, ◌<◌, ◌-◌, ◌++◌, ◌∷◌, [], ℕ, zero, suc, List, Bool, true, false, cond, length, filter, sym, ap, ◌∙◌, subst, arith, ◌⊎◌, inl, inr, ⊎_elim, eq-eqb, ne_eqb, IsPermutation, Contains, refl}
use Rattle.std.specs.List.Sorted.{IsNonDecreasingBy}
use Rattle.std.proofs.lemmas.Bool.{cases_eq}
use Rattle.std.proofs.lemmas.List.{get_or_default}
use Rattle.std.proofs.lemmas.List.Elements.{Contains-append_left, Contains-append_right}
use Rattle.std.proofs.lemmas.List.Sorted.{Contains-permutation, IsPermutation-sym}
use Rattle.tb_lanes.specs.Needing.{place_at}
use Rattle.tb_order.specs.Needed.{IsAmong}
use Rattle.tb_order.specs.Walked.{IsWalked, first_places}

pub among_of : (xs : List ℕ) (q : ℕ) → Contains xs q → IsAmong xs q
among_of xs q h = (h.0, h.1, get_or_default xs h.0 0 q h.1 ∙ h.2)

pub of_among : (xs : List ℕ) (q : ℕ) → IsAmong xs q → Contains xs q
of_among xs q h = (h.0, h.1, get_or_default xs h.0 q 0 h.1 ∙ h.2)

pub at_among : (xs : List ℕ) (i : ℕ) → i < length xs → IsAmong xs (place_at xs i)
at_among xs i l = (i, l, refl)

none_in : (q : ℕ) → IsAmong [] q → ⊥
none_in q h = omega (arith, h.1)

one_in : (x q : ℕ) → IsAmong (x ∷ []) q → x ≡ q
one_in x q (zero, l, e) = e
one_in x q (suc i, l, e) = absurd (omega (arith, l))

-- what is in two lists is in one of them
pub among_both : (xs ys : List ℕ) (q : ℕ) → IsAmong (xs ++ ys) q → IsAmong xs q ⊎ IsAmong ys q
among_both [] ys q h = inr h
among_both (x ∷ xs) ys q (zero, l, e) = inl (0, omega arith, e)
among_both (x ∷ xs) ys q (suc i, l, e) = ⊎_elim (λ a. inl (suc a.0, omega (arith, a.1), a.2)) (λ a. inr a) (among_both xs ys q (i, omega (arith, l), e))

pub among_left : (xs ys : List ℕ) (q : ℕ) → IsAmong xs q → IsAmong (xs ++ ys) q
among_left xs ys q h = among_of (xs ++ ys) q (Contains-append_left xs ys q (of_among xs q h))

pub among_right : (xs ys : List ℕ) (q : ℕ) → IsAmong ys q → IsAmong (xs ++ ys) q
among_right xs ys q h = among_of (xs ++ ys) q (Contains-append_right xs ys q (of_among ys q h))

-- what passes a filter
pub among_filter : (f : ℕ → Bool) (xs : List ℕ) (q : ℕ) → IsAmong (filter f xs) q → IsAmong xs q × (f q ≡ true)
among_filter f [] q h = absurd (none_in q h)
among_filter f (x ∷ xs) q h = by (λ i. among_filter f xs q i) (f x) refl h
  where
    more : (IsAmong (filter f xs) q → IsAmong xs q × (f q ≡ true)) → IsAmong (filter f xs) q → IsAmong (x ∷ xs) q × (f q ≡ true)
    more on h = let r = on h in ((suc r.0.0, omega (arith, r.0.1), r.0.2), r.1)

    by : (IsAmong (filter f xs) q → IsAmong xs q × (f q ≡ true)) → (b : Bool) → f x ≡ b → IsAmong (cond b (x ∷ filter f xs) (filter f xs)) q
        → IsAmong (x ∷ xs) q × (f q ≡ true)
    by on false e h = more on h
    by on true e (zero, l, s) = ((0, omega arith, s), ap f (sym s) ∙ e)
    by on true e (suc i, l, s) = more on (i, omega (arith, l), s)

pub filter_among : (f : ℕ → Bool) (xs : List ℕ) (q : ℕ) → IsAmong xs q → f q ≡ true → IsAmong (filter f xs) q
filter_among f [] q h t = absurd (none_in q h)
filter_among f (x ∷ xs) q h t = by (λ i. filter_among f xs q i t) (f x) refl h
  where
    no : false ≡ true → ⊥
    no z = cc

    by : (IsAmong xs q → IsAmong (filter f xs) q) → (b : Bool) → f x ≡ b → IsAmong (x ∷ xs) q → IsAmong (cond b (x ∷ filter f xs) (filter f xs)) q
    by on true e (zero, l, s) = (0, omega arith, s)
    by on true e (suc i, l, s) = let r = on (i, omega (arith, l), s) in (suc r.0, omega (arith, r.1), r.2)
    by on false e (zero, l, s) = absurd (no (sym e ∙ ap f s ∙ t))
    by on false e (suc i, l, s) = on (i, omega (arith, l), s)

first_of : (first q : ℕ) → IsAmong (first_places first) q → first ≡ suc q
first_of first q h = by (cases_eq first 0)
  where
    by : (first ≡ 0) ⊎ (first ≢ 0) → first ≡ suc q
    by (inl z) = absurd (none_in q (subst (λ b. IsAmong (cond b [] ((first - 1) ∷ [])) q) (eq-eqb first 0 z) h))
    by (inr d) = omega (arith, d, one_in (first - 1) q (subst (λ b. IsAmong (cond b [] ((first - 1) ∷ [])) q) (ne_eqb first 0 d) h))

of_first : (first q : ℕ) → first ≡ suc q → IsAmong (first_places first) q
of_first first q e = subst (λ b. IsAmong (cond b [] ((first - 1) ∷ [])) q) (sym (ne_eqb first 0 (λ z. omega (arith, z, e)))) (0, omega arith, omega (arith, e))

pub walked : (found : List ℕ) (first : ℕ) (all order : List ℕ) → all ≡ found ++ first_places first → IsPermutation all order
    → IsNonDecreasingBy (λ x. x) order → IsWalked found first order
walked found first all order e moved up = record {
  each = λ i l.
      let back = among_of all (place_at order i) (Contains-permutation order all (place_at order i) (IsPermutation-sym all order moved) (of_among order (place_at order i) (at_among order i l))) in
      ⊎_elim (λ a. inl a) (λ a. inr (first_of first (place_at order i) a)) (among_both found (first_places first) (place_at order i) (subst (λ xs. IsAmong xs (place_at order i)) e back));
  all = λ c h.
      among_of order c
      (Contains-permutation all order c moved (of_among all c (subst (λ xs. IsAmong xs c) (sym e) (⊎_elim (λ a. among_left found (first_places first) c a) (λ a. among_right found (first_places first) c (of_first first c a)) h))));
  rising = λ i j l m. up i j 0 l m;
}
