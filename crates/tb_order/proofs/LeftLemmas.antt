-- The bounds of a row that are left.
use Rattle.std.proofs.Common.{◌≡◌, ◌==◌, ◌<◌, ◌≤◌, ℕ, zero, suc, List, [], ◌∷◌, Bool, true, false, ◌||◌, cond, nat_lt, length, filter, get_or, refl, sym, ap, ◌∙◌, subst, arith, ◌⊎◌, inl, inr, ⊎_elim, eqb-true, lt-ltb, ltb-true}
use Rattle.std.specs.Prelude.{slice_index_or}
use Rattle.std.proofs.lemmas.Bool.{both_ways, or_cases, or_left, or_right}
use Rattle.tb_lanes.specs.declared.lane_bound.LaneBound.{LaneBound}
use Rattle.tb_lanes.specs.Bounds.{IsRising, bound_by, bound_in}
use Rattle.tb_lanes.specs.Clocks.{says}
use Rattle.tb_order.specs.declared.pending.Pending.{Pending}
use Rattle.tb_order.specs.Pending.{IsPartOf, is_left}
use Rattle.tb_lanes.proofs.BoundLemmas.{under_max}

-- each lane of the row is after this one
abbrev IsOver : ℕ → List LaneBound → Type 0
IsOver k row = (i : ℕ) (y : LaneBound) → i < length row → y ≡ get_or row i y → k < y.lane

over_put : (k : ℕ) (x : LaneBound) (row : List LaneBound) → k < x.lane → IsOver k row → IsOver k (x ∷ row)
over_put k x row l over zero y m e = omega (arith, l, ap (λ (z : LaneBound). z.lane) e)
over_put k x row l over (suc i) y m e = over i y (omega (arith, m)) e

rising_put : (x : LaneBound) (row : List LaneBound) → IsOver x.lane row → IsRising row → IsRising (x ∷ row)
rising_put x row over up zero zero y z l m e f = absurd (omega (arith, l))
rising_put x row over up zero (suc j) y z l m e f = omega (arith, over j z (omega (arith, m)) f, ap (λ (w : LaneBound). w.lane) e)
rising_put x row over up (suc i) zero y z l m e f = absurd (omega (arith, l))
rising_put x row over up (suc i) (suc j) y z l m e f = up i j y z (omega (arith, l)) (omega (arith, m)) e f

module _ (firsts : List ℕ) where
  over_left : (k : ℕ) (row : List LaneBound) → IsOver k row → IsOver k (filter (is_left firsts) row)
  over_left k [] over = over
  over_left k (x ∷ row) over = by (over_left k row (λ i y l e. over (suc i) y (omega (arith, l)) e)) (is_left firsts x)
    where
      by : IsOver k (filter (is_left firsts) row) → (b : Bool) → IsOver k (cond b (x ∷ filter (is_left firsts) row) (filter (is_left firsts) row))
      by rest true = over_put k x _ (over 0 x (omega arith) refl) rest
      by rest false = rest

  rising_left : (row : List LaneBound) → IsRising row → IsRising (filter (is_left firsts) row)
  rising_left [] up = up
  rising_left (x ∷ row) up = by (rising_left row (λ i j y z l m e f. up (suc i) (suc j) y z (omega (arith, l)) (omega (arith, m)) e f)) (is_left firsts x)
    where
      by : IsRising (filter (is_left firsts) row) → (b : Bool) → IsRising (cond b (x ∷ filter (is_left firsts) row) (filter (is_left firsts) row))
      by rest true = rising_put x _ (over_left x.lane row (λ i y l e. up 0 (suc i) x y (omega arith) (omega (arith, l)) refl e)) rest
      by rest false = rest

  says_less : (row : List LaneBound) (k q : ℕ) → says (bound_in (filter (is_left firsts) row)) k q ≡ true → says (bound_in row) k q ≡ true
  says_less [] k q h = h
  says_less (x ∷ row) k q h = under_max q (bound_by x k) (bound_in row k) ∙ by (says_less row k q) (is_left firsts x) h
    where
      by : (says (bound_in (filter (is_left firsts) row)) k q ≡ true → says (bound_in row) k q ≡ true) → (b : Bool)
          → says (bound_in (cond b (x ∷ filter (is_left firsts) row) (filter (is_left firsts) row))) k q ≡ true
          → (nat_lt q (bound_by x k) || nat_lt q (bound_in row k)) ≡ true
      by on true h =
          ⊎_elim (λ a. or_left (nat_lt q (bound_by x k)) _ a) (λ a. or_right (nat_lt q (bound_by x k)) _ (on a))
          (or_cases (nat_lt q (bound_by x k)) (nat_lt q (bound_in (filter (is_left firsts) row) k)) (sym (under_max q (bound_by x k) (bound_in (filter (is_left firsts) row) k)) ∙ h))
      by on false h = or_right (nat_lt q (bound_by x k)) _ (on h)

  -- a bound that tells of a step not before the one that is listed is left
  is_left_by : (x : LaneBound) (k q : ℕ) → nat_lt q (bound_by x k) ≡ true → slice_index_or firsts k 0 ≤ q → is_left firsts x ≡ true
  is_left_by x k q h l = by (x.lane == k) refl h
    where
      by : (b : Bool) → (x.lane == k) ≡ b → nat_lt q (cond b x.to 0) ≡ true → is_left firsts x ≡ true
      by false e h = absurd (omega (arith, ltb-true q 0 h))
      by true e h =
          lt-ltb (slice_index_or firsts x.lane 0) x.to (omega (arith, ap (λ n. slice_index_or firsts n 0) (eqb-true x.lane k e), l, ltb-true q x.to h))

  says_left : (row : List LaneBound) (k q : ℕ) → says (bound_in row) k q ≡ true → slice_index_or firsts k 0 ≤ q
      → says (bound_in (filter (is_left firsts) row)) k q ≡ true
  says_left [] k q h l = h
  says_left (x ∷ row) k q h l = by (λ a. says_left row k q a l) (is_left firsts x) refl
      (or_cases (nat_lt q (bound_by x k)) (nat_lt q (bound_in row k)) (sym (under_max q (bound_by x k) (bound_in row k)) ∙ h))
    where
      by : (says (bound_in row) k q ≡ true → says (bound_in (filter (is_left firsts) row)) k q ≡ true) → (b : Bool) → is_left firsts x ≡ b
          → (nat_lt q (bound_by x k) ≡ true) ⊎ (nat_lt q (bound_in row k) ≡ true)
          → says (bound_in (cond b (x ∷ filter (is_left firsts) row) (filter (is_left firsts) row))) k q ≡ true
      by on true e (inl a) = under_max q (bound_by x k) (bound_in (filter (is_left firsts) row) k) ∙ or_left (nat_lt q (bound_by x k)) _ a
      by on true e (inr a) = under_max q (bound_by x k) (bound_in (filter (is_left firsts) row) k) ∙ or_right (nat_lt q (bound_by x k)) _ (on a)
      by on false e (inl a) = absurd (both_ways (is_left firsts x) e (is_left_by x k q a l))
      by on false e (inr a) = on a

pub part_left : (pending : Pending) (row left : List LaneBound) → left ≡ filter (is_left pending.firsts.items) row → IsPartOf pending row left
part_left pending row left e = record {
  rising = λ up. subst IsRising (sym e) (rising_left pending.firsts.items row up);
  less = λ k q h. says_less pending.firsts.items row k q (subst (λ r. says (bound_in r) k q ≡ true) e h);
  left = λ k q h l. subst (λ r. says (bound_in r) k q ≡ true) (sym e) (says_left pending.firsts.items row k q h l);
}
