-- Where none of the others has to do with a child by its items.
use Rattle.std.proofs.Common.{◌≡◌, ◌<◌, ◌≤◌, ◌+◌, ℕ, zero, suc, List, [], Bool, true, false, ◌&&◌, ◌||◌, nat_lt, length, refl, ap, ap₂, ◌∙◌, subst, arith, ltb}
use Rattle.std.proofs.lemmas.Bool.{ltb-true, ltb-false}
use Rattle.tb_model.specs.declared.item.Item.{Item}
use Rattle.tb_model.specs.Items.{Relation, is_before, is_apart, some_meet}
use Rattle.tb_model.proofs.SiblingsLemmas.{meets_none}
use Rattle.tb_depend.specs.Relations.{items_at, depends, excludes}
use Rattle.tb_depend.specs.Met.{IsFreeOf, NoneLater, NoneEarlier}
use Rattle.tb_depend.proofs.RelationsLemmas.{items_past}

only_if : (a b : Bool) → (a ≡ true → b ≡ false) → (a && b) ≡ false
only_if true b h = h refl
only_if false b h = refl

pub not_met : (siblings : List (List Item)) (n : ℕ) → NoneLater siblings n → NoneEarlier siblings n → (m : ℕ)
    → (depends siblings m n ≡ false) × (excludes siblings m n ≡ false)
not_met siblings n behind front m = (
  only_if (nat_lt n m) _ (λ h. (behind m (ltb-true n m h)).0),
  ap₂ (λ (a b : Bool). a || b) (only_if (nat_lt n m) (some_meet is_apart (items_at siblings m) (items_at siblings n)) (λ h. (behind m (ltb-true n m h)).1))
      (only_if (nat_lt m n) (some_meet is_apart (items_at siblings n) (items_at siblings m)) (λ h. front m (ltb-true m n h))),
)

-- without items it isn't met
pub bare_not_met : (siblings : List (List Item)) (n : ℕ) → items_at siblings n ≡ [] → (m : ℕ) → (depends siblings m n ≡ false) × (excludes siblings m n ≡ false)
bare_not_met siblings n none = not_met siblings n (λ m low. (no_old is_before m, no_old is_apart m)) (λ m low. ap (λ (its : List Item). some_meet is_apart its (items_at siblings m)) none)
  where
    no_old : (test : Relation → Bool) (m : ℕ) → some_meet test (items_at siblings m) (items_at siblings n) ≡ false
    no_old test m = ap (λ (its : List Item). some_meet test (items_at siblings m) its) none ∙ meets_none test (items_at siblings m)

-- ---- one child more

-- a child that isn't there has no items
pub free_past : (siblings : List (List Item)) (n m : ℕ) → length siblings < m → IsFreeOf siblings m n
free_past siblings n m past = (
  ap (λ (its : List Item). some_meet is_before its (items_at siblings n)) (items_past siblings m past),
  ap (λ (its : List Item). some_meet is_apart its (items_at siblings n)) (items_past siblings m past),
)

pub more_behind : (siblings : List (List Item)) (n k : ℕ) → IsFreeOf siblings (k + 1) n → ((m : ℕ) → n < m → m ≤ k → IsFreeOf siblings m n) → (m : ℕ) → n < m
    → m ≤ k + 1 → IsFreeOf siblings m n
more_behind siblings n k here rest m low high = by (ltb k m) refl
  where
    by : (b : Bool) → ltb k m ≡ b → IsFreeOf siblings m n
    by false e = rest m low (ltb-false k m e)
    by true e = let same : k + 1 ≡ m = omega (arith, high, ltb-true k m e) in subst (λ j. IsFreeOf siblings j n) same here

pub all_behind : (siblings : List (List Item)) (n k : ℕ) → length siblings ≤ k → ((m : ℕ) → n < m → m ≤ k → IsFreeOf siblings m n) → NoneLater siblings n
all_behind siblings n k over rest m low = by (ltb k m) refl
  where
    by : (b : Bool) → ltb k m ≡ b → IsFreeOf siblings m n
    by false e = rest m low (ltb-false k m e)
    by true e = free_past siblings n m (omega (arith, over, ltb-true k m e))

-- none is in front of the first
pub first_front : (siblings : List (List Item)) (n m : ℕ) → m < 1 → some_meet is_apart (items_at siblings n) (items_at siblings m) ≡ false
first_front siblings n zero low = meets_none is_apart (items_at siblings n)
first_front siblings n (suc m) low = absurd (omega (arith, low))

pub more_front : (siblings : List (List Item)) (n k : ℕ) → some_meet is_apart (items_at siblings n) (items_at siblings k) ≡ false
    → ((m : ℕ) → m < k → some_meet is_apart (items_at siblings n) (items_at siblings m) ≡ false) → (m : ℕ) → m < k + 1
    → some_meet is_apart (items_at siblings n) (items_at siblings m) ≡ false
more_front siblings n k here rest m high = by (ltb m k) refl
  where
    by : (b : Bool) → ltb m k ≡ b → some_meet is_apart (items_at siblings n) (items_at siblings m) ≡ false
    by true e = rest m (ltb-true m k e)
    by false e = let same : k ≡ m = omega (arith, high, ltb-false m k e) in subst (λ j. some_meet is_apart (items_at siblings n) (items_at siblings j) ≡ false) same here
