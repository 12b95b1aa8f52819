-- The order of names below one task: the task first, then its children by their ordinals, each with
-- its descendants.
use Rattle.std.proofs.Common.{◌≡◌, ◌≢◌, ℕ, ◌<◌, List, [], ◌∷◌, ◌++◌, reverse, refl, sym, ap₂, ◌∙◌, arith, append_assoc}
use Rattle.std.specs.Ordering.{nat_cmp}
use Rattle.std.specs.Cmp.Lexicographic.{slice_cmp}
use Rattle.std.specs.declared.cmp.Ordering.TheVariants.{Less, Equal, Greater}
use Rattle.std.proofs.lemmas.List.{reverse-append}
use Rattle.std.proofs.lemmas.Bool.Decides.{nat_tests}
use Rattle.tb_model.specs.Names.{Name, name_cmp}
use Rattle.tb_model.specs.LeastNames.{IsAtMost}

same_number : (n : ℕ) → nat_cmp n n ≡ Equal
same_number n = grind (arith, nat_tests)

lesser_number : (m n : ℕ) → m < n → nat_cmp m n ≡ Less
lesser_number m n h = grind (arith, nat_tests)

-- a common beginning decides nothing
slice_cmp-append_left : (t a b : List ℕ) → slice_cmp nat_cmp (t ++ a) (t ++ b) ≡ slice_cmp nat_cmp a b
slice_cmp-append_left [] a b = refl
slice_cmp-append_left (n ∷ t) a b = rw (same_number n) (slice_cmp-append_left t a b)

-- names below t compare as their ways down from it
name_cmp-below : (t x y : Name) → name_cmp (x ++ t) (y ++ t) ≡ slice_cmp nat_cmp (reverse x) (reverse y)
name_cmp-below t x y =
    ap₂ (slice_cmp nat_cmp) (reverse-append x t) (reverse-append y t) ∙ slice_cmp-append_left (reverse t) (reverse x) (reverse y)

first_of_all : (a : List ℕ) → slice_cmp nat_cmp [] a ≢ Greater
first_of_all [] e = cc
first_of_all (n ∷ a) e = cc

-- a task comes in front of its descendants, and none in front of itself
pub at_most_below : (t x : Name) → IsAtMost t (x ++ t)
at_most_below t x e = first_of_all (reverse x) (sym (name_cmp-below t [] x) ∙ e)

-- a child comes with all its descendants in front of the later children and theirs
pub at_most_later : (t x y : Name) (m n : ℕ) → m < n → IsAtMost (x ++ m ∷ t) (y ++ n ∷ t)
at_most_later t x y m n h e =
    let split = λ (z : Name) (k : ℕ). append_assoc z (k ∷ []) t in
    let ends = λ (z : Name) (k : ℕ). reverse-append z (k ∷ []) in
    let less : slice_cmp nat_cmp (m ∷ reverse x) (n ∷ reverse y) ≡ Less = rw (lesser_number m n h) refl in
    let is : name_cmp (x ++ m ∷ t) (y ++ n ∷ t) ≡ Less =
    sym (ap₂ name_cmp (split x m) (split y n)) ∙ name_cmp-below t (x ++ m ∷ []) (y ++ n ∷ [])
    ∙ ap₂ (slice_cmp nat_cmp) (ends x m) (ends y n) ∙ less in
    cc
