-- Ordinals that two names have in common at the end don't decide their order.
use Rattle.std.proofs.Common.{◌≡◌, ◌≤◌, ◌==◌, ℕ, ◌-◌, Bool, List, [], ◌∷◌, ◌++◌, true, false, take, drop, reverse, refl, ap, ap₂, sym, ◌∙◌, arith, take-add}
use Rattle.std.specs.declared.cmp.Ordering.TheVariants.{Equal}
use Rattle.std.specs.Cmp.{nat_cmp_is}
use Rattle.std.specs.Cmp.Lexicographic.{slice_cmp}
use Rattle.std.specs.Int.{w64, from_le_bytes, to_le_bytes}
use Rattle.std.specs.Ordering.{nat_cmp}
use Rattle.std.proofs.lemmas.Bool.{eqb-true, eqb-false}
use Rattle.std.proofs.lemmas.List.{reverse-append}
use Rattle.std.proofs.lemmas.Slice.Eq.{bytes_eq-Decides}
use Rattle.tb_model.specs.Names.{Name, name_cmp, same_name}
use Rattle.tb_model.specs.NameLaws.{pointwise_same}
use Rattle.tb_model.proofs.TestLemmas.{same_refl}

nat_cmp_same : (n : ℕ) → nat_cmp n n ≡ Equal
nat_cmp_same n = sym (nat_cmp_is n n Equal refl)

front_cmp : (s x y : Name) → slice_cmp nat_cmp (s ++ x) (s ++ y) ≡ slice_cmp nat_cmp x y
front_cmp [] x y = refl
front_cmp (n ∷ s) x y = rw (nat_cmp_same n) (front_cmp s x y)

pub name_cmp-append : (x y s : Name) → name_cmp (x ++ s) (y ++ s) ≡ name_cmp x y
name_cmp-append x y s = ap₂ (slice_cmp nat_cmp) (reverse-append x s) (reverse-append y s) ∙ front_cmp (reverse s) (reverse x) (reverse y)

pub same_is : (a b : Name) → same_name a b ≡ true → a ≡ b
same_is a b h = (bytes_eq-Decides a b).0 (pointwise_same a b ∙ h)

-- numbers made of eight bytes each, which give the bytes back, say whether these are the same
pub by_number : (a b : List ℕ) (m n : ℕ) → m ≡ from_le_bytes w64 a → n ≡ from_le_bytes w64 b → to_le_bytes w64 m ≡ a → to_le_bytes w64 n ≡ b → (m == n) ≡ same_name a b
by_number a b m n of_a of_b bytes others = decided (m == n) refl
  where
    alike : m ≡ n → same_name a b ≡ true
    alike e = ap (λ x. same_name x b) (sym bytes ∙ ap (to_le_bytes w64) e ∙ others) ∙ same_refl b

    unlike : (m ≡ n → ⊥) → (t : Bool) → same_name a b ≡ t → same_name a b ≡ false
    unlike differ true e = absurd (differ (of_a ∙ ap (from_le_bytes w64) (same_is a b e) ∙ sym of_b))
    unlike differ false e = e

    decided : (t : Bool) → (m == n) ≡ t → (m == n) ≡ same_name a b
    decided true e = e ∙ sym (alike (eqb-true m n e))
    decided false e = e ∙ sym (unlike (eqb-false m n e) (same_name a b) refl)

-- a front, and what is after it up to m
front_and_rest : (a : Name) (i m : ℕ) → i ≤ m → take m a ≡ take i a ++ take (m - i) (drop i a)
front_and_rest a i m le = ap (λ k. take k a) (omega arith) ∙ take-add i (m - i) a

-- ordinals that two names share, taken off both, don't change their order
pub name_cmp_without : (a b : Name) (i m j n : ℕ) → i ≤ m → j ≤ n → same_name (take (m - i) (drop i a)) (take (n - j) (drop j b)) ≡ true → name_cmp (take i a) (take j b) ≡ name_cmp (take m a) (take n b)
name_cmp_without a b i m j n le le' h =
    sym (name_cmp-append (take i a) (take j b) (take (n - j) (drop j b)))
    ∙ ap₂ name_cmp (ap (λ s. take i a ++ s) (sym (same_is _ _ h)) ∙ sym (front_and_rest a i m le)) (sym (front_and_rest b j n le'))
