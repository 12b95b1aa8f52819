-- A name is within another just where it ends with its ordinals.
use Rattle.std.proofs.Common.{◌≡◌, ℕ, zero, suc, ◌+◌, ◌-◌, ◌<◌, ◌≤◌, [], ◌∷◌, Bool, true, false, length, take, drop, arith, refl, sym, ap, ◌∙◌, ◌&&◌, ◌||◌, ◌==◌, nat_eq, length-drop}
use Rattle.std.proofs.Math.Seq.{take-length}
use Rattle.std.specs.Cmp.Lexicographic.{pointwise}
use Rattle.tb_model.specs.Names.{Name, same_name, is_within}
use Rattle.tb_model.specs.NameLaws.{pointwise_same}

-- names of two lengths aren't one
pub different : (c m : Name) → (length c ≡ length m → ⊥) → same_name c m ≡ false
different [] [] h = absurd (h refl)
different [] (k ∷ m) h = refl
different (n ∷ c) [] h = refl
different (n ∷ c) (k ∷ m) h = and_no (n == k) _ (different c m (λ e. h (ap suc e)))
  where
    and_no : (a b : Bool) → b ≡ false → (a && b) ≡ false
    and_no true b h = h
    and_no false b h = refl

pub short_without : (c m : Name) → length m < length c → is_within c m ≡ false
short_without c [] h = different c [] (λ e. omega arith)
short_without c (n ∷ m) h =
    ap (λ t. t || is_within c m) (different c (n ∷ m) (λ e. omega arith)) ∙ short_without c m (omega arith)

or_false : (a : Bool) → (a || false) ≡ a
or_false true = refl
or_false false = refl

pub ends_with : (k : ℕ) (c m : Name) → length m ≡ k + length c → is_within c m ≡ same_name c (drop k m)
ends_with zero c [] e = refl
ends_with zero c (n ∷ m) e = ap (λ t. same_name c (n ∷ m) || t) (short_without c m (omega arith)) ∙ or_false (same_name c (n ∷ m))
ends_with (suc k) c [] e = absurd (omega arith)
ends_with (suc k) c (n ∷ m) e = ap (λ t. t || is_within c m) (different c (n ∷ m) (λ l. omega arith)) ∙ ends_with k c m (omega arith)

pub suffix_within : (c m : Name) (r : Bool) → length c ≤ length m → r ≡ pointwise nat_eq c (take (length m - (length m - length c)) (drop (length m - length c) m)) → r ≡ is_within c m
suffix_within c m r le e =
    let k : ℕ = length m - length c in
    let whole : take (length m - k) (drop k m) ≡ drop k m = ap (λ n. take n (drop k m)) (sym (length-drop k m)) ∙ take-length (drop k m) in
    e ∙ ap (pointwise nat_eq c) whole ∙ pointwise_same c (drop k m) ∙ sym (ends_with k c m (omega arith))
