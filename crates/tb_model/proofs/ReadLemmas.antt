-- The passes over a name's parts, from the last.
use Rattle.std.proofs.Common.{◌≡◌, ℕ, suc, ◌+◌, ◌-◌, ◌<◌, ◌≤◌, List, [], ◌∷◌, ◌++◌, Bool, true, false, cond, length, take, drop, arith, refl, sym, ap, ◌∙◌, subst, append_assoc, append-nil, length-append, length-drop, ◌&&◌, Option, Some, None}
use Rattle.std.proofs.Math.Seq.{take-length}
use Rattle.tb_model.specs.Names.{AreFromOne}
use Rattle.tb_model.specs.Spelling.{name_text, is_zero, is_ordinal, ordinal_of, spells_name, spelled_name, IsLastPart}
use Rattle.tb_model.proofs.PartLemmas.{spells_down, spelled_down, spells_end, spelled_end, name_text-spelled_name, ordinal_above_zero}

pub none_is : (t : Bool) (n : ℕ) (r : Option ℕ) → r ≡ cond t (Some n) None → r ≡ None → t ≡ false
none_is true n r e h = absurd (let clash : Some n ≡ None = sym e ∙ h in cc)
none_is false n r e h = refl

pub some_is : (t : Bool) (n m : ℕ) (r : Option ℕ) → r ≡ cond t (Some n) None → r ≡ Some m → (t ≡ true) × (m ≡ n)
some_is true n m r e h = (refl, (let same : Some m ≡ Some n = sym h ∙ e in cc))
some_is false n m r e h = absurd (let clash : None ≡ Some m = sym e ∙ h in cc)

pub and_no : (a b : Bool) → b ≡ false → (a && b) ≡ false
and_no true b h = h
and_no false b h = refl

pub and_all : (a b : Bool) → b ≡ true → (a && b) ≡ a
and_all true b h = h
and_all false b h = refl

-- the bytes after an index, as a slice of them is shown
slice_behind : (rest : List ℕ) (at : ℕ) → take (length rest - at) (drop at rest) ≡ drop at rest
slice_behind rest at = ap (λ k. take k (drop at rest)) (sym (length-drop at rest)) ∙ take-length (drop at rest)

from_one_snoc : (numbers : List ℕ) (n : ℕ) → AreFromOne numbers → 0 < n → AreFromOne (numbers ++ n ∷ [])
from_one_snoc [] n h p = (p, tt)
from_one_snoc (m ∷ numbers) n h p = (h.0, from_one_snoc numbers n h.1 p)

module _ (text rest : List ℕ) (at : ℕ) (r : Option ℕ) (l : IsLastPart rest at) (some : 0 < at) (found : r ≡ ordinal_of (take (length rest - at) (drop at rest))) where
  read : r ≡ ordinal_of (drop at rest)
  read = found ∙ ap ordinal_of (slice_behind rest at)

  pub not_spelled : r ≡ None → spells_name rest ≡ false
  not_spelled none = spells_down rest at l some ∙ and_no _ _ (none_is (is_ordinal (drop at rest)) _ r read none)

  pub no_name : spells_name rest ≡ spells_name text → r ≡ None → false ≡ spells_name text
  no_name same none = sym (not_spelled none) ∙ same

  pub not_none : spells_name rest ≡ true → r ≡ None → ⊥
  not_none all none = let clash : true ≡ false = sym all ∙ not_spelled none in cc

  module _ (n : ℕ) (is : r ≡ Some n) where
    front_spelled : spells_name rest ≡ spells_name (take (at - 1) rest)
    front_spelled = spells_down rest at l some ∙ and_all _ _ (some_is (is_ordinal (drop at rest)) _ n r read is).0

    pub front_same : (t : Bool) → spells_name rest ≡ t → spells_name (take (at - 1) rest) ≡ t
    front_same t e = sym front_spelled ∙ e

    -- the ordinal goes from the parts that are left to those that were read
    pub number_read : (numbers more : List ℕ) → more ≡ numbers ++ n ∷ [] → numbers ++ spelled_name rest ≡ spelled_name text → more ++ spelled_name (take (at - 1) rest) ≡ spelled_name text
    number_read numbers more e h =
        let one : spelled_name rest ≡ n ∷ spelled_name (take (at - 1) rest) = spelled_down rest at l some ∙ ap (λ m. m ∷ spelled_name (take (at - 1) rest)) (sym (some_is (is_ordinal (drop at rest)) _ n r read is).1) in
        ap (λ ns. ns ++ spelled_name (take (at - 1) rest)) e
        ∙ append_assoc numbers (n ∷ []) (spelled_name (take (at - 1) rest))
        ∙ ap (λ ns. numbers ++ ns) (sym one) ∙ h

    pub from_one_read : (numbers more : List ℕ) → more ≡ numbers ++ n ∷ [] → AreFromOne numbers → AreFromOne more
    from_one_read numbers more e h =
        let is_some = some_is (is_ordinal (drop at rest)) _ n r read is in
        let positive : 0 < n = subst (λ m. 0 < m) (sym is_some.1) (ordinal_above_zero (drop at rest) is_some.0) in
        subst AreFromOne (sym e) (from_one_snoc numbers n h positive)

    -- with no capacity for one more, there are many
    pub many : (numbers : List ℕ) (room : ℕ) → 8 ≤ room → (length numbers + 1 ≤ room → ⊥) → numbers ++ spelled_name rest ≡ spelled_name text → 3 < length (spelled_name text)
    many numbers room eight full h =
        let one = spelled_down rest at l some in
        let total : length numbers + suc (length (spelled_name (take (at - 1) rest))) ≡ length (spelled_name text) = sym (length-append numbers _) ∙ ap (λ ns. length (numbers ++ ns)) (sym one) ∙ ap length h in
        omega (arith, full)

pub last_zero : (text rest : List ℕ) (at : ℕ) → IsLastPart rest at → at ≤ 0 → spells_name rest ≡ spells_name text → is_zero rest ≡ spells_name text
last_zero text rest at l none same = sym (spells_end rest at l none) ∙ same

pub all_read : (text rest : List ℕ) (at : ℕ) → IsLastPart rest at → at ≤ 0 → (numbers : List ℕ) → numbers ++ spelled_name rest ≡ spelled_name text → numbers ≡ spelled_name text
all_read text rest at l none numbers h = sym (append-nil numbers) ∙ ap (λ ns. numbers ++ ns) (sym (spelled_end rest at l none)) ∙ h

pub all_written : (text numbers : List ℕ) → numbers ≡ spelled_name text → spells_name text ≡ true → name_text numbers ≡ text
all_written text numbers e h = ap name_text e ∙ name_text-spelled_name text h
