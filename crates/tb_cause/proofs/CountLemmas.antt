-- One step more of a task is counted.
use Rattle.std.proofs.Common.{◌≡◌, ◌+◌, ℕ, suc, zero, List, [], ◌∷◌, Bool, true, false, cond, refl, sym, ap, ap₂, ◌∙◌, Some, unwrap_or, slice_get, option_map}
use Rattle.std.specs.Map.{keys_of, values_of}
use Rattle.std.proofs.lemmas.Option.{slice_get-map}
use Rattle.indexmap.specs.IndexMap.{IndexMap, IsUnique, get, with_value_at}
use Rattle.indexmap.proofs.CallerLemmas.{updates-with_value_at}
use Rattle.indexmap.proofs.MapLemmas.{Found-position, index-first}
use Rattle.indexmap.proofs.RemoveLemmas.{own_first}
use Rattle.tb_model.specs.Names.{Name, same_name}
use Rattle.tb_model.specs.NameLaws.{same_name_equivalence}
use Rattle.tb_model.proofs.TestLemmas.{same_true}
use Rattle.tb_cause.specs.Indexes.{IsCounted, count_in}

abbrev Counts : Type 0
Counts = List (Name × ℕ)

-- one count is written
pub writes_count : {S : Type 0} (old new : IndexMap Name ℕ S) (t : Name) (k : ℕ) → k ≡ count_in (get same_name old) t + 1
    → ((u : Name) → get same_name new u ≡ cond (same_name t u) (Some k) (get same_name old u)) → IsCounted old t new
writes_count old new t k is writes u = at (same_name t u) refl
  where
    at : (b : Bool) → same_name t u ≡ b → count_in (get same_name new) u ≡ cond b (count_in (get same_name old) t + 1) (count_in (get same_name old) u)
    at true e = ap (λ o. unwrap_or o 0) (writes u ∙ ap (λ b. cond b (Some k) (get same_name old u)) e) ∙ is
    at false e = ap (λ o. unwrap_or o 0) (writes u ∙ ap (λ b. cond b (Some k) (get same_name old u)) e)

-- ---- a count that is at an index

-- the name there is the task's
pub key_in : (es : Counts) (i : ℕ) (k t : Name) (v : ℕ) → slice_get es i ≡ Some (k, v) → same_name k t ≡ true → slice_get (keys_of es) i ≡ Some t
key_in es i k t v at same = slice_get-map (λ (e : Name × ℕ). e.0) es i ∙ ap (option_map (λ (e : Name × ℕ). e.0)) at ∙ ap Some (same_true k t same)

entry_at : (es : Counts) (i : ℕ) (t : Name) (k : ℕ) → slice_get (keys_of es) i ≡ Some t → slice_get (values_of es) i ≡ Some k → slice_get es i ≡ Some (t, k)
entry_at [] i t k a b = absurd (cc)
entry_at (e ∷ es) zero t k a b = ap₂ (λ x y. Some (x, y)) (ap (λ o. unwrap_or o t) a) (ap (λ o. unwrap_or o k) b)
entry_at (e ∷ es) (suc i) t k a b = entry_at es i t k a b

module _ {S : Type 0} (m : IndexMap Name ℕ S) (t : Name) (i k : ℕ) (unique : IsUnique same_name m) (key : slice_get (keys_of m.entries) i ≡ Some t) (value : slice_get (values_of m.entries) i ≡ Some k) where
  here : slice_get m.entries i ≡ Some (t, k)
  here = entry_at m.entries i t k key value

  pub count_there : count_in (get same_name m) t ≡ k
  count_there =
      ap (λ o. unwrap_or o 0)
      ((Found-position (same_name t) m.entries i (index-first (same_name t) m.entries i (own_first same_name same_name_equivalence m.entries i t k unique here))).value
      ∙ slice_get-map (λ (e : Name × ℕ). e.1) m.entries i ∙ ap (option_map (λ (e : Name × ℕ). e.1)) here)

  -- it grows there
  pub counts_there : (w : ℕ) → w ≡ k + 1 → IsCounted m t (with_value_at m i w)
  counts_there w is = writes_count m (with_value_at m i w) t w (is ∙ ap (λ n. n + 1) (sym count_there)) (updates-with_value_at m i w same_name_equivalence unique t k here).0
