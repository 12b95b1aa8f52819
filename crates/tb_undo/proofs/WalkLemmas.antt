-- A walk over the unended children of a task finds the least that passes a test.
use Rattle.std.proofs.Common.{◌≡◌, ◌<◌, ◌≤◌, ◌&&◌, ℕ, List, Bool, true, false, Some, None, refl, ap, ◌∙◌, subst, arith, ◌⊎◌, inl, inr}
use Rattle.std.proofs.lemmas.Bool.{both_ways, cases_lt, le-ltb}
use Rattle.tb_model.specs.declared.item.Item.{Item}
use Rattle.tb_model.specs.Names.{Name, child}
use Rattle.tb_model.specs.Items.{some_meet, is_before}
use Rattle.tb_depend.specs.Relations.{items_at, depends}
use Rattle.tb_excl.specs.Holders.{IsLeastNumber}
use Rattle.tb_wait.specs.Kin.{Tasks as Waits, IsUnendedChild, IsNextUnended}
use Rattle.tb_undo.specs.Obstacles.{IsUnendedWhere}

-- none of the unended children up to this one passes
pub record NoneUpTo (tasks : Waits) (t : Name) (test : ℕ → Bool) (low : ℕ) : Type 0 where
  pub none : (k : ℕ) → 0 < k → k ≤ low → IsUnendedChild tasks t (child t k) → test k ≡ false

pub none_at_first : (tasks : Waits) (t : Name) (test : ℕ → Bool) → NoneUpTo tasks t test 0
none_at_first tasks t test = record { none = λ k p l u. absurd (omega (arith, p, l)) }

module _ (tasks : Waits) (t : Name) (test : ℕ → Bool) (low : ℕ) (so_far : NoneUpTo tasks t test low) where
  pub none_next : (m : ℕ) → IsNextUnended tasks t low (Some m) → test m ≡ false → NoneUpTo tasks t test m
  none_next m next fails = record { none = λ k p l u. at k p l u (cases_lt low k) }
    where
      at : (k : ℕ) → 0 < k → k ≤ m → IsUnendedChild tasks t (child t k) → (low < k) ⊎ (k ≤ low) → test k ≡ false
      at k p l u (inl a) =
          let it = next.least k a u in
          let same : m ≡ it.0 = cc in
          let is : k ≡ m = omega (arith, it.2, same, l) in
          ap test is ∙ fails
      at k p l u (inr b) = so_far.none k p b u

  pub passing : (m : ℕ) → IsNextUnended tasks t low (Some m) → test m ≡ true → IsLeastNumber (IsUnendedWhere tasks t test) (Some m)
  passing m next passes = record { found = found; least = λ n u. least n u (cases_lt low n) }
    where
      found : (n : ℕ) → Some m ≡ Some n → IsUnendedWhere tasks t test n
      found n e =
          let same : m ≡ n = cc in
          let it = next.found m refl in
          subst (IsUnendedWhere tasks t test) same (record { from_one = omega (arith, it.0); unended = it.1; passes = passes })

      least : (n : ℕ) → IsUnendedWhere tasks t test n → (low < n) ⊎ (n ≤ low) → (k : ℕ) × (Some m ≡ Some k) × (k ≤ n)
      least n u (inl a) = next.least n a u.unended
      least n u (inr b) = absurd (both_ways (test n) (so_far.none n u.from_one b u.unended) u.passes)

  pub none_left : IsNextUnended tasks t low None → IsLeastNumber (IsUnendedWhere tasks t test) None
  none_left next = record { found = λ n e. cc; least = λ n u. least n u (cases_lt low n) }
    where
      least : (n : ℕ) → IsUnendedWhere tasks t test n → (low < n) ⊎ (n ≤ low) → (k : ℕ) × (None ≡ Some k) × (k ≤ n)
      least n u (inl a) = next.least n a u.unended
      least n u (inr b) = absurd (both_ways (test n) (so_far.none n u.from_one b u.unended) u.passes)

  -- from n on no ordinal passes
  pub none_behind : (m n : ℕ) → IsNextUnended tasks t low (Some m) → n ≤ m → ((k : ℕ) → n ≤ k → test k ≡ false) → IsLeastNumber (IsUnendedWhere tasks t test) None
  none_behind m n next le fails = record { found = λ k e. cc; least = λ k u. least k u (cases_lt low k) }
    where
      least : (k : ℕ) → IsUnendedWhere tasks t test k → (low < k) ⊎ (k ≤ low) → (i : ℕ) × (None ≡ Some i) × (i ≤ k)
      least k u (inl a) =
          let it = next.least k a u.unended in
          let same : m ≡ it.0 = cc in
          absurd (both_ways (test k) (fails k (omega (arith, it.2, same, le))) u.passes)
      least k u (inr b) = absurd (both_ways (test k) (so_far.none k u.from_one b u.unended) u.passes)

-- a child depends on no later one
pub later_free : (siblings : List (List Item)) (n k : ℕ) → n ≤ k → depends siblings n k ≡ false
later_free siblings n k l = ap (λ b. b && some_meet is_before (items_at siblings n) (items_at siblings k)) (le-ltb k n l)
