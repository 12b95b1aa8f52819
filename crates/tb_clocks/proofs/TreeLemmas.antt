-- Parents come in front of their children, by their ids.
use Rattle.std.proofs.Common.{◌≡◌, ◌<◌, ◌≤◌, ℕ, zero, suc, List, [], ◌∷◌, ◌++◌, true, false, ◌&&◌, ◌||◌, length, refl, sym, ap, ap₂, ◌∙◌, subst, arith, nat_lt, Option, Some, None, slice_get, ⊎_elim}
use Rattle.std.specs.List.{list_any}
use Rattle.std.proofs.lemmas.Bool.{false≢true, and_parts, false_from_ne_true, or_cases}
use Rattle.std.proofs.lemmas.Bool.Decides.{nat_tests}
use Rattle.tb_model.specs.declared.action.Action.{Action}
use Rattle.tb_model.specs.declared.action.Action.TheVariants.{Start, Let, Load, Store, Print, Spawn, Wait, Open, Close, Test, End, Fault}
use Rattle.tb_model.specs.Facts.{History, IsSpawned, is_spawn_of, own, spawns}
use Rattle.tb_model.specs.Legal.{Cells, Legal}
use Rattle.tb_model.specs.Names.{Name, same_name}
use Rattle.tb_model.specs.Siblings.{is_later}
use Rattle.tb_model.proofs.FactsLemmas.{cons_tail, spawn_names}
use Rattle.tb_model.proofs.NeedsLemmas.{may_spawned}
use Rattle.tb_model.proofs.TestLemmas.{same_refl, same_true}
use Rattle.tb_clocks.specs.Known.{HasId, generated, names_in, ordinal_of, parent_of}
use Rattle.tb_clocks.specs.Tree.{IsAbove}
use Rattle.tb_clocks.proofs.TaskLemmas.{among, generates_it, id_spawned, in_front, one_id, only_one, within}

none_name : (t : Name) → ◌≡◌ {A = Option Name} None (Some t) → ⊥
none_name t h = cc

some_name : (t u : Name) → ◌≡◌ {A = Option Name} (Some t) (Some u) → t ≡ u
some_name t u h = cc

-- ---- each task has an id

behind : {A : Type 0} (xs ys : List A) (x : A) → slice_get ys 0 ≡ Some x → slice_get (xs ++ ys) (length xs) ≡ Some x
behind [] ys x h = h
behind (y ∷ xs) ys x h = behind xs ys x h

generated_one : (t : Name) (a : Action) → is_spawn_of t a ≡ true → slice_get (generated a) 0 ≡ Some t
generated_one t (Spawn s) h = ap (λ (u : Name). Some u) (same_true s.child t h)
generated_one t Start h = absurd (false≢true h)
generated_one t (Let r x) h = absurd (false≢true h)
generated_one t (Load r c x) h = absurd (false≢true h)
generated_one t (Store c x) h = absurd (false≢true h)
generated_one t (Print x) h = absurd (false≢true h)
generated_one t (Wait items) h = absurd (false≢true h)
generated_one t Open h = absurd (false≢true h)
generated_one t Close h = absurd (false≢true h)
generated_one t (Test b) h = absurd (false≢true h)
generated_one t End h = absurd (false≢true h)
generated_one t Fault h = absurd (false≢true h)

pub named : (H : History) (t : Name) → IsSpawned H t → (i : ℕ) × HasId H i t
named [] [] s = (0, refl)
named [] (n ∷ t) s = absurd (false≢true s)
named (v ∷ H) [] s =
    let p = named H [] refl in
    (p.0, in_front (names_in H) (generated v.action) p.0 [] p.1)
named (v ∷ H) (n ∷ t) s =
    ⊎_elim
    (λ g. (length (names_in H), behind (names_in H) (generated v.action) (n ∷ t) (generated_one (n ∷ t) v.action g)))
    (λ r. let p = named H (n ∷ t) r in (p.0, in_front (names_in H) (generated v.action) p.0 (n ∷ t) p.1))
    (or_cases (spawns (n ∷ t) v) (list_any (spawns (n ∷ t)) H) s)

-- ---- a parent has a lower one

record Lower (H : History) (i : ℕ) (p : Name) : Type 0 where
  id : ℕ
  has : HasId H id p
  low : id < i

module _ (cells : Cells) where
  parent_lower : (H : History) (i n : ℕ) (p : Name) → Legal cells H → HasId H i (n ∷ p) → Lower H i p
  parent_lower [] zero n p l h = absurd (let e : ◌≡◌ {A = Name} [] (n ∷ p) = some_name [] (n ∷ p) h in cc)
  parent_lower [] (suc i) n p l h = absurd (none_name (n ∷ p) h)
  parent_lower (v ∷ H) i n p l h =
      ⊎_elim
      (λ a.
      let q = parent_lower H i n p l.0 a in
      record { id = q.id; has = in_front (names_in H) (generated v.action) q.id p q.has; low = q.low })
      (λ a.
      let g : slice_get (generated v.action) 0 ≡ Some (n ∷ p) = subst (λ k. slice_get (generated v.action) k ≡ Some (n ∷ p)) (only_one v.action a.at (n ∷ p) a.is) a.is in
      let e = spawn_names cells v.task (n ∷ p) (own v.task H) v.action l.1.own (generates_it v.action (n ∷ p) g) in
      let q = named H p (subst (IsSpawned H) (sym (cons_tail e)) (may_spawned cells H v l.0 l.1)) in
      record { id = q.0; has = in_front (names_in H) (generated v.action) q.0 p q.1; low = omega (arith, within (names_in H) q.0 p q.1, a.index) })
      (among (names_in H) (generated v.action) i (n ∷ p) h)

  pub parent_in_front : (H : History) (i k n : ℕ) (p : Name) → Legal cells H → HasId H i (n ∷ p) → HasId H k p → k < i
  parent_in_front H i k n p l h g =
      let q = parent_lower H i n p l h in
      let same = one_id cells H k q.id p l g q.has in
      omega (arith, q.low, same)

  -- so has each ancestor
  pub ancestor_in_front : (H : History) (u t : Name) (i k n : ℕ) → Legal cells H → HasId H i u → HasId H k t → is_later t n u ≡ true → k < i
  ancestor_in_front H [] t i k n l h g e = absurd (false≢true e)
  ancestor_in_front H (j ∷ p) t i k n l h g e =
      let q = parent_lower H i j p l h in
      ⊎_elim
      (λ s.
      let here : t ≡ p = same_true t p (and_parts (nat_lt n j) (same_name t p) s).1 in
      parent_in_front H i k j p l h (subst (HasId H k) here g))
      (λ r. let rest = ancestor_in_front H p t q.id k n l q.has g r in omega (arith, rest, q.low))
      (or_cases (nat_lt n j && same_name t p) (is_later t n p) e)

  -- ---- the walk up

  module _ (H : History) (t : Name) (task low : ℕ) (l : Legal cells H) (id : HasId H task t) where
    -- at the root, or at the task or in front of it, there is nothing more
    pub none_further : (u : Name) (at : ℕ) → HasId H at u → at ≤ task → is_later t low u ≡ false
    none_further u at h e = false_from_ne_true (is_later t low u) (λ s. (let less = ancestor_in_front H u t at task low l h id s in omega (arith, less, e)))

    module _ (u : Name) (at parent ordinal : ℕ) (h : HasId H at u) (above : IsAbove H u parent ordinal) (lower : parent < at) where
      found_by : (w : Name) → HasId H at w → HasId H parent (parent_of w) → ordinal ≡ ordinal_of w → parent ≡ task → low < ordinal → is_later t low w ≡ true
      found_by [] g p o same less = absurd (let e = one_id cells H at parent [] l g p in omega (arith, e, lower))
      found_by (n ∷ w) g p o same less =
          let it : w ≡ t = some_name w t (sym p ∙ ap (slice_get (names_in H)) same ∙ id) in
          let first : nat_lt low n ≡ true = (let k : low < n = omega (arith, less, o) in grind (arith, nat_tests)) in
          let mark : same_name t w ≡ true = subst (λ (x : Name). same_name t x ≡ true) (sym it) (same_refl t) in
          ap₂ (λ b c. (b && c) || is_later t low w) first mark

      pub found : parent ≡ task → low < ordinal → is_later t low u ≡ true
      found same less = found_by u h above.parent above.ordinal same less

      goes_by : (w : Name) → HasId H at w → HasId H parent (parent_of w) → ordinal ≡ ordinal_of w → (parent ≡ task → low < ordinal → ⊥) → is_later t low w ≡ is_later t low (parent_of w)
      goes_by [] g p o never = refl
      goes_by (n ∷ w) g p o never =
          let first : (nat_lt low n && same_name t w) ≡ false = false_from_ne_true (nat_lt low n && same_name t w) (λ s.
          let parts = and_parts (nat_lt low n) (same_name t w) s in
          let here : HasId H parent t = subst (HasId H parent) (sym (same_true t w parts.1)) p in
          let k : low < n = (let q = parts.0 in grind (arith, nat_tests)) in
          never (one_id cells H parent task t l here id) (omega (arith, k, o))) in
          ap (λ b. b || is_later t low w) first

      pub goes_up : (parent ≡ task → low < ordinal → ⊥) → is_later t low u ≡ is_later t low (parent_of u)
      goes_up never = goes_by u h above.parent above.ordinal never

-- only the root's id isn't above its parent's
pub root_by : (cells : Cells) (H : History) (i k : ℕ) (t : Name) → Legal cells H → HasId H i t → HasId H k (parent_of t) → i ≤ k → t ≡ []
root_by cells H i k [] l h g e = refl
root_by cells H i k (n ∷ p) l h g e = absurd (let less = parent_in_front cells H i k n p l h g in omega (arith, less, e))

-- a parent was generated
pub parent_spawned : (cells : Cells) (H : History) (n : ℕ) (p : Name) → Legal cells H → IsSpawned H (n ∷ p) → IsSpawned H p
parent_spawned cells H n p l s =
    let i = named H (n ∷ p) s in
    let q = parent_lower cells H i.0 n p l i.1 in
    id_spawned H q.id p q.has
