-- The undeferred child for which a task waits: where it is known, and that it is the last child.
use Rattle.std.proofs.Common.{◌≡◌, ◌<◌, ◌≤◌, ◌-◌, ◌==◌, ℕ, suc, List, [], ◌∷◌, Bool, true, false, not, ◌&&◌, cond, Option, Some, None, option_map, length, refl, sym, ap, ap₂, ◌∙◌, subst, arith, eq-eqb, eqb-true}
use Rattle.std.specs.List.{list_any}
use Rattle.std.proofs.lemmas.Bool.{and_parts, and_from, both_ways, false≢true}
use Rattle.tb_model.specs.declared.action.Action.{Action}
use Rattle.tb_model.specs.declared.action.Action.TheVariants.{Spawn}
use Rattle.tb_model.specs.Names.{Name, child, same_name, is_child}
use Rattle.tb_model.specs.Facts.{History, is_of, own, prepend_if, holds, is_spawned, IsSpawned, ends}
use Rattle.tb_model.specs.State.{is_unended, is_unended_undeferred}
use Rattle.tb_model.specs.Legal.{Cells, Legal, Continues, spawn_count}
use Rattle.tb_model.specs.LeastNames.{IsAtMost}
use Rattle.tb_model.specs.Hindrances.{IsLeast}
use Rattle.tb_model.proofs.TestLemmas.{same_true, same_refl}
use Rattle.tb_model.proofs.FactsLemmas.{held_child, spawned_by}
use Rattle.tb_model.proofs.StateLemmas.{children_numbered}
use Rattle.tb_model.proofs.LeastNameLemmas.{at_most_itself}
use Rattle.tb_wait.specs.Kin.{Kin, Tasks as Waits, kin, IsUnendedChild, IsNextUnended}
use Rattle.tb_wait.specs.Histories.{AreKin}
use Rattle.tb_wait.proofs.UnendedLemmas.{unended_child, count_children}
use Rattle.tb_undo.specs.Tasks.{Task}
use Rattle.tb_undo.specs.State.{undeferred_at}
use Rattle.tb_undo.specs.Obstacles.{is_first, IsKnown}

-- ---- the undeferred child for which a task waits

-- no step after the last generated one
none_beyond : (acts : List Action) (n : ℕ) → length acts < n → is_first n (undeferred_at acts) ≡ false
none_beyond [] n l = refl
none_beyond (Spawn s ∷ acts) n l = by s.deferred (none_beyond acts n (omega (arith, l)))
  where
    at : (b : Bool) → (suc (length acts) == n) ≡ b → b ≡ false
    at false e = refl
    at true e = let same = eqb-true (suc (length acts)) n e in absurd (omega (arith, same, l))

    by : (d : Bool) → is_first n (undeferred_at acts) ≡ false → is_first n (cond d (undeferred_at acts) (suc (length acts) ∷ undeferred_at acts)) ≡ false
    by true h = h
    by false h = at (suc (length acts) == n) refl
none_beyond (a ∷ acts) n l = none_beyond acts n (omega (arith, l))

-- the newest action generated an undeferred child
record IsHeld (acts : List Action) : Type 0 where
  child : Name
  holds : holds acts child ≡ true

held : (acts : List Action) → is_first (length acts) (undeferred_at acts) ≡ true → IsHeld acts
held [] h = absurd (false≢true h)
held (Spawn s ∷ acts) h = by s.deferred refl h
  where
    by : (d : Bool) → s.deferred ≡ d → is_first (suc (length acts)) (cond d (undeferred_at acts) (suc (length acts) ∷ undeferred_at acts)) ≡ true → IsHeld (Spawn s ∷ acts)
    by false e k = record { child = s.child; holds = ap (λ d. not d && same_name s.child s.child) e ∙ same_refl s.child }
    by true e k = absurd (both_ways (is_first (suc (length acts)) (undeferred_at acts)) (none_beyond acts (suc (length acts)) (omega arith)) k)
held (a ∷ acts) h =
    absurd (both_ways (is_first (suc (length acts)) (undeferred_at acts)) (none_beyond acts (suc (length acts)) (omega arith)) h)

not_held : (acts : List Action) (u : Name) → is_first (length acts) (undeferred_at acts) ≡ false → holds acts u ≡ false
not_held [] u h = refl
not_held (Spawn s ∷ acts) u h = by s.deferred h
  where
    by : (d : Bool) → is_first (suc (length acts)) (cond d (undeferred_at acts) (suc (length acts) ∷ undeferred_at acts)) ≡ false → (not d && same_name s.child u) ≡ false
    by false k = absurd (both_ways (suc (length acts) == suc (length acts)) k (eq-eqb (suc (length acts)) (suc (length acts)) refl))
    by true k = refl
not_held (a ∷ acts) u h = refl

held_names : (cells : Cells) (t u : Name) (a : Action) (acts : List Action) → Continues cells t acts a → holds (a ∷ acts) u ≡ true → u ≡ spawn_count (a ∷ acts) ∷ t
held_names cells t u (Spawn s) acts k h = sym (same_true s.child u (and_parts (not s.deferred) (same_name s.child u) h).1) ∙ k.1
held_names cells t u a acts k h = absurd (false≢true h)

-- the undeferred child for which a task waits is its last one
held_last : (cells : Cells) (H : History) (t u : Name) → Legal cells H → holds (own t H) u ≡ true → u ≡ spawn_count (own t H) ∷ t
held_last cells [] t u l h = absurd (false≢true h)
held_last cells (v ∷ H) t u l h = at (held_last cells H t u l.0) (is_of t v) refl h
  where
    at : (holds (own t H) u ≡ true → u ≡ spawn_count (own t H) ∷ t) → (b : Bool) → is_of t v ≡ b → holds (prepend_if b v.action (own t H)) u ≡ true
        → u ≡ spawn_count (prepend_if b v.action (own t H)) ∷ t
    at rest true e h = held_names cells t u v.action (own t H) (subst (λ w. Continues cells w (own w H) v.action) (same_true v.task t e) l.1.own) h
    at rest false e h = rest h

module _ (cells : Cells) (H : History) (tasks : Waits) (t : Name) (legal : Legal cells H) (are : AreKin H tasks) where
  abbrev count : ℕ
  count = spawn_count (own t H)

  -- an unended task that is one of t's children, by the table
  pub in_table : (n : ℕ) → is_unended H (n ∷ t) ≡ true → IsUnendedChild tasks t (n ∷ t)
  in_table n u = (unended_child H tasks t (n ∷ t) are).1 (and_from (is_child t (n ∷ t)) (is_unended H (n ∷ t)) (same_refl t) u)

  -- and the other way
  pub in_history : (n : ℕ) → IsUnendedChild tasks t (n ∷ t) → is_unended H (n ∷ t) ≡ true
  in_history n u = (and_parts (is_child t (n ∷ t)) (is_unended H (n ∷ t)) ((unended_child H tasks t (n ∷ t) are).0 u)).1

  pub numbered : (n : ℕ) → is_unended H (n ∷ t) ≡ true → (1 ≤ n) × (n ≤ count)
  numbered n u = (children_numbered cells H t n legal).0 (and_parts (is_spawned H (n ∷ t)) (not (list_any (ends (n ∷ t)) H)) u).0

  module _ (k : Task) (known : IsKnown (own t H) k) where
    moved : is_first k.steps k.undeferred ≡ is_first (length (own t H)) (undeferred_at (own t H))
    moved = ap₂ is_first known.steps known.undeferred

    pub none_undeferred : is_first k.steps k.undeferred ≡ false → IsLeast (is_unended_undeferred H t) None
    none_undeferred h = record {
      found = λ u e. cc;
      least = λ u p. absurd (both_ways (holds (own t H) u) (not_held (own t H) u (sym moved ∙ h)) (and_parts (holds (own t H) u) (not (list_any (ends u) H)) p).0);
    }

    -- the last child is the one that is held
    last_held : is_first k.steps k.undeferred ≡ true → holds (own t H) (count ∷ t) ≡ true
    last_held h =
        let it = held (own t H) (sym moved ∙ h) in
        subst (λ u. holds (own t H) u ≡ true) (held_last cells H t it.child legal it.holds) it.holds

    held_unended : (u : Name) → is_unended_undeferred H t u ≡ true → (u ≡ count ∷ t) × (is_unended H (count ∷ t) ≡ true)
    held_unended u p =
        let o = and_parts (holds (own t H) u) (not (list_any (ends u) H)) p in
        let is = held_last cells H t u legal o.0 in
        let there = subst (IsSpawned H) is (spawned_by u H (held_child cells H t u legal o.0).1) in
        (is, and_from (is_spawned H (count ∷ t)) (not (list_any (ends (count ∷ t)) H)) there (subst (λ w. not (list_any (ends w) H) ≡ true) is o.1))

    pub undeferred_least : is_first k.steps k.undeferred ≡ true → (last : ℕ) → last ≡ count → (o : Option ℕ) → IsNextUnended tasks t (last - 1) o → IsLeast (is_unended_undeferred H t) (option_map (child t) o)
    undeferred_least h last e None next = record { found = λ u e. cc; least = least }
      where
        least : (u : Name) → is_unended_undeferred H t u ≡ true → (w : Name) × (None ≡ Some w) × IsAtMost w u
        least u p =
            let it = held_unended u p in
            let some = numbered count it.1 in
            let found = next.least count (omega (arith, e, some.0)) (in_table count it.1) in
            cc
    undeferred_least h last e (Some n) next = record {
      found = λ u s. subst (λ w. is_unended_undeferred H t w ≡ true) (ap (λ k. k ∷ t) (sym same) ∙ named u s) here;
      least = λ u p. let it = held_unended u p in (n ∷ t, refl, subst (IsAtMost (n ∷ t)) (ap (λ k. k ∷ t) same ∙ sym it.0) (at_most_itself (n ∷ t)));
    }
      where
        named : (u : Name) → ◌≡◌ {A = Option Name} (Some (n ∷ t)) (Some u) → n ∷ t ≡ u
        named u s = cc

        unended : is_unended H (n ∷ t) ≡ true
        unended = in_history n (next.found n refl).1

        same : n ≡ count
        same = let a = (next.found n refl).0 in let b = numbered n unended in omega (arith, a, b.0, b.1, e)

        here : is_unended_undeferred H t (count ∷ t) ≡ true
        here =
            let u = subst (λ k. is_unended H (k ∷ t) ≡ true) same unended in
            and_from (holds (own t H) (count ∷ t)) (not (list_any (ends (count ∷ t)) H)) (last_held h) (and_parts (is_spawned H (count ∷ t)) (not (list_any (ends (count ∷ t)) H)) u).1

  -- the table counts its children
  pub counted : (last : ℕ) → Some last ≡ option_map (λ (k : Kin). k.children) (kin tasks t) → last ≡ count
  counted last e = at (kin tasks t) refl
    where
      at : (o : Option Kin) → kin tasks t ≡ o → last ≡ count
      at None q = let none : Some last ≡ None = e ∙ ap (option_map (λ (k : Kin). k.children)) q in cc
      at (Some k) q =
          let some : Some last ≡ Some k.children = e ∙ ap (option_map (λ (k : Kin). k.children)) q in
          let same : last ≡ k.children = cc in
          same ∙ count_children H tasks t k are q
