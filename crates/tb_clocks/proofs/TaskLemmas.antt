-- Tasks by their ids, and what is known of them after one event more.
use Rattle.std.proofs.Common.{◌≡◌, ◌≢◌, ◌<◌, ◌+◌, ℕ, zero, suc, List, [], ◌∷◌, ◌++◌, Bool, true, false, ◌⊎◌, cond, length, refl, sym, ap, ap₂, ◌∙◌, subst, arith, append-nil, Option, Some, None, slice_get, inl, inr, ⊎_elim}
use Rattle.std.specs.List.{list_any}
use Rattle.std.proofs.lemmas.Bool.{both_ways, or_parts, or_left, false_from_ne_true}
use Rattle.tb_model.specs.declared.action.Action.{Action}
use Rattle.tb_model.specs.declared.action.Action.TheVariants.{Start, Let, Load, Store, Print, Spawn, Wait, Open, Close, Test, End, Fault}
use Rattle.tb_model.specs.declared.event.Event.{Event}
use Rattle.tb_model.specs.declared.item.Item.{Item}
use Rattle.tb_model.specs.Facts.{History, IsSpawned, is_of, is_spawn_of, items_for, items_of, own, spawns}
use Rattle.tb_model.specs.Legal.{Cells, Legal, spawn_count}
use Rattle.tb_model.specs.Names.{Name, same_name}
use Rattle.tb_model.proofs.FactsLemmas.{acted_spawned, grown, items_none, items_stay, not_again, own_mine, own_other, spawned_by}
use Rattle.tb_model.proofs.NeedsLemmas.{may_spawned}
use Rattle.tb_model.proofs.TestLemmas.{same_refl, same_true}
use Rattle.tb_clocks.specs.Known.{Known, HasId, advanced, child_known, children_with, generated, groups_in, groups_with, holds_some, known_of, names_in}
use Rattle.tb_clocks.specs.declared.group.Group.{Group}

none_some : {A : Type 0} (x : A) → ◌≡◌ {A = Option A} None (Some x) → ⊥
none_some x h = cc

some_same : {A : Type 0} (x y : A) → ◌≡◌ {A = Option A} (Some x) (Some y) → x ≡ y
some_same x y h = cc

-- ---- indexes of a list and one element more

-- an element of both lists is one of the first, or one of the second, after all of the first
pub record Among {A : Type 0} (xs ys : List A) (i : ℕ) (x : A) : Type 0 where
  pub at : ℕ
  pub is : slice_get ys at ≡ Some x
  pub index : i ≡ length xs + at

pub among : {A : Type 0} (xs ys : List A) (i : ℕ) (x : A) → slice_get (xs ++ ys) i ≡ Some x → ◌⊎◌ (slice_get xs i ≡ Some x) (Among xs ys i x)
among [] ys i x h = inr (record { at = i; is = h; index = omega arith })
among (y ∷ xs) ys zero x h = inl h
among (y ∷ xs) ys (suc i) x h =
    ⊎_elim (λ l. inl l) (λ r. inr (record { at = r.at; is = r.is; index = omega (arith, r.index) })) (among xs ys i x h)

pub in_front : {A : Type 0} (xs ys : List A) (i : ℕ) (x : A) → slice_get xs i ≡ Some x → slice_get (xs ++ ys) i ≡ Some x
in_front [] ys i x h = absurd (none_some x h)
in_front (y ∷ xs) ys zero x h = h
in_front (y ∷ xs) ys (suc i) x h = in_front xs ys i x h

pub within : {A : Type 0} (xs : List A) (i : ℕ) (x : A) → slice_get xs i ≡ Some x → i < length xs
within [] i x h = absurd (none_some x h)
within (y ∷ xs) zero x h = omega arith
within (y ∷ xs) (suc i) x h = omega (arith, within xs i x h)

-- ---- a child

pub generates_it : (a : Action) (t : Name) → slice_get (generated a) 0 ≡ Some t → is_spawn_of t a ≡ true
generates_it (Spawn s) t h = subst (λ (u : Name). same_name s.child u ≡ true) (some_same s.child t h) (same_refl s.child)
generates_it Start t h = absurd (none_some t h)
generates_it (Let r x) t h = absurd (none_some t h)
generates_it (Load r c x) t h = absurd (none_some t h)
generates_it (Store c x) t h = absurd (none_some t h)
generates_it (Print x) t h = absurd (none_some t h)
generates_it (Wait items) t h = absurd (none_some t h)
generates_it Open t h = absurd (none_some t h)
generates_it Close t h = absurd (none_some t h)
generates_it (Test b) t h = absurd (none_some t h)
generates_it End t h = absurd (none_some t h)
generates_it Fault t h = absurd (none_some t h)

-- an action generates one child at most
pub only_one : (a : Action) (i : ℕ) (t : Name) → slice_get (generated a) i ≡ Some t → i ≡ 0
only_one (Spawn s) zero t h = refl
only_one (Spawn s) (suc i) t h = absurd (none_some t h)
only_one Start i t h = absurd (none_some t h)
only_one (Let r x) i t h = absurd (none_some t h)
only_one (Load r c x) i t h = absurd (none_some t h)
only_one (Store c x) i t h = absurd (none_some t h)
only_one (Print x) i t h = absurd (none_some t h)
only_one (Wait items) i t h = absurd (none_some t h)
only_one Open i t h = absurd (none_some t h)
only_one Close i t h = absurd (none_some t h)
only_one (Test b) i t h = absurd (none_some t h)
only_one End i t h = absurd (none_some t h)
only_one Fault i t h = absurd (none_some t h)

-- a task that has an id was generated
pub id_spawned : (H : History) (i : ℕ) (t : Name) → HasId H i t → IsSpawned H t
id_spawned [] zero t h = subst (λ (u : Name). IsSpawned [] u) (some_same [] t h) refl
id_spawned [] (suc i) t h = absurd (none_some t h)
id_spawned (v ∷ H) i t h =
    ⊎_elim (λ l. grown t v H (id_spawned H i t l))
    (λ r.
    let first : slice_get (generated v.action) 0 ≡ Some t = subst (λ n. slice_get (generated v.action) n ≡ Some t) (only_one v.action r.at t r.is) r.is in
    spawned_by t (v ∷ H) (or_left (spawns t v) (list_any (spawns t) H) (generates_it v.action t first)))
    (among (names_in H) (generated v.action) i t h)

module _ (cells : Cells) where
  -- one that was generated isn't the child of the next event
  pub not_child : (H : History) (v : Event) (i j : ℕ) (t : Name) → Legal cells (v ∷ H) → HasId H i t → slice_get (generated v.action) j ≡ Some t → ⊥
  not_child H v i j t l h g =
      let first : slice_get (generated v.action) 0 ≡ Some t = subst (λ n. slice_get (generated v.action) n ≡ Some t) (only_one v.action j t g) g in
      both_ways (spawns t v) (not_again cells H l.0 v l.1 t (id_spawned H i t h)) (generates_it v.action t first)

  -- a task has one id
  pub one_id : (H : History) (i j : ℕ) (t : Name) → Legal cells H → HasId H i t → HasId H j t → i ≡ j
  one_id [] zero zero t l h k = refl
  one_id [] zero (suc j) t l h k = absurd (none_some t k)
  one_id [] (suc i) j t l h k = absurd (none_some t h)
  one_id (v ∷ H) i j t l h k =
      ⊎_elim
      (λ a. ⊎_elim (λ b. one_id H i j t l.0 a b) (λ b. absurd (not_child H v i b.at t l a b.is)) (among (names_in H) (generated v.action) j t k))
      (λ a. ⊎_elim (λ b. absurd (not_child H v j a.at t l b a.is))
      (λ b.
      let p = only_one v.action a.at t a.is in
      let q = only_one v.action b.at t b.is in
      omega (arith, p, q, a.index, b.index))
      (among (names_in H) (generated v.action) j t k))
      (among (names_in H) (generated v.action) i t h)

-- ---- what is known after one event more

nil_by : (acts : List Action) → (acts ≢ [] → ⊥) → acts ≡ []
nil_by [] h = refl
nil_by (a ∷ acts) h = absurd (h (λ e. cc))

counted : (a : Action) (acts : List Action) → spawn_count (a ∷ acts) ≡ children_with a (spawn_count acts)
counted (Spawn s) acts = omega arith
counted Start acts = refl
counted (Let r x) acts = refl
counted (Load r c x) acts = refl
counted (Store c x) acts = refl
counted (Print x) acts = refl
counted (Wait items) acts = refl
counted Open acts = refl
counted Close acts = refl
counted (Test b) acts = refl
counted End acts = refl
counted Fault acts = refl

no_items : (t : Name) (H : History) → list_any (spawns t) H ≡ false → items_of t H ≡ []
no_items t [] h = refl
no_items t (v ∷ H) h =
    let p = or_parts (spawns t v) (list_any (spawns t) H) h in
    ap₂ (λ x y. x ++ y) (items_none t v.action p.0) (no_items t H p.1)

no_groups_by : (t : Name) (v : Event) (H : History) (b : Bool) → is_of t v ≡ b → own t (v ∷ H) ≡ [] → (own t H ≡ [] → groups_in t H ≡ []) → groups_in t (v ∷ H) ≡ []
no_groups_by t v H true e none rest = absurd (let h = sym (own_mine t v H e) ∙ none in cc)
no_groups_by t v H false e none rest = ap (λ b. cond b (groups_with v.action (length H) (spawn_count (own t H)) (groups_in t H)) (groups_in t H)) e ∙ rest (sym (own_other t v H e) ∙ none)

no_groups : (t : Name) (H : History) → own t H ≡ [] → groups_in t H ≡ []
no_groups t [] h = refl
no_groups t (v ∷ H) h = no_groups_by t v H (is_of t v) refl h (no_groups t H)

same_known : (k l : Known) → k.steps ≡ l.steps → k.children ≡ l.children → k.held ≡ l.held → k.items ≡ l.items → k.groups ≡ l.groups → k ≡ l
same_known k l a b c d e =
    ap₂ (λ (n m : ℕ). record { steps = n; children = m; held = k.held; items = k.items; groups = k.groups }) a b
    ∙ ap₂ (λ (h : Bool) (is : List Item). record { steps = l.steps; children = l.children; held = h; items = is; groups = k.groups }) c d
    ∙ ap (λ (gs : List Group). record { steps = l.steps; children = l.children; held = l.held; items = l.items; groups = gs }) e

one_step : (n : ℕ) → suc n ≡ n + 1
one_step n = omega arith

module _ (cells : Cells) (H : History) (v : Event) (l : Legal cells (v ∷ H)) where
  -- of the task that executed the step
  pub known_own : (t : Name) → IsSpawned H t → is_of t v ≡ true → known_of (v ∷ H) t ≡ advanced (length H) v.action (known_of H t)
  known_own t s e =
      let mine = own_mine t v H e in
      same_known (known_of (v ∷ H) t) (advanced (length H) v.action (known_of H t))
      (ap length mine ∙ one_step (length (own t H)))
      (ap spawn_count mine ∙ counted v.action (own t H))
      (ap holds_some mine)
      (items_stay cells H l.0 v l.1 t (not_again cells H l.0 v l.1 t s))
      (ap (λ b. cond b (groups_with v.action (length H) (spawn_count (own t H)) (groups_in t H)) (groups_in t H)) e)

  -- of another
  pub known_other : (t : Name) → IsSpawned H t → is_of t v ≡ false → known_of (v ∷ H) t ≡ known_of H t
  known_other t s e =
      let others = own_other t v H e in
      same_known (known_of (v ∷ H) t) (known_of H t)
      (ap length others) (ap spawn_count others) (ap holds_some others)
      (items_stay cells H l.0 v l.1 t (not_again cells H l.0 v l.1 t s))
      (ap (λ b. cond b (groups_with v.action (length H) (spawn_count (own t H)) (groups_in t H)) (groups_in t H)) e)

  unspawned : (t : Name) → is_spawn_of t v.action ≡ true → IsSpawned H t → ⊥
  unspawned t g s = both_ways (spawns t v) (not_again cells H l.0 v l.1 t s) g

  -- of the child
  pub known_child : (t : Name) → is_spawn_of t v.action ≡ true → known_of (v ∷ H) t ≡ child_known (items_for t v.action)
  known_child t g =
      let none : own t H ≡ [] = nil_by (own t H) (λ some. unspawned t g (acted_spawned cells H t l.0 some)) in
      let other : is_of t v ≡ false = false_from_ne_true (is_of t v) (λ e. unspawned t g (subst (IsSpawned H) (same_true v.task t e) (may_spawned cells H v l.0 l.1))) in
      let never : list_any (spawns t) H ≡ false = false_from_ne_true (list_any (spawns t) H) (λ e. unspawned t g (spawned_by t H e)) in
      let still : own t (v ∷ H) ≡ [] = own_other t v H other ∙ none in
      same_known (known_of (v ∷ H) t) (child_known (items_for t v.action))
      (ap length still) (ap spawn_count still) (ap holds_some still)
      (ap (λ o. items_for t v.action ++ o) (no_items t H never) ∙ append-nil (items_for t v.action))
      (no_groups t (v ∷ H) still)
