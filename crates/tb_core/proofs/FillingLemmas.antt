-- What can be used again of an event, and the next child.
use Rattle.std.proofs.Common.{◌≡◌, ◌≢◌, ℤ, ◌≤◌, ◌↔◌, ℕ, suc, List, [], ◌∷◌, Bool, true, false, cond, length, refl, sym, ap, ap₂, ◌∙◌, arith, Option, Some, None, IsTrue, unwrap_or, ◌+◌, if◌then◌else◌, IfOk, Result, Ok, Err}
use Rattle.std.specs.Prelude.{slice_get}
use Rattle.std.proofs.lemmas.Bool.{true≢false}
use Rattle.std.proofs.lemmas.List.{length-map}
use Rattle.tb_model.specs.declared.action.Action.{Action}
use Rattle.tb_model.specs.declared.action.Action.TheVariants.{Spawn, Load}
use Rattle.tb_model.specs.declared.event.Event.{Event}
use Rattle.tb_model.specs.declared.spawn.Spawn.{Spawn as TheSpawn}
use Rattle.tb_model.specs.Names.{Name, same_name, is_child, child}
use Rattle.tb_model.specs.Facts.{History, own, last, IsSpawned, is_spawned, is_of, prepend_if}
use Rattle.tb_model.specs.Legal.{Cells, first_number, spawn_count}
use Rattle.tb_model.specs.Lines.{Departure, events_of}
use Rattle.tb_model.proofs.TestLemmas.{same_true, same_refl}
use Rattle.tb_undo.specs.State.{Seen as Tables, IsTaskState, IsState}
use Rattle.tb_core.specs.Filling.{IsRunOf, IsNextSpawn, IsWhole, Fills, completed, spawn_in}

pub same_spare : (spare name : Name) (b : Bool) → b ≡ same_name spare name → IsTrue b → spare ≡ name
same_spare spare name b e t = same_true spare name (sym e ∙ t)

pub other_spare : (o : Option Name) (spare name : Name) (b : Bool) → o ≡ Some spare → b ≡ same_name spare name → b ≡ false → o ≡ Some name → ⊥
other_spare o spare name b s e f h =
    let same : spare ≡ name = ap (λ x. unwrap_or x name) (sym s ∙ h) in
    true≢false (sym (ap (same_name spare) (sym same) ∙ same_refl spare) ∙ sym e ∙ f)

-- ---- how many children a task of a run has

own_within : (t : Name) (H : History) → length (own t H) ≤ length H
own_within t [] = omega arith
own_within t (v ∷ H) = at (is_of t v) (own_within t H)
  where
    at : (b : Bool) → length (own t H) ≤ length H → length (prepend_if b v.action (own t H)) ≤ suc (length H)
    at true h = omega arith
    at false h = omega arith

spawns_within : (acts : List Action) → spawn_count acts ≤ length acts
spawns_within [] = omega arith
spawns_within (a ∷ acts) = more a (spawns_within acts)
  where
    more : (a : Action) → spawn_count acts ≤ length acts → spawn_count (a ∷ acts) ≤ suc (length acts)
    more (Spawn s) h = omega arith
    more _ h = omega arith

few_children : (s : Tables) (t : Name) (r : IsRunOf s t) → spawn_count (own t (events_of r.steps)) ≤ 1000000
few_children s t r = omega (arith, spawns_within (own t (events_of r.steps)), own_within t (events_of r.steps), length-map r.steps (λ (d : Departure). d.event), r.few)

-- this is how many children the task has, whatever run that is
abbrev pub IsCount : Tables → Name → Option ℕ → Type 0
IsCount s t o = (root_line : ℕ) (D : List Departure) → IsTaskState root_line D s → o ≡ (if is_spawned (events_of D) t then Some (spawn_count (own t (events_of D))) else None)

-- the count as a number, and the name that comes next
module _ (s : Tables) (t : Name) (o : Option ℕ) (n : ℕ) (c : IsCount s t o) (e : n ≡ unwrap_or o 0) where
  counted : (first : Cells) (root_line : ℕ) (D : List Departure) → IsState first root_line D s → IsSpawned (events_of D) t
      → n ≡ spawn_count (own t (events_of D))
  counted first root_line D k h =
      e ∙ ap (λ m. unwrap_or m 0) (c root_line D k.of_tasks ∙ ap (λ b. cond b (Some (spawn_count (own t (events_of D)))) None) h)

  pub few : IsRunOf s t → n ≤ 1000000
  few r = omega (arith, counted r.first r.root_line r.steps r.state r.spawned, few_children s t r)

  pub next_found : (a b : TheSpawn) → b ≡ record a { child = child t (n + 1) } → IsNextSpawn s t a b
  next_found a b is first root_line D k h =
      let one : n + 1 ≡ suc (spawn_count (own t (events_of D))) = omega (arith, counted first root_line D k h) in
      is ∙ ap (λ m. record a { child = child t m }) one

  pub next_made : {E : Type 0} (a : TheSpawn) (r : Result TheSpawn E) → IfOk r (λ b. b ≡ record a { child = child t (n + 1) }) → IfOk r (IsNextSpawn s t a)
  next_made a (Ok b) is = next_found a b is
  next_made a (Err w) is = tt

  pub next_is : (a b : TheSpawn) → IsRunOf s t → IsNextSpawn s t a b → b ≡ record a { child = child t (n + 1) }
  next_is a b r next =
      next r.first r.root_line r.steps r.state r.spawned ∙ sym (next_found a (record a { child = child t (n + 1) }) refl r.first r.root_line r.steps r.state r.spawned)

-- ---- the nth child of a task

-- a name whose first ordinal is n, and that is a child of t
pub nth_child : (name t : Name) (n m : ℕ) (b : Bool) → slice_get name 0 ≡ Some m → m ≡ n → b ≡ is_child t name → IsTrue b ↔ (name ≡ child t n)
nth_child [] t n m b first same e = absurd cc
nth_child (k ∷ p) t n m b first same e = (
  λ h. ap₂ (λ x y. child y x) (ap (λ o. unwrap_or o 0) first ∙ same) (same_true p t (sym e ∙ h)),
  λ h. e ∙ ap (is_child t) h ∙ same_refl t,
)

-- a name with another ordinal is another child's
pub other_child : (name t : Name) (n m : ℕ) → slice_get name 0 ≡ Some m → (m ≡ n → ⊥) → name ≡ child t n → ⊥
other_child [] t n m first differ e = cc
other_child (k ∷ p) t n m first differ e = differ (sym (ap (λ o. unwrap_or o 0) first) ∙ ap (λ x. unwrap_or (slice_get x 0) 0) e)

-- ---- the event of an action

abbrev event : Name → Action → Event
event t a = record { task = t; action = a }

-- a load reads the value that was read
pub load_filled : (s : Tables) (t : Name) (a b : Action) (r c : ℕ) (x y : ℤ)
    → ((first : Cells) (root_line : ℕ) (D : List Departure) → IsState first root_line D s → y ≡ last (first_number first c) c (events_of D)) → a ≡ Load r c x
    → b ≡ Load r c y → Fills s t a (record { task = t; action = b })
load_filled s t a b r c x y reads is made first root_line D k h =
    ap (λ e. event t e) (made ∙ ap (Load r c) (reads first root_line D k) ∙ ap (completed first (events_of D) t) (sym is))

module _ (s : Tables) (t : Name) (a : Action) (p : TheSpawn) (is : a ≡ Spawn p) where
  -- a spawn names the next child
  pub spawn_filled : (b : Action) (q : TheSpawn) → IsNextSpawn s t p q → b ≡ Spawn q → Fills s t a (record { task = t; action = b })
  spawn_filled b q next made first root_line D k h =
      ap (λ e. event t e) (made ∙ ap (λ y. Spawn y) (next first root_line D k h) ∙ ap (completed first (events_of D) t) (sym is))

  spawn_named : (v : Event) → Fills s t a v → (first : Cells) (root_line : ℕ) (D : List Departure) → IsState first root_line D s → IsSpawned (events_of D) t
      → spawn_in v.action ≡ Some (record p { child = child t (suc (spawn_count (own t (events_of D)))) })
  spawn_named v f first root_line D k h =
      ap (λ (w : Event). spawn_in w.action) (f first root_line D k h) ∙ ap (λ b. spawn_in (completed first (events_of D) t b)) is

  -- so its event has a spawn
  pub spawn_there : (v : Event) → IsRunOf s t → Fills s t a v → spawn_in v.action ≡ None → ⊥
  spawn_there v r f none = clash (sym none ∙ spawn_named v f r.first r.root_line r.steps r.state r.spawned)
    where
      clash : {x : TheSpawn} → ◌≡◌ {A = Option TheSpawn} None (Some x) → ⊥
      clash z = cc

  -- an event is that of the action exactly where its spawn is the next
  pub spawn_found : (v : Event) (q : TheSpawn) → v.task ≡ t → v.action ≡ Spawn q → IsNextSpawn s t p q → Fills s t a v
  spawn_found v q same made next first root_line D k h = ap (λ u. event u v.action) same ∙ spawn_filled v.action q next made first root_line D k h

  pub spawn_next : (v : Event) (q : TheSpawn) → v.action ≡ Spawn q → Fills s t a v → IsNextSpawn s t p q
  spawn_next v q made f first root_line D k h = ap (λ o. unwrap_or o q) (sym (ap spawn_in made) ∙ spawn_named v f first root_line D k h)

pub its_task : (s : Tables) (t : Name) (a : Action) (v : Event) → IsRunOf s t → Fills s t a v → v.task ≡ t
its_task s t a v r f = ap (λ (w : Event). w.task) (f r.first r.root_line r.steps r.state r.spawned)

pub none_in : (a : Action) → ((q : TheSpawn) → a ≢ Spawn q) → spawn_in a ≡ None
none_in (Spawn q) s = absurd (s q refl)
none_in _ s = refl

-- an action that generates no task has an event that generates none
pub no_spawn : (s : Tables) (t : Name) (a : Action) (v : Event) → IsRunOf s t → ((q : TheSpawn) → a ≢ Spawn q) → Fills s t a v → spawn_in v.action ≡ None
no_spawn s t a v r other f =
    ap (λ (w : Event). spawn_in w.action) (f r.first r.root_line r.steps r.state r.spawned) ∙ completed_none r.first (events_of r.steps) a other
  where
    completed_none : (first : Cells) (H : History) (a : Action) → ((q : TheSpawn) → a ≢ Spawn q) → spawn_in (completed first H t a) ≡ None
    completed_none first H (Spawn q) other = absurd (other q refl)
    completed_none first H (Load r c x) other = refl
    completed_none first H _ other = refl

-- any other action is as it was planned
pub completed_other : (first : Cells) (H : History) (t : Name) (a : Action) → ((r c : ℕ) (x : ℤ) → a ≢ Load r c x) → ((q : TheSpawn) → a ≢ Spawn q)
    → completed first H t a ≡ a
completed_other first H t (Load r c x) l s = absurd (l r c x refl)
completed_other first H t (Spawn q) l s = absurd (s q refl)
completed_other first H t _ l s = refl

pub whole_named : (s : Tables) (t name : Name) (a : Action) → name ≡ t → IsWhole a → Fills s t a (record { task = name; action = a })
whole_named s t name a same whole first root_line D k h = ap₂ (λ u b. event u b) same (sym (whole first (events_of D) t))

pub other_filled : (s : Tables) (t : Name) (a b : Action) → ((r c : ℕ) (x : ℤ) → a ≢ Load r c x) → ((q : TheSpawn) → a ≢ Spawn q) → b ≡ a
    → Fills s t a (record { task = t; action = b })
other_filled s t a b l n same first root_line D k h =
    ap (λ e. event t e) (same ∙ sym (completed_other first (events_of D) t a l n))
