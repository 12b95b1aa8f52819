-- An action that may be executed, its step, and the capacity for it.
use Rattle.std.proofs.Common.{◌≡◌, ◌<◌, ◌≤◌, ℕ, suc, List, [], ◌∷◌, ◌++◌, Bool, true, false, length, map, reverse, refl, sym, ap, ◌∙◌, subst, arith, Option, Some, None, IsTrue, unwrap_or, nat_lt, ◌||◌}
use Rattle.std.specs.List.{list_any}
use Rattle.std.proofs.lemmas.Bool.{and_parts}
use Rattle.std.proofs.lemmas.Bool.Decides.{nat_tests}
use Rattle.std.proofs.lemmas.List.{length-map, length-reverse, reverse-append}
use Rattle.tb_model.specs.declared.action.Action.{Action}
use Rattle.tb_model.specs.declared.action.Action.TheVariants.{Start, Let, Load, Store, Print, Spawn, Wait, Open, Close, Test, End, Fault}
use Rattle.tb_model.specs.declared.event.Event.{Event}
use Rattle.tb_model.specs.Names.{Name, child}
use Rattle.tb_model.specs.Facts.{History, is_of, own, IsSpawned, prepend_if}
use Rattle.tb_model.specs.Legal.{Cells, Legal, MayFollow}
use Rattle.tb_model.specs.Lines.{Departure, events_of, without_lines}
use Rattle.tb_model.specs.Needs.{step_of, needs, removed, without}
use Rattle.tb_model.specs.Reordering.{IsUnneeded}
use Rattle.tb_model.proofs.RemovalLemmas.{without_newest, its_step, removed_none}
use Rattle.tb_plan.specs.Plans.{names_allowed}
use Rattle.tb_undo.proofs.MiddleLemmas.{lines_kept}
use Rattle.tb_store.specs.declared.replaced.Replaced.{Replaced}
use Rattle.tb_wait.specs.Histories.{kin_from}
use Rattle.tb_wait.proofs.HistoryLemmas.{counted, kin_stands}
use Rattle.tb_undo.specs.State.{Seen as Tables, IsState}
use Rattle.tb_undo.specs.Changes.{AreSame, HasRoomFor}
use Rattle.tb_undo.specs.Steps.{Follows, IsAhead, IsBehind, IsRecord, replaced_for}
use Rattle.tb_undo.proofs.StateLemmas.{state_same}
use Rattle.tb_steps.specs.Entries.{Entry, departure}
use Rattle.tb_core.specs.Packing.{packed, replaced_in}
use Rattle.tb_core.specs.Seen.{Seen, history}
use Rattle.tb_core.specs.Filling.{completed, IsRunOf, Fills}
use Rattle.tb_core.specs.Outcomes.{MayTake, Takes, event_for, grown_by}
use Rattle.tb_core.specs.Soundness.{seen, names_in, IsSound, HasReserved}
use Rattle.tb_core.specs.Renumbering.{events_in}
use Rattle.tb_places.specs.declared.places.Places.{Places}
use Rattle.tb_places.specs.Places.{event_number, IsIndexOf, IsNamed, HasRoomAs, HasRoomFor as HasRoomForPlaces}
use Rattle.tb_wait.specs.Kin.{KeepsNames}
use Rattle.tb_core.proofs.NumberLemmas.{index_kept}
use Rattle.tb_core.proofs.ShownLemmas.{may_take}

-- ---- what is filled in is settled by the tables

settled : (s : Tables) (t : Name) (a : Action) (f g : Cells) (m n : ℕ) (C D : List Departure) → names_allowed (length s.store.cells) a ≡ true
    → IsState f m C s → IsState g n D s → IsSpawned (events_of C) t → IsSpawned (events_of D) t
    → completed f (events_of C) t a ≡ completed g (events_of D) t a
settled s t (Load r c x) f g m n C D h j k p q =
    let parts = and_parts (nat_lt r 16) (nat_lt c (length s.store.cells)) h in
    let within : c < length s.store.cells = grind (arith, nat_tests, parts.1) in
    ap (Load r c) (sym (j.cells.number c (omega (arith, within, j.cells.count))) ∙ k.cells.number c (omega (arith, within, k.cells.count)))
settled s t (Spawn spawn) f g m n C D h j k p q =
    let same = sym (kin_stands (events_of C) t p) ∙ sym (j.of_tasks.waiting t) ∙ k.of_tasks.waiting t ∙ kin_stands (events_of D) t q in
    let kin = ap (λ o. unwrap_or o (kin_from [])) same in
    let count = sym (counted (own t (events_of C))) ∙ ap (λ x. x.children) kin ∙ counted (own t (events_of D)) in
    ap (λ i. Spawn (record spawn { child = child t (suc i) })) count
settled s t Start f g m n C D h j k p q = refl
settled s t (Let r x) f g m n C D h j k p q = refl
settled s t (Store c x) f g m n C D h j k p q = refl
settled s t (Print x) f g m n C D h j k p q = refl
settled s t (Wait items) f g m n C D h j k p q = refl
settled s t Open f g m n C D h j k p q = refl
settled s t Close f g m n C D h j k p q = refl
settled s t (Test b) f g m n C D h j k p q = refl
settled s t End f g m n C D h j k p q = refl
settled s t Fault f g m n C D h j k p q = refl

-- nothing needs the newest event
newest_unneeded : (H : History) (v : Event) → IsUnneeded (step_of H v) (v ∷ H)
newest_unneeded H v =
    ap (λ b. length (prepend_if (b || list_any (needs H v) (removed (step_of H v) H)) v (removed (step_of H v) H))) (its_step H v)
    ∙ ap (λ l. length (v ∷ l)) (removed_none (step_of H v) H (omega arith))

pub none_reserved : (o : Option Event) (room : ℕ) (s : Tables) (p : Places) → o ≡ None → HasReserved o room s p
none_reserved o room s p e = record {
  entry = λ v h. absurd (none v (sym e ∙ h));
  tables = λ v h. absurd (none v (sym e ∙ h));
  places = λ v h. absurd (none v (sym e ∙ h));
}
  where
    none : (v : Event) → ◌≡◌ {A = Option Event} None (Some v) → ⊥
    none v z = cc

module _ (first : Cells) (root_line limit : ℕ) (es : List Entry) (tables : Tables) (sound : IsSound first root_line limit (reverse es) tables)
    (s : Seen) (is : seen first root_line limit (reverse es) ≡ s) (t : Name) (a : Action) (may' : MayTake s t a) where
  abbrev D : List Departure
  D = map departure (reverse es)

  abbrev S : Seen
  S = seen first root_line limit (reverse es)

  may : MayTake S t a
  may = subst (λ (x : Seen). MayTake x t a) (sym is) may'

  fewer : length D ≤ 1000000
  fewer = omega (arith, length-map (reverse es) departure, sound.within, sound.bound)

  pub names : IsTrue (names_allowed (length tables.store.cells) a)
  names = ap (λ n. names_allowed n a) sound.state.cells.count ∙ may.allowed

  pub run_of : IsRunOf tables t
  run_of = record { first = first; root_line = root_line; steps = D; legal = sound.legal; state = sound.state; few = fewer; spawned = may.spawned }

  -- the event that is filled in is the action's
  pub filled : (v : Event) → Fills tables t a v → v ≡ event_for s t a
  filled v f = f first root_line D sound.state may.spawned ∙ ap (λ (x : Seen). event_for x t a) is

  pub fills : (v : Event) → v ≡ event_for s t a → Fills tables t a v
  fills v e g n C k q =
      e ∙ ap (λ (x : Seen). event_for x t a) (sym is)
      ∙ ap (λ b. made b) (settled tables t a first g root_line n D C names sound.state k may.spawned q)
    where
      made : Action → Event
      made b = record { task = t; action = b }

  -- it may follow the others
  pub follows : (v : Event) → v ≡ event_for s t a → MayFollow s.cells (history s) v
  follows v e =
      let legal : Legal s.cells (history s) = subst (λ (x : Seen). Legal x.cells (history x)) is sound.legal in
      subst (MayFollow s.cells (history s)) (sym e) (may_take s t a legal may')

  -- the step ordinal fits
  pub few_steps : length (own t (history s)) ≤ 1000000
  few_steps =
      let here : length (own t (history s)) ≡ length (own t (events_of D)) = ap (λ (x : Seen). length (own t (history x))) (sym is) in
      omega (arith, here, within (events_of D), length-map D (λ (d : Departure). d.event), fewer)
    where
      within : (H : History) → length (own t H) ≤ length H
      within [] = omega arith
      within (w ∷ H) = at (is_of t w) (within H)
        where
          at : (b : Bool) → length (own t H) ≤ length H → length (prepend_if b w.action (own t H)) ≤ suc (length H)
          at true h = omega arith
          at false h = omega arith

-- where a step fails, only capacity has changed
pub sound_same : (first : Cells) (root_line limit : ℕ) (es : List Entry) (tables : Tables) → IsSound first root_line limit (reverse es) tables
    → (es' : List Entry) (tables' : Tables) → es' ≡ es → AreSame tables tables' → IsSound first root_line limit (reverse es') tables'
sound_same first root_line limit es tables sound es' tables' e same =
    subst (λ (x : List Entry). IsSound first root_line limit (reverse x) tables') (sym e)
    (record { legal = sound.legal; records = sound.records; state = state_same first root_line (map departure (reverse es)) tables tables' same sound.state; within = sound.within; bound = sound.bound })

-- ---- what was replaced stays, as it is in a stored step

packed_back : (first : Cells) (root_line : ℕ) (D : List Departure) (t : Name) (a : Action) (to : ℕ) → replaced_in (packed (record { task = t; action = a }) to (replaced_for first root_line D (record { task = t; action = a }))) ≡ replaced_for first root_line D (record { task = t; action = a })
packed_back first root_line D t (Let r x) to = refl
packed_back first root_line D t (Load r c x) to = refl
packed_back first root_line D t (Store c x) to = refl
packed_back first root_line D t Start to = refl
packed_back first root_line D t (Print x) to = refl
packed_back first root_line D t (Spawn s) to = refl
packed_back first root_line D t (Wait items) to = refl
packed_back first root_line D t Open to = refl
packed_back first root_line D t Close to = refl
packed_back first root_line D t (Test b) to = refl
packed_back first root_line D t End to = refl
packed_back first root_line D t Fault to = refl

packed_right : (v : Event) (to : ℕ) (r : Replaced) (first : Cells) (root_line : ℕ) (D : List Departure) → r ≡ replaced_for first root_line D v
    → replaced_in (packed v to r) ≡ replaced_for first root_line D v
packed_right v to r first root_line D is = ap (λ x. replaced_in (packed v to x)) is ∙ packed_back first root_line D v.task v.action to

-- ---- an event that may follow the others

module _ (first : Cells) (root_line limit : ℕ) (es : List Entry) (tables : Tables) (sound : IsSound first root_line limit (reverse es) tables)
    (s : Seen) (is : seen first root_line limit (reverse es) ≡ s) (v : Event) (may' : MayFollow s.cells (history s) v) (room' : length s.steps < s.limit) where
  abbrev front : List Departure
  front = map departure (reverse es)

  place : length front < limit
  place = subst (λ (x : Seen). length x.steps < x.limit) (sym is) room'

  behind_them : Follows first root_line front v tables
  behind_them = record {
    legal = (sound.legal, subst (λ (x : Seen). MayFollow x.cells (history x) v) (sym is) may');
    state = sound.state;
    few = omega (arith, length-map (reverse es) departure, sound.within, sound.bound);
  }

  pub ahead : IsAhead tables v
  ahead = (first, root_line, front, behind_them)

  -- the event after the others
  pub record Appended (to : ℕ) (es' : List Entry) (new : Tables) : Type 0 where
    pub sound' : IsSound first root_line limit (reverse es') new
    pub now : seen first root_line limit (reverse es') ≡ grown_by v to s

  pub appended : (to : ℕ) (r : Replaced) (mid es' : List Entry) (new : Tables) → mid ≡ es → es' ≡ mid ++ packed v to r ∷ [] → IsBehind tables v to new
      → IsRecord tables v r → Appended to es' new
  appended to r mid es' new kept more behind told =
      let entry : Entry = packed v to r in
      let all : reverse es' ≡ entry ∷ reverse es = ap reverse (more ∙ ap (λ xs. xs ++ entry ∷ []) kept) ∙ reverse-append es (entry ∷ []) in
      let f = behind_them in
      record {
        sound' = subst (λ (x : List Entry). IsSound first root_line limit x new) (sym all) (record {
          legal = f.legal;
          records = (sound.records, packed_right v to r first root_line front (told first root_line front f));
          state = behind first root_line front f;
          within = omega (arith, place, length-map (reverse es) departure);
          bound = sound.bound;
        });
        now = ap (λ x. seen first root_line limit x) all ∙ ap (grown_by v to) is;
      }

-- the undo of a step that is executed would leave the others as they were
pub takes_so : (s : Seen) (t : Name) (a : Action) (to : ℕ) (new : Seen) (v : Event) → v ≡ event_for s t a → MayFollow s.cells (history s) v
    → new ≡ grown_by v to s → Takes s t a to new v
takes_so s t a to new v e may now = record {
  event = e;
  may = may;
  now = now;
  back = ap (λ (x : Seen). without (step_of (history s) v) (history x)) now ∙ without_newest (history s) v;
  lines = ap (λ (x : Seen). without_lines (step_of (history s) v) x.steps) now ∙ lines_kept [] s.steps (record { event = v; to = to }) (newest_unneeded (history s) v);
}

-- the capacity for a copy of the event is that for the event
pub some_reserved : (copy v : Event) (room : ℕ) (s : Tables) (p : Places) → copy ≡ v → 0 < room → HasRoomFor s v → HasRoomForPlaces (names_in s) p v
    → HasReserved (Some copy) room s p
some_reserved copy v room s p e some has place = record {
  entry = λ w h. some;
  tables = λ w h. subst (λ (x : Event). HasRoomFor s x) (sym e ∙ ap (λ o. unwrap_or o copy) h) has;
  places = λ w h. subst (λ (x : Event). HasRoomForPlaces (names_in s) p x) (sym e ∙ ap (λ o. unwrap_or o copy) h) place;
}

-- what was reserved has its capacity yet
pub reserved_kept : (o : Option Event) (room more : ℕ) (s now : Tables) (p new : Places) → room ≤ more → names_in now ≡ names_in s
    → ((v : Event) → HasRoomFor s v → HasRoomFor now v)
    → ((n : Option ℕ) (a : Action) → HasRoomAs p n a → HasRoomAs new n a) → HasReserved o room s p → HasReserved o more now new
reserved_kept o room more s now p new grows names tables places h = record {
  entry = λ v e. omega (arith, h.entry v e, grows);
  tables = λ v e. tables v (h.tables v e);
  places = λ v e. subst (λ ns. HasRoomAs new (event_number ns v) v.action) (sym names) (places (event_number (names_in s) v) v.action (h.places v e));
}

-- ---- the indexes

-- the stored steps stay
pub index_same : (es left : List Entry) (old new : Places) (was now : Tables) → left ≡ es
    → ((names : List Name) (events : List Event) → IsIndexOf names events old → IsIndexOf names events new)
    → KeepsNames was.waits.tasks now.waits.tasks → IsIndexOf (names_in was) (events_in es) old → IsIndexOf (names_in now) (events_in left) new
index_same es left old new was now same kept keeps index =
    subst (λ l. IsIndexOf (names_in now) (events_in l) new) (sym same) (index_kept was now (events_in es) new keeps (kept (names_in was) (events_in es) index))

-- one is added
pub index_added : (es more : List Entry) (e : Entry) (at : ℕ) (run : List Departure) (old new : Places) (was now : Tables) (number : Option ℕ)
    → run ≡ map departure (reverse es) → at ≡ length run → more ≡ es ++ e ∷ []
    → ((names : List Name) (events : List Event) → number ≡ event_number names e.event → IsNamed names e.event → IsIndexOf names events old → at ≡ length events → IsIndexOf names (events ++ e.event ∷ []) new)
    → number ≡ event_number (names_in was) e.event → IsNamed (names_in was) e.event → KeepsNames was.waits.tasks now.waits.tasks → IsIndexOf (names_in was) (events_in es) old → IsIndexOf (names_in now) (events_in more) new
index_added es more e at run old new was now number is count added pushed numbered named keeps index =
    let place : at ≡ length (events_in es) = omega (arith, count, ap length is, length-map (reverse es) departure, length-reverse es, length-map es (λ (x : Entry). x.event)) in
    index_kept was now (events_in more) new keeps
    (subst (λ l. IsIndexOf (names_in was) l new) (sym (ap events_in added ∙ events_append es)) (pushed (names_in was) (events_in es) numbered named index place))
  where
    events_append : (xs : List Entry) → events_in (xs ++ e ∷ []) ≡ events_in xs ++ e.event ∷ []
    events_append [] = refl
    events_append (x ∷ xs) = ap (λ l. x.event ∷ l) (events_append xs)
