-- The next event, in whatever whole history begins with it.
use Rattle.std.proofs.Common.{◌≡◌, ◌<◌, ◌+◌, ◌-◌, ℕ, suc, ◌∷◌, Bool, true, false, not, length, refl, sym, ap, ap₂, ◌∙◌, subst, arith, Option, Some, None, is_some, slice_get}
use Rattle.std.proofs.lemmas.Bool.{false≢true}
use Rattle.tb_model.specs.declared.action.Action.{Action}
use Rattle.tb_model.specs.declared.action.Action.TheVariants.{Load, Store, Print}
use Rattle.tb_model.specs.declared.event.Event.{Event}
use Rattle.tb_model.specs.Facts.{History, is_print, is_store_to, own, touches}
use Rattle.tb_model.specs.Legal.{Legal}
use Rattle.tb_model.specs.Names.{Name}
use Rattle.tb_clocks.specs.Known as known
use Rattle.tb_clocks.specs.Known.{HasId}
use Rattle.tb_clocks.specs.declared.tasks.Tasks.{Tasks}
use Rattle.tb_steps.specs.Entries.{Entry}
use Rattle.tb_steps.proofs.FirstLemmas.{step_read}
use Rattle.tb_races.specs.declared.conflict.Conflict.{Conflict}
use Rattle.tb_races.specs.declared.race.Race.{Race}
use Rattle.tb_races.specs.declared.conflict.Conflict.TheVariants.{Cell, Print as Prints}
use Rattle.tb_races.specs.Kinds.{shared, some_if}
use Rattle.tb_races.specs.Orders.{Synchronised}
use Rattle.tb_races.specs.Racing.{conflict, newest_race}
use Rattle.tb_lanes.specs.Clocks.{Lanes, reaches}
use Rattle.tb_lanes.specs.Kept as kept
use Rattle.tb_lanes.specs.Linking.{order_of}
use Rattle.tb_lanes.proofs.AfterLemmas.{at, at_is, at_read}
use Rattle.tb_lanes.proofs.OwnLemmas.{ev}
use Rattle.tb_lanes.proofs.RaceLemmas.{conflicts, none_named, race_named, some_shared}
use Rattle.tb_stream.specs.declared.access.Access.{Access}
use Rattle.tb_stream.specs.declared.mark.Mark.{Mark}
use Rattle.tb_stream.specs.Halves.{Begins, IsFound, Takes, conflict_of}
use Rattle.tb_stream.specs.Joins.{IsNow}
use Rattle.tb_stream.specs.Keeping.{IsAccess, behind}
use Rattle.tb_stream.specs.Seen.{IsAdded, IsEvent, IsOf, Run, front, order}
use Rattle.tb_stream.specs.declared.clocks.Clocks.{Clocks}
use Rattle.tb_stream.proofs.ListLemmas.{the_same}
use Rattle.tb_stream.proofs.SeenLemmas.{id_at, id_whole, legal_in_front, next_is}

head_same : (v u : Event) (G H : History) → ◌≡◌ {A = History} (v ∷ G) (u ∷ H) → v ≡ u
head_same v u G H e = cc

tail_same : (v u : Event) (G H : History) → ◌≡◌ {A = History} (v ∷ G) (u ∷ H) → G ≡ H
tail_same v u G H e = cc

module _ (exclusion : Bool) (H : History) (v : Event) (r : Run) (begins : Begins exclusion (v ∷ H) r) where
  abbrev n : ℕ
  n = length H

  pub inside : n < length r.entries
  inside = omega (arith, begins.within)

  same : ev r.entries n inside ∷ front r n ≡ v ∷ H
  same = sym (next_is r n inside) ∙ begins.front_is

  pub event_is : ev r.entries n inside ≡ v
  event_is = head_same (ev r.entries n inside) v (front r n) H same

  pub front_is : front r n ≡ H
  front_is = tail_same (ev r.entries n inside) v (front r n) H same

  pub begins_before : Begins exclusion H r
  begins_before = record { exclusion_is = begins.exclusion_is; within = omega (arith, begins.within); front_is = front_is }

  pub read_is : (x : Entry) → slice_get r.entries n ≡ Some x → x.event ≡ v
  read_is x g = ap (λ (e : Entry). e.event) (the_same x _ (sym g ∙ at_read Synchronised r.entries n inside)) ∙ event_is

  module _ (tasks : Tasks) (action : Action) (at_ task k : ℕ) (takes : Takes H v tasks action at_ task k) where
    facts : known.AreTasks r.legal.cells (front r n) tasks
    facts = subst (λ G. known.AreTasks r.legal.cells G tasks) (sym front_is) (record {
      legal = subst (Legal r.legal.cells) front_is (legal_in_front r n (omega (arith, begins.within)));
      count = takes.facts.count;
      listed = takes.facts.listed;
      each = takes.facts.each;
    })

    pub is_event : IsEvent r n action
    is_event x g = takes.action_is ∙ ap (λ (e : Event). e.action) (sym (read_is x g))

    is_of : IsOf r n task
    is_of x g =
        id_whole r n task x.event.task (omega (arith, begins.within))
        (subst (λ t. HasId (front r n) task t) (ap (λ (e : Event). e.task) (sym (read_is x g))) (subst (λ G. HasId G task v.task) (sym front_is) takes.id))

    pub is_now : IsNow r n tasks action task
    is_now = record { within = inside; facts = facts; action = is_event; task = is_of }

    pub access_is : (lanes : Lanes) (clocks : Clocks) (m : Mark) → IsAdded r n lanes clocks m → IsAccess r (n + 1) lanes (record { mark = m; k = k })
    access_is lanes clocks m added = record {
      mark = added.full.mark;
      task = added.full.task;
      number = λ x g.
          let e : slice_get r.entries n ≡ Some x = ap (slice_get r.entries) (sym added.at) ∙ g in
          takes.number ∙ ap₂ (λ t G. suc (length (own t G))) (ap (λ (e : Event). e.task) (sym (read_is x e))) (sym front_is ∙ ap (front r) (sym added.at));
    }

-- what a later action shares with an earlier one, if anything
some_so : (t : Bool) (c : Conflict) → is_some (some_if t c) ≡ true → some_if t c ≡ Some c
some_so true c h = refl
some_so false c h = absurd (false≢true h)

pub shares_it : (a b : Action) → is_some (shared a b) ≡ true → shared a b ≡ conflict_of a
shares_it (Load r c x) b h = some_so (is_store_to c b) (Cell c) h
shares_it (Store c x) b h = some_so (touches c b) (Cell c) h
shares_it (Print x) b h = some_so (is_print b) Prints h
shares_it _ b h = absurd (false≢true h)

pub not_shared : (a b : Action) → conflict_of a ≡ None → shared a b ≡ None
not_shared (Load r c x) b e = absurd (let no : ◌≡◌ {A = Option Conflict} (Some (Cell c)) None = e in cc)
not_shared (Store c x) b e = absurd (let no : ◌≡◌ {A = Option Conflict} (Some (Cell c)) None = e in cc)
not_shared (Print x) b e = absurd (let no : ◌≡◌ {A = Option Conflict} (Some Prints) None = e in cc)
not_shared _ b e = refl

-- ---- the race that is named

module _ (exclusion : Bool) (H : History) (v : Event) (r : Run) (begins : Begins exclusion (v ∷ H) r) where
  abbrev p : ℕ
  p = length H

  abbrev w : p < length r.entries
  w = inside exclusion H v r begins

  same_front : front r p ≡ H
  same_front = front_is exclusion H v r begins

  abbrev e : Entry
  e = at Synchronised r.entries p w

  event_here : e.event ≡ v
  event_here = event_is exclusion H v r begins

  -- as the whole history has it
  named_so : (o : Option Race) → o ≡ newest_race (order r) (front r p) e.event (front r p) → o ≡ newest_race (order_of exclusion) H v H
  named_so o h = h ∙ ap (λ x. newest_race (order_of x) (front r p) e.event (front r p)) begins.exclusion_is ∙ ap₂ (λ G u. newest_race (order_of exclusion) G u G) same_front event_here

  none_raced : kept.IsNewest (order r) r.entries p 0 → None ≡ newest_race (order_of exclusion) H v H
  none_raced is = named_so None (none_named r.exclusion r.entries p w 0 is e (at_read Synchronised r.entries p w) refl)

  pub none_found : (o : Option Access) → o ≡ None → IsFound exclusion H v o → None ≡ newest_race (order_of exclusion) H v H
  none_found o none found = none_raced (subst (λ x. kept.IsNewest (order r) r.entries p (behind x)) none (found r begins).1.newest)

  module _ (a : Access) (is : kept.IsNewest (order r) r.entries p (suc a.mark.at)) where
    abbrev x : ℕ
    x = a.mark.at

    abbrev low : x < p
    low = omega (arith, is.within)

    abbrev i : x < length r.entries
    i = omega (arith, low, w)

    apart : reaches (order r) r.entries p x ≡ false
    apart = (let back : suc x - 1 ≡ x = omega arith in subst (λ y. reaches (order r) r.entries p y ≡ false) back (is.unordered (omega arith)))

    conflict_here : conflict e.event (ev r.entries x i) ≡ shared e.event.action (ev r.entries x i).action
    conflict_here = conflicts (order r) r.entries p w x i low apart

    some_here : is_some (conflict e.event (ev r.entries x i)) ≡ true
    some_here = some_shared (order r) r.entries p w (suc x) is x refl i

    shared_is : conflict e.event (ev r.entries x i) ≡ conflict_of v.action
    shared_is =
        conflict_here ∙ shares_it e.event.action (ev r.entries x i).action (ap is_some (sym conflict_here) ∙ some_here) ∙ ap (λ (u : Event). conflict_of u.action) event_here

    pub shares_some : conflict_of v.action ≡ None → ⊥
    shares_some none = false≢true (ap is_some (sym none ∙ sym shared_is) ∙ some_here)

    -- the id of its task
    pub access_id : (lanes : Lanes) → IsAccess r p lanes a → HasId H a.mark.task (ev r.entries x i).task
    access_id lanes of = subst (λ G. HasId G a.mark.task (ev r.entries x i).task) same_front (id_at r p x a.mark.task (omega (arith, low)) (omega (arith, w)) of.task i)

    pub raced : (lanes : Lanes) → IsAccess r p lanes a → (c : Conflict) → conflict_of v.action ≡ Some c → (t : Name) → HasId H a.mark.task t → (k : ℕ)
        → k ≡ suc (length (own v.task H)) → (b : Bool) → b ≡ not exclusion
        → Some (record { earlier = record { task = t; k = a.k }; later = record { task = v.task; k = k }; conflict = c; apart = b }) ≡ newest_race (order_of exclusion) H v H
    raced lanes of c c_is t id k k_is b b_is =
        ap (λ z. Some (record { earlier = record { task = t; k = a.k }; later = record { task = v.task; k = k }; conflict = c; apart = z })) (b_is ∙ ap not (sym begins.exclusion_is))
        ∙ named_so (Some _)
        (race_named r.exclusion r.entries p w (suc x) is e (at_read Synchronised r.entries p w) x refl i (conflict e.event (ev r.entries x i))
        (λ d f d_is f_is. ap₂ (λ (y z : Entry). conflict y.event z.event) (the_same e d (sym (at_read Synchronised r.entries p w) ∙ d_is)) (the_same _ f (sym (at_read Synchronised r.entries x i) ∙ f_is)))
        c (shared_is ∙ c_is) (record { task = t; k = a.k }) (record { task = v.task; k = k })
        (step_read r.entries x (at Synchronised r.entries x i) i (at_is Synchronised r.entries x i) ∙ ap₂ (λ n m. Some (record { task = n; k = m })) earlier_name (sym (of.number _ (at_read Synchronised r.entries x i))))
        (step_read r.entries p e w (at_is Synchronised r.entries p w) ∙ ap₂ (λ n m. Some (record { task = n; k = m })) (ap (λ (u : Event). u.task) event_here) (ap₂ (λ n G. suc (length (own n G))) (ap (λ (u : Event). u.task) event_here) same_front ∙ sym k_is)))
      where
        earlier_name : (ev r.entries x i).task ≡ t
        earlier_name = the_same _ t (sym (id_at r p x a.mark.task (omega (arith, low)) (omega (arith, w)) of.task i) ∙ subst (λ G. HasId G a.mark.task t) (sym same_front) id)
