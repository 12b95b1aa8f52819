-- The holders follow a history: a start and the undo of an end take, an end and the undo of a start release.
use Rattle.std.proofs.Common.{◌≡◌, ◌≢◌, ◌↔◌, ℕ, List, [], ◌∷◌, ◌++◌, Bool, true, false, not, cond, ◌&&◌, ◌||◌, ⊎_elim, Some, None, Option, refl, sym, ap, ap₂, ◌∙◌, subst, nat_eq, eqb-true, eq-eqb, IsTrue, IsFalse}
use Rattle.std.specs.List.{list_any}
use Rattle.std.proofs.lemmas.Bool.{and_parts, both_ways, false_from_ne_true, false≢true, or_cases, or_right}
use Rattle.tb_model.specs.declared.place.Place.{Place}
use Rattle.tb_model.specs.declared.item.Item.{Item}
use Rattle.tb_model.specs.declared.action.Action.{Action}
use Rattle.tb_model.specs.declared.action.Action.TheVariants.{Start, Spawn, End, Fault}
use Rattle.tb_model.specs.declared.event.Event.{Event}
use Rattle.tb_model.specs.Names.{Name}
use Rattle.tb_model.specs.Facts.{History, is_of, is_start, is_end, starts, ends, items_of, items_for, own, HasStarted, IsSpawned}
use Rattle.tb_model.specs.Legal.{Cells, Legal, Continues, IsRunning}
use Rattle.tb_model.specs.Alike.{Alike}
use Rattle.tb_model.proofs.TestLemmas.{same_true}
use Rattle.tb_model.proofs.FactsLemmas.{acted_spawned, not_started, ends_own, not_running, cons_head, items_none, not_again, begun}
use Rattle.tb_model.specs.State.{status_of, has_begun}
use Rattle.tb_model.proofs.StateLemmas.{begun_started}
use Rattle.tb_model.proofs.NeighboursLemmas.{start_only}
use Rattle.tb_excl.specs.Holders.{Holders, holder, takes, is_exclusive, is_place, HasRoomFor, KeepsRoom, IsSet}
use Rattle.tb_excl.specs.Histories.{is_held, AreHolders}
use Rattle.tb_excl.proofs.RoomLemmas.{kept_room}
use Rattle.tb_excl.proofs.ApartLemmas.{one_holder}

-- ---- one child comes to hold

-- from one history to the other the kth child comes to hold what its items take, and the other children hold what they held
record Gains (H G : History) (p : Name) (k : ℕ) (items : List Item) : Type 0 where
  pub others : (place : Place) (m : ℕ) → m ≢ k → is_held G p place m ≡ is_held H p place m
  pub mine : (place : Place) → is_held G p place k ≡ takes items place
  pub before : (place : Place) → is_held H p place k ≡ false

abbrev HoldAs : History → Name → Holders → Type 0
HoldAs H p h = (place : Place) (n : ℕ) → (holder h place ≡ Some n) ↔ IsTrue (is_held H p place n)

module _ (H G : History) (p : Name) (k : ℕ) (items : List Item) (g : Gains H G p k items) (one : (place : Place) (m n : ℕ) → is_held G p place m ≡ true → is_held G p place n ≡ true → m ≡ n)
    (old new : Holders) where
  -- a location that the items don't take is held by the same child in both
  there : (place : Place) (n : ℕ) → takes items place ≡ false → is_held G p place n ≡ is_held H p place n
  there place n t = by_number (nat_eq n k) refl
    where
      by_number : (b : Bool) → nat_eq n k ≡ b → is_held G p place n ≡ is_held H p place n
      by_number true e =
          subst (λ m. is_held G p place m ≡ is_held H p place m) (sym (eqb-true n k e)) (g.mine place ∙ t ∙ sym (g.before place))
      by_number false e = g.others place n (λ z. both_ways (nat_eq n k) e (eq-eqb n k z))

  gains_set : HoldAs H p old → IsSet old items (Some k) new → HoldAs G p new
  gains_set held set place n = by_items (takes items place) refl
    where
      by_items : (b : Bool) → takes items place ≡ b → (holder new place ≡ Some n) ↔ (is_held G p place n ≡ true)
      by_items true t =
          let h : holder new place ≡ Some k = set place ∙ ap (λ b. cond b (Some k) (holder old place)) t in
          let mine : is_held G p place k ≡ true = g.mine place ∙ t in (
            λ e. let same : k ≡ n = cc (sym h ∙ e) in subst (λ m. is_held G p place m ≡ true) same mine,
            λ x. h ∙ ap Some (one place k n mine x),
          )
      by_items false t =
          let h : holder new place ≡ holder old place = set place ∙ ap (λ b. cond b (Some k) (holder old place)) t in (
            λ e. there place n t ∙ (held place n).0 (sym h ∙ e),
            λ x. h ∙ (held place n).1 (sym (there place n t) ∙ x),
          )

  loses_set : HoldAs G p old → IsSet old items None new → HoldAs H p new
  loses_set held set place n = by_items (takes items place) refl
    where
      no : takes items place ≡ true → (b : Bool) → nat_eq n k ≡ b → is_held H p place n ≡ true → ⊥
      no t true e x =
          both_ways (is_held H p place k) (g.before place) (subst (λ m. is_held H p place m ≡ true) (eqb-true n k e) x)
      no t false e x =
          let d : n ≢ k = λ z. both_ways (nat_eq n k) e (eq-eqb n k z) in
          d (one place n k (g.others place n d ∙ x) (g.mine place ∙ t))

      by_items : (b : Bool) → takes items place ≡ b → (holder new place ≡ Some n) ↔ (is_held H p place n ≡ true)
      by_items true t =
          let h : holder new place ≡ None = set place ∙ ap (λ b. cond b None (holder old place)) t in (
            λ e. let bad : ◌≡◌ {A = Option ℕ} None (Some n) = sym h ∙ e in absurd (cc bad),
            λ x. absurd (no t (nat_eq n k) refl x),
          )
      by_items false t =
          let h : holder new place ≡ holder old place = set place ∙ ap (λ b. cond b None (holder old place)) t in (
            λ e. sym (there place n t) ∙ (held place n).0 (sym h ∙ e),
            λ x. h ∙ (held place n).1 (there place n t ∙ x),
          )

-- ---- one more event

-- an event that doesn't start or end the task, and gives it no items if it has started
same_parts : (a e s d : Bool) (is js : List Item) (place : Place) → a ≡ false → e ≡ false → (s ≡ true → is ≡ []) → ((a || s) && (not (e || d) && takes (is ++ js) place)) ≡ (s && (not d && takes js place))
same_parts a e true d is js place x y z = rw (x, y, z refl) refl
same_parts a e false d is js place x y z = rw x refl

new_parts : (a e s d : Bool) (is js : List Item) (place : Place) → a ≡ true → e ≡ false → d ≡ false → is ≡ [] → ((a || s) && (not (e || d) && takes (is ++ js) place)) ≡ takes js place
new_parts a e s d is js place x y w z = rw (x, y, w, z) refl

over_parts : (a e d x : Bool) → e ≡ true → (a && (not (e || d) && x)) ≡ false
over_parts true e d x h = rw h refl
over_parts false e d x h = refl

under_way : (s d x : Bool) → s ≡ true → d ≡ false → (s && (not d && x)) ≡ x
under_way s d x a b = rw (a, b) refl

starts_own : (t : Name) (v : Event) → starts t v ≡ true → is_of t v ≡ true
starts_own t v h = (and_parts (is_of t v) (is_start v.action) h).0

-- an event is one of one child
one_child : (v : Event) (p : Name) (m n : ℕ) → is_of (m ∷ p) v ≡ true → is_of (n ∷ p) v ≡ true → m ≡ n
one_child v p m n a b = cons_head (sym (same_true v.task (m ∷ p) a) ∙ same_true v.task (n ∷ p) b)

started_spawned : (cells : Cells) (H : History) (t : Name) → Legal cells H → HasStarted H t → IsSpawned H t
started_spawned cells H t l s = acted_spawned cells H t l (λ z. not_started t H (starts t) (starts_own t) z s)

-- who starts hasn't started
fresh : (cells : Cells) (H : History) (v : Event) (t : Name) → Legal cells (v ∷ H) → starts t v ≡ true → own t H ≡ []
fresh cells H v t l s =
    let o = and_parts (is_of t v) (is_start v.action) s in
    ap (λ u. own u H) (sym (same_true v.task t o.0)) ∙ subst (Continues cells v.task (own v.task H)) (start_only v.action o.1) l.1.own

-- ---- a start

start_items : (t : Name) (a : Action) → is_start a ≡ true → items_for t a ≡ []
start_items t a s = ap (items_for t) (start_only a s)

start_ends : (a : Action) → is_start a ≡ true → is_end a ≡ false
start_ends a s = ap is_end (start_only a s)

starting : (cells : Cells) (H : History) (v : Event) (p : Name) (n : ℕ) → Legal cells (v ∷ H) → starts (n ∷ p) v ≡ true → Gains H (v ∷ H) p n (items_of (n ∷ p) H)
starting cells H v p n l s =
    let o = and_parts (is_of (n ∷ p) v) (is_start v.action) s in
    let no_end : (t : Name) → ends t v ≡ false = λ t. false_from_ne_true (ends t v) (λ e. both_ways (is_end v.action) (start_ends v.action o.1) (and_parts (is_of t v) (is_end v.action) e).1) in
    let first = fresh cells H v (n ∷ p) l s in
    let not_begun : list_any (starts (n ∷ p)) H ≡ false = false_from_ne_true (list_any (starts (n ∷ p)) H) (λ e. not_started (n ∷ p) H (starts (n ∷ p)) (starts_own (n ∷ p)) first e) in
    let not_over : list_any (ends (n ∷ p)) H ≡ false = false_from_ne_true (list_any (ends (n ∷ p)) H) (λ e. not_started (n ∷ p) H (ends (n ∷ p)) (ends_own (n ∷ p)) first e) in
    record {
      others =
          λ place m d.
          same_parts (starts (m ∷ p) v) (ends (m ∷ p) v) (list_any (starts (m ∷ p)) H) (list_any (ends (m ∷ p)) H) (items_for (m ∷ p) v.action) (items_of (m ∷ p) H) place
          (false_from_ne_true (starts (m ∷ p) v) (λ e. d (one_child v p m n (starts_own (m ∷ p) v e) o.0))) (no_end (m ∷ p)) (λ x. start_items (m ∷ p) v.action o.1);
      mine =
          λ place.
          new_parts (starts (n ∷ p) v) (ends (n ∷ p) v) (list_any (starts (n ∷ p)) H) (list_any (ends (n ∷ p)) H) (items_for (n ∷ p) v.action) (items_of (n ∷ p) H) place
          s (no_end (n ∷ p)) not_over (start_items (n ∷ p) v.action o.1);
      before = λ place. ap (λ b. b && (not (list_any (ends (n ∷ p)) H) && takes (items_of (n ∷ p) H) place)) not_begun;
    }

-- the holders after a start, and after its undo
pub start : (cells : Cells) (H : History) (v : Event) (p : Name) (n : ℕ) (old new : Holders) → Legal cells (v ∷ H) → IsTrue (starts (n ∷ p) v) → AreHolders H p old → IsSet old (items_of (n ∷ p) H) (Some n) new → HasRoomFor new (items_of (n ∷ p) H) → KeepsRoom old new → AreHolders (v ∷ H) p new
start cells H v p n old new l s a set has keeps = record {
  parent = keeps.parent ∙ a.parent;
  held = gains_set H (v ∷ H) p n (items_of (n ∷ p) H) (starting cells H v p n l s) (λ place m k. one_holder cells (v ∷ H) p place m k l) old new a.held set;
  room =
      λ m b.
      subst (HasRoomFor new) (sym (ap (λ i. i ++ items_of (m ∷ p) H) (start_items (m ∷ p) v.action o.1)))
      (⊎_elim (λ e. subst (λ k. HasRoomFor new (items_of (k ∷ p) H)) (sym (one_child v p m n (starts_own (m ∷ p) v e) o.0)) has) (λ e. kept_room old new (items_of (m ∷ p) H) keeps (a.room m e))
      (or_cases (starts (m ∷ p) v) (list_any (starts (m ∷ p)) H) b));
}
  where
    o : (is_of (n ∷ p) v ≡ true) × (is_start v.action ≡ true)
    o = and_parts (is_of (n ∷ p) v) (is_start v.action) s

pub start_back : (cells : Cells) (H : History) (v : Event) (p : Name) (n : ℕ) (old new : Holders) → Legal cells (v ∷ H) → IsTrue (starts (n ∷ p) v) → AreHolders (v ∷ H) p old → IsSet old (items_of (n ∷ p) H) None new → KeepsRoom old new → AreHolders H p new
start_back cells H v p n old new l s a set keeps = record {
  parent = keeps.parent ∙ a.parent;
  held = loses_set H (v ∷ H) p n (items_of (n ∷ p) H) (starting cells H v p n l s) (λ place m k. one_holder cells (v ∷ H) p place m k l) old new a.held set;
  room =
      λ m b.
      subst (HasRoomFor new) (ap (λ i. i ++ items_of (m ∷ p) H) (start_items (m ∷ p) v.action (and_parts (is_of (n ∷ p) v) (is_start v.action) s).1))
      (kept_room old new (items_of (m ∷ p) (v ∷ H)) keeps (a.room m (or_right (starts (m ∷ p) v) _ b)));
}

-- ---- an end

end_runs : (cells : Cells) (t : Name) (acts : List Action) (a : Action) → is_end a ≡ true → Continues cells t acts a → IsRunning acts
end_runs cells t acts a e h =
    ⊎_elim (λ s. absurd (both_ways (is_end a) (ap is_end s) e)) (λ r. r) (begun cells t acts a h)

end_starts : (a : Action) → is_end a ≡ true → is_start a ≡ false
end_starts Start e = absurd (false≢true e)
end_starts _ e = refl

pub end_items : (t : Name) (a : Action) → is_end a ≡ true → items_for t a ≡ []
end_items t (Spawn s) e = absurd (false≢true e)
end_items t _ e = refl

running_begun : (acts : List Action) → IsRunning acts → has_begun (status_of acts) ≡ true
running_begun [] r = absurd r
running_begun (End ∷ acts) r = refl
running_begun (Fault ∷ acts) r = refl
running_begun (_ ∷ acts) r = refl

-- the task that an event ends is under way
record Ends (H : History) (t : Name) : Type 0 where
  pub begun : list_any (starts t) H ≡ true
  pub alive : list_any (ends t) H ≡ false

ends_running : (cells : Cells) (H : History) (v : Event) (t : Name) → Legal cells (v ∷ H) → ends t v ≡ true → Ends H t
ends_running cells H v t l s =
    let o = and_parts (is_of t v) (is_end v.action) s in
    let runs : IsRunning (own t H) = subst (λ u. IsRunning (own u H)) (same_true v.task t o.0) (end_runs cells v.task (own v.task H) v.action o.1 l.1.own) in
    record {
      begun = begun_started cells H t l.0 ∙ running_begun (own t H) runs;
      alive = false_from_ne_true (list_any (ends t) H) (λ e. not_running cells H t l.0 e runs);
    }

ending : (cells : Cells) (H : History) (v : Event) (p : Name) (n : ℕ) → Legal cells (v ∷ H) → ends (n ∷ p) v ≡ true → Gains (v ∷ H) H p n (items_of (n ∷ p) H)
ending cells H v p n l s =
    let o = and_parts (is_of (n ∷ p) v) (is_end v.action) s in
    let no_start : (u : Name) → starts u v ≡ false = λ u. false_from_ne_true (starts u v) (λ e. both_ways (is_start v.action) (end_starts v.action o.1) (and_parts (is_of u v) (is_start v.action) e).1) in
    let was = ends_running cells H v (n ∷ p) l s in
    record {
      others =
          λ place m d.
          sym (same_parts (starts (m ∷ p) v) (ends (m ∷ p) v) (list_any (starts (m ∷ p)) H) (list_any (ends (m ∷ p)) H) (items_for (m ∷ p) v.action) (items_of (m ∷ p) H) place
          (no_start (m ∷ p)) (false_from_ne_true (ends (m ∷ p) v) (λ e. d (one_child v p m n (ends_own (m ∷ p) v e) o.0))) (λ x. end_items (m ∷ p) v.action o.1));
      mine = λ place. under_way (list_any (starts (n ∷ p)) H) (list_any (ends (n ∷ p)) H) (takes (items_of (n ∷ p) H) place) was.begun was.alive;
      before = λ place. over_parts (starts (n ∷ p) v || list_any (starts (n ∷ p)) H) (ends (n ∷ p) v) (list_any (ends (n ∷ p)) H) (takes (items_of (n ∷ p) (v ∷ H)) place) s;
    }

-- an end starts nobody
end_started : (v : Event) (H : History) (t : Name) → is_end v.action ≡ true → HasStarted (v ∷ H) t → HasStarted H t
end_started v H t e b =
    ⊎_elim (λ s. absurd (both_ways (is_start v.action) (end_starts v.action e) (and_parts (is_of t v) (is_start v.action) s).1)) (λ s. s) (or_cases (starts t v) (list_any (starts t) H) b)

-- the holders after an end, and after its undo
pub end : (cells : Cells) (H : History) (v : Event) (p : Name) (n : ℕ) (old new : Holders) → Legal cells (v ∷ H) → IsTrue (ends (n ∷ p) v) → AreHolders H p old → IsSet old (items_of (n ∷ p) H) None new → KeepsRoom old new → AreHolders (v ∷ H) p new
end cells H v p n old new l s a set keeps = record {
  parent = keeps.parent ∙ a.parent;
  held = loses_set (v ∷ H) H p n (items_of (n ∷ p) H) (ending cells H v p n l s) (λ place m k. one_holder cells H p place m k l.0) old new a.held set;
  room =
      λ m b.
      subst (HasRoomFor new) (sym (ap (λ i. i ++ items_of (m ∷ p) H) (end_items (m ∷ p) v.action o.1)))
      (kept_room old new (items_of (m ∷ p) H) keeps (a.room m (end_started v H (m ∷ p) o.1 b)));
}
  where
    o : (is_of (n ∷ p) v ≡ true) × (is_end v.action ≡ true)
    o = and_parts (is_of (n ∷ p) v) (is_end v.action) s

pub end_back : (cells : Cells) (H : History) (v : Event) (p : Name) (n : ℕ) (old new : Holders) → Legal cells (v ∷ H) → IsTrue (ends (n ∷ p) v) → AreHolders (v ∷ H) p old → IsSet old (items_of (n ∷ p) H) (Some n) new → KeepsRoom old new → AreHolders H p new
end_back cells H v p n old new l s a set keeps = record {
  parent = keeps.parent ∙ a.parent;
  held = gains_set (v ∷ H) H p n (items_of (n ∷ p) H) (ending cells H v p n l s) (λ place m k. one_holder cells H p place m k l.0) old new a.held set;
  room =
      λ m b.
      subst (HasRoomFor new) (ap (λ i. i ++ items_of (m ∷ p) H) (end_items (m ∷ p) v.action (and_parts (is_of (n ∷ p) v) (is_end v.action) s).1))
      (kept_room old new (items_of (m ∷ p) (v ∷ H)) keeps (a.room m (or_right (starts (m ∷ p) v) _ b)));
}

-- the undo of an end has its capacity
pub end_room : (cells : Cells) (H : History) (v : Event) (p : Name) (n : ℕ) (h : Holders) → Legal cells (v ∷ H) → IsTrue (ends (n ∷ p) v) → AreHolders (v ∷ H) p h → HasRoomFor h (items_of (n ∷ p) H)
end_room cells H v p n h l s a =
    subst (HasRoomFor h) (ap (λ i. i ++ items_of (n ∷ p) H) (end_items (n ∷ p) v.action (and_parts (is_of (n ∷ p) v) (is_end v.action) s).1))
    (a.room n (or_right (starts (n ∷ p) v) _ (ends_running cells H v (n ∷ p) l s).begun))

-- ---- the beginning, and what changes nothing

-- before a child has started nothing is held
pub first : (H : History) (p : Name) (h : Holders) → h.parent ≡ p → ((place : Place) → holder h place ≡ None) → ((n : ℕ) → IsFalse (list_any (starts (n ∷ p)) H)) → AreHolders H p h
first H p h e free none = record {
  parent = e;
  held =
      λ place n. (
        λ x. let bad : ◌≡◌ {A = Option ℕ} None (Some n) = sym (free place) ∙ x in absurd (cc bad),
        λ x. absurd (both_ways (list_any (starts (n ∷ p)) H) (none n) (and_parts (list_any (starts (n ∷ p)) H) _ x).0),
      );
  room = λ n s. absurd (both_ways (list_any (starts (n ∷ p)) H) (none n) s);
}

-- where the same is held, and the same children have started, with the same items to take
holders_as : (G H : History) (p : Name) (h : Holders) → ((place : Place) (n : ℕ) → is_held G p place n ≡ is_held H p place n) → ((n : ℕ) → HasStarted H (n ∷ p) → HasStarted G (n ∷ p)) → ((n : ℕ) → HasStarted H (n ∷ p) → (place : Place) → takes (items_of (n ∷ p) G) place ≡ takes (items_of (n ∷ p) H) place) → AreHolders G p h → AreHolders H p h
holders_as G H p h held started items a = record {
  parent = a.parent;
  held = λ place n. (λ e. sym (held place n) ∙ (a.held place n).0 e, λ e. (a.held place n).1 (held place n ∙ e));
  room = λ n s place t. a.room n (started n s) place (items n s place ∙ t);
}

pub other : (cells : Cells) (H : History) (v : Event) (p : Name) (h : Holders) → Legal cells (v ∷ H) → ((n : ℕ) → IsFalse (starts (n ∷ p) v)) → ((n : ℕ) → IsFalse (ends (n ∷ p) v)) → AreHolders H p h ↔ AreHolders (v ∷ H) p h
other cells H v p h l no_start no_end = (
  holders_as H (v ∷ H) p h (λ place n. sym (same place n)) before (λ n s place. ap (λ i. takes i place) (sym (items n (before n s)))),
  holders_as (v ∷ H) H p h same (λ n s. or_right (starts (n ∷ p) v) _ s) (λ n s place. ap (λ i. takes i place) (items n s)),
)
  where
    before : (n : ℕ) → HasStarted (v ∷ H) (n ∷ p) → HasStarted H (n ∷ p)
    before n s = ap (λ b. b || list_any (starts (n ∷ p)) H) (sym (no_start n)) ∙ s

    no_items : (n : ℕ) → HasStarted H (n ∷ p) → items_for (n ∷ p) v.action ≡ []
    no_items n s = items_none (n ∷ p) v.action (not_again cells H l.0 v l.1 (n ∷ p) (started_spawned cells H (n ∷ p) l.0 s))

    items : (n : ℕ) → HasStarted H (n ∷ p) → items_of (n ∷ p) (v ∷ H) ≡ items_of (n ∷ p) H
    items n s = ap (λ i. i ++ items_of (n ∷ p) H) (no_items n s)

    same : (place : Place) (n : ℕ) → is_held (v ∷ H) p place n ≡ is_held H p place n
    same place n =
        same_parts (starts (n ∷ p) v) (ends (n ∷ p) v) (list_any (starts (n ∷ p)) H) (list_any (ends (n ∷ p)) H) (items_for (n ∷ p) v.action) (items_of (n ∷ p) H) place
        (no_start n) (no_end n) (no_items n)

-- histories that say the same have the same holders
pub alike : (G H : History) (p : Name) (h : Holders) → Alike G H → AreHolders G p h → AreHolders H p h
alike G H p h a =
    holders_as G H p h (λ place n. same place n) (λ n s. a.any (starts (n ∷ p)) ∙ s) (λ n s place. a.items (n ∷ p) (λ i. is_exclusive i.kind && is_place i.place place))
  where
    same : (place : Place) (n : ℕ) → is_held G p place n ≡ is_held H p place n
    same place n =
        ap (λ b. b && (not (list_any (ends (n ∷ p)) G) && takes (items_of (n ∷ p) G) place)) (a.any (starts (n ∷ p)))
        ∙ ap₂ (λ b c. list_any (starts (n ∷ p)) H && (not b && c)) (a.any (ends (n ∷ p))) (a.items (n ∷ p) (λ i. is_exclusive i.kind && is_place i.place place))
