-- The ends about which a step is asked.
use Rattle.std.proofs.Common.{◌≡◌, ◌<◌, ◌||◌, ℕ, zero, suc, List, [], ◌∷◌, Bool, true, false, cond, length, refl, sym, ap, ap₂, ◌∙◌, subst, arith, Option, Some, None, slice_get, ◌⊎◌, inl, inr, ⊎_elim, eqb-true, Vec, Global}
use Rattle.std.specs.List.{list_any}
use Rattle.std.proofs.lemmas.Bool.{and_parts, both_ways, false≢true, false_from_ne_true}
use Rattle.tb_model.specs.declared.action.Action.{Action}
use Rattle.tb_model.specs.declared.action.Action.TheVariants.{Start, Wait, Close}
use Rattle.tb_model.specs.declared.event.Event.{Event}
use Rattle.tb_model.specs.declared.item.Item.{Item}
use Rattle.tb_model.specs.declared.kind.Kind.{Kind}
use Rattle.tb_model.specs.declared.kind.Kind.TheVariants.{In, Out, Inout, Mutexinoutset, Inoutset}
use Rattle.tb_model.specs.declared.place.Place.{Place}
use Rattle.tb_model.specs.declared.place.Place.TheVariants.{Cell, All}
use Rattle.tb_model.specs.Facts.{holds, is_start, items_of, own}
use Rattle.tb_model.specs.Items.{has_no_items, same_place}
use Rattle.tb_clocks.specs.Known.{holds_some, parent_of}
use Rattle.tb_steps.specs.Entries.{Entry}
use Rattle.tb_races.specs.Kinds.{wait_kind}
use Rattle.tb_races.specs.Orders.{Synchronised, counts_some}
use Rattle.tb_lanes.specs.declared.lane_bound.LaneBound.{LaneBound}
use Rattle.tb_lanes.specs.Clocks.{IsEnd, Lanes, both_at, links_at, of_one}
use Rattle.tb_lanes.specs.Linking.{order_of}
use Rattle.tb_lanes.specs.Rows.{asks, item_key, items_at, may_meet, some_may_meet, waits_at}
use Rattle.tb_lanes.proofs.AfterLemmas.{at, at_read, same_at}
use Rattle.tb_lanes.proofs.AskedLemmas.{any_at, held_goes_on, link_parts, other_waits, start_asked, wait_asked, waits_is}
use Rattle.tb_lanes.proofs.OwnLemmas.{ev}
use Rattle.tb_lanes.proofs.SoundLemmas.{told_own}
use Rattle.tb_lanes.specs.Bounds.{bound_among}
use Rattle.tb_stream.specs.declared.end.End.{End}
use Rattle.tb_stream.specs.declared.joined.Joined.{Joined}
use Rattle.tb_stream.specs.declared.order.Order.{Order}
use Rattle.tb_stream.specs.declared.waiter.Waiter.{Waiter}
use Rattle.tb_stream.specs.Ends.{IsNoted, IsRowOf}
use Rattle.tb_stream.specs.Joins.{AreJoined, HasMet, IsChildEnd, IsTold, IsWaiting, Merges, waited_by}
use Rattle.tb_stream.specs.Seen.{IsId, Run, front, order}
use Rattle.tb_stream.proofs.AskLemmas.{held_parent, holds_so, start_parent, wait_parent}
use Rattle.tb_stream.proofs.ListLemmas.{the_same}
use Rattle.tb_stream.proofs.MergeLemmas.{merges_both, merges_none, merges_own}

-- ---- what is met

no_some : {A : Type 0} (x : A) → ◌≡◌ {A = Option A} None (Some x) → ⊥
no_some x e = cc

got_low : {A : Type 0} (xs : List A) (i : ℕ) (x : A) → slice_get xs i ≡ Some x → i < length xs
got_low [] i x e = absurd (no_some x e)
got_low (y ∷ xs) zero x e = omega arith
got_low (y ∷ xs) (suc i) x e = omega (arith, got_low xs i x e)

-- an item of the kind at the cell, or at all memory, has the key of the one or of the other
pub noted_met : (r : Run) (n g x : ℕ) (asked : Option Kind) (kind : Kind) (c : ℕ) → asked ≡ Some kind → IsChildEnd r n g x × HasMet r asked c x
    → IsNoted r n (item_key g kind (Cell c)) x ⊎ IsNoted r n (item_key g kind All) x
noted_met r n g x asked kind c is (child, met) = by met.1.place refl met.4
  where
    same : kind ≡ met.1.kind
    same = the_same kind met.1.kind (sym is ∙ met.3)

    noted : (p : Place) → met.1.place ≡ p → IsNoted r n (item_key g kind p) x
    noted p e = (child.0, (g, child.1, inr (met.0, met.1, got_low (items_at r.entries x) met.0 met.1 met.2, met.2, ap₂ (item_key g) same (sym e))))

    by : (p : Place) → met.1.place ≡ p → same_place (Cell c) met.1.place ≡ true → IsNoted r n (item_key g kind (Cell c)) x ⊎ IsNoted r n (item_key g kind All) x
    by (Cell d) e h =
        let q : c ≡ d = eqb-true c d (ap (same_place (Cell c)) (sym e) ∙ h) in
        inl (noted (Cell c) (e ∙ ap Cell (sym q)))
    by All e h = inr (noted All e)

abbrev pub asked_of : Bool → Kind → Kind → Option Kind
asked_of exclusion new old = cond (asks exclusion new old) (Some old) None

-- an item that may be met is one of a kind that is asked for
pub met_of : (r : Run) (n g x : ℕ) (item : Item) (c : ℕ) → item.place ≡ Cell c
    → IsChildEnd r n g x × (list_any (may_meet r.exclusion item) (items_at r.entries x) ≡ true)
    → (k : Kind) × (IsChildEnd r n g x × HasMet r (asked_of r.exclusion item.kind k) c x)
met_of r n g x item c place (child, h) =
    let a = any_at (may_meet r.exclusion item) (items_at r.entries x) h in
    let b = and_parts (same_place item.place a.1.place) (asks r.exclusion item.kind a.1.kind) a.4 in
    (a.1.kind, (child, (a.0, a.1, a.3, ap (λ t. cond t (Some a.1.kind) None) b.1, subst (λ p. same_place p a.1.place ≡ true) place b.0)))

module _ (r : Run) (n : ℕ) (lanes : Lanes) (rows : List (Vec LaneBound Global)) (k : ℕ) where
  -- kind by kind
  pub merges_kinds : (P : Kind → ℕ → Type 0) (S : ℕ → Type 0) (a b c d e f : Joined) → Merges r n lanes rows k (P In) a b
      → Merges r n lanes rows k (P Out) b c → Merges r n lanes rows k (P Inout) c d → Merges r n lanes rows k (P Mutexinoutset) d e
      → Merges r n lanes rows k (P Inoutset) e f
      → ((x : ℕ) → S x → (j : Kind) × P j x) → Merges r n lanes rows k S a f
  merges_kinds P S a b c d e f m1 m2 m3 m4 m5 which =
      merges_both r n lanes rows k (λ x. P In x ⊎ (P Out x ⊎ (P Inout x ⊎ P Mutexinoutset x))) (P Inoutset) S a e f
      (merges_both r n lanes rows k (λ x. P In x ⊎ (P Out x ⊎ P Inout x)) (P Mutexinoutset) (λ x. P In x ⊎ (P Out x ⊎ (P Inout x ⊎ P Mutexinoutset x))) a d e
      (merges_both r n lanes rows k (λ x. P In x ⊎ P Out x) (P Inout) (λ x. P In x ⊎ (P Out x ⊎ P Inout x)) a c d
      (merges_both r n lanes rows k (P In) (P Out) (λ x. P In x ⊎ P Out x) a b c m1 m2 (λ x l s h. s))
      m3 (λ x l s h. third s))
      m4 (λ x l s h. fourth s))
      m5 (λ x l s h. let w = which x s in fifth w.0 x w.1)
    where
      third : {A B C : Type 0} → A ⊎ (B ⊎ C) → (A ⊎ B) ⊎ C
      third (inl a) = inl (inl a)
      third (inr (inl b)) = inl (inr b)
      third (inr (inr c)) = inr c

      fourth : {A B C D : Type 0} → A ⊎ (B ⊎ (C ⊎ D)) → (A ⊎ (B ⊎ C)) ⊎ D
      fourth (inl a) = inl (inl a)
      fourth (inr (inl b)) = inl (inr (inl b))
      fourth (inr (inr (inl c))) = inl (inr (inr c))
      fourth (inr (inr (inr d))) = inr d

      fifth : (j : Kind) (x : ℕ) → P j x → (P In x ⊎ (P Out x ⊎ (P Inout x ⊎ P Mutexinoutset x))) ⊎ P Inoutset x
      fifth In x p = inl (inl p)
      fifth Out x p = inl (inr (inl p))
      fifth Inout x p = inl (inr (inr (inl p)))
      fifth Mutexinoutset x p = inl (inr (inr (inr p)))
      fifth Inoutset x p = inr p

  -- a row by its key
  pub merges_no_row : (P : ℕ → Type 0) (o : Option (Vec End Global)) → o ≡ None → IsRowOf r n lanes rows P o → (j : Joined) → AreJoined r n lanes rows k j
      → Merges r n lanes rows k P j j
  merges_no_row P o is row j are = merges_none r n lanes rows k j are P (λ x l p h. none o is row x p)
    where
      none : (o : Option (Vec End Global)) → o ≡ None → IsRowOf r n lanes rows P o → (x : ℕ) → P x → ⊥
      none None e row x p = row x p
      none (Some y) e row x p = absurd (let no : ◌≡◌ {A = Option (Vec End Global)} (Some y) None = e in cc)

-- ---- for whom it waits

module _ (r : Run) (n : ℕ) (lanes : Lanes) (o : Order) (w : Waiter) (wait : IsWaiting r n lanes o w) where
  abbrev inside : n < length r.entries
  inside = wait.now.within

  abbrev v : Event
  v = ev r.entries n inside

  abbrev rows : List (Vec LaneBound Global)
  rows = o.clocks.rows.items

  abbrev k : ℕ
  k = w.step.lane

  pub action_is : w.action.now ≡ v.action
  action_is = wait.now.action (at Synchronised r.entries n inside) (at_read Synchronised r.entries n inside)

  child_by : (x : ℕ) (end : IsEnd r.entries n x) (i : x < length r.entries) → parent_of (ev r.entries x i).task ≡ waited_by w.action.now v.task
      → IsChildEnd r n w.parent x
  child_by x end i e = (
    end,
    λ y g.
        subst (λ t. IsId r w.parent t) (sym (ap (λ (z : Entry). parent_of z.event.task) (the_same y (at Synchronised r.entries x i) (sym g ∙ at_read Synchronised r.entries x i)) ∙ e))
        (wait.parent (at Synchronised r.entries n inside) (at_read Synchronised r.entries n inside)),
  )

  abbrev at_end : (x : ℕ) → IsEnd r.entries n x → x < length r.entries
  at_end x end = omega (arith, end.0, inside)

  abbrev WaitsFor : ℕ → Type 0
  WaitsFor x = IsEnd r.entries n x × (waits_at (order r) r.entries n x ≡ true)

  -- a start
  pub start_waits : w.action.now ≡ Start → (items : List Item) → items ≡ items_of v.task (front r n) → (x : ℕ) → WaitsFor x
      → IsChildEnd r n w.parent x × (some_may_meet r.exclusion items (items_at r.entries x) ≡ true)
  start_waits is items named x (end, h) =
      let i : x < length r.entries = omega (arith, end.0, inside) in
      let acts = sym action_is ∙ is in (
        child_by x end i (start_parent r n inside x end i acts h ∙ sym (ap (λ a. waited_by a v.task) is)),
        (start_asked r.exclusion r.entries r.tasks r.by_task r.legal n x inside end acts items named h).1,
      )

  -- a `taskwait`
  pub wait_waits : (items : List Item) → v.action ≡ Wait items → (x : ℕ) → WaitsFor x
      → IsChildEnd r n w.parent x × ((has_no_items items || some_may_meet r.exclusion items (items_at r.entries x)) ≡ true)
  wait_waits items acts x (end, h) =
      let i : x < length r.entries = omega (arith, end.0, inside) in (
        child_by x end i (wait_parent r n inside x end i items acts h ∙ sym (ap (λ a. waited_by a v.task) (action_is ∙ acts))),
        (wait_asked r.exclusion r.entries r.tasks r.by_task r.legal n x inside end items (λ t m. ap (λ a. wait_kind (front r n) t a m) acts) h).1,
      )

  -- others
  pub none_waits : (w.action.now ≡ Start → ⊥) → ((items : List Item) → w.action.now ≡ Wait items → ⊥) → (w.action.now ≡ Close → ⊥) → (x : ℕ) → WaitsFor x → ⊥
  none_waits f g c x (end, h) =
      let i : x < length r.entries = omega (arith, end.0, inside) in
      both_ways (waits_at (order r) r.entries n x)
      (waits_is (order r) r.entries n x inside i
      ∙ ap (counts_some (order r)) (ap (λ a. wait_kind (front r n) v.task a (ev r.entries x i).task) (sym action_is) ∙ other_waits (front r n) v.task (ev r.entries x i).task w.action.now f g c)
      ∙ none_counts r.exclusion) h
    where
      none_counts : (e : Bool) → counts_some (order_of e) None ≡ false
      none_counts true = refl
      none_counts false = refl

  -- a step after an undeferred child
  pub held_waits : (x : ℕ) (end : IsEnd r.entries n x) → is_start w.action.now ≡ false
      → holds (own v.task (front r n)) (ev r.entries x (at_end x end)).task ≡ true → IsChildEnd r n w.parent x
  held_waits x end other h = child_by x end (at_end x end) (held_parent r n inside x end (at_end x end) h ∙ sym (ap (λ b. cond b (parent_of v.task) v.task) other))

  -- of the ends to which it is linked, it waits for those of others, or was at their task
  pub linked_ways : (x : ℕ) (end : IsEnd r.entries n x) → links_at (order r) r.entries n x ≡ true → (both_at of_one r.entries n x ≡ true) ⊎ ((waits_at (order r) r.entries n x ≡ true) ⊎ (holds (own v.task (front r n)) (ev r.entries x (at_end x end)).task ≡ true))
  linked_ways x end h = link_parts (order r) r.entries n x inside (at_end x end) end.1 h

  pub own_known : (j : Joined) (x : ℕ) → x < n → both_at of_one r.entries n x ≡ true → IsTold r n lanes k j x
  own_known j x l h = told_own (order r) r.entries r.tasks r.by_task n inside lanes wait.past.clocks.are k wait.lane.own (bound_among j.rows.items) x l h

  -- ---- all ends

  only_start : (a : Action) → is_start a ≡ true → a ≡ Start
  only_start Start h = refl
  only_start _ h = absurd (false≢true h)

  all_by : (Q : ℕ → Type 0) → ((x : ℕ) (end : IsEnd r.entries n x) → holds (own v.task (front r n)) (ev r.entries x (at_end x end)).task ≡ true → Q x)
      → (x : ℕ) → x < n → IsEnd r.entries n x → links_at (order r) r.entries n x ≡ true
      → (WaitsFor x ⊎ Q x) ⊎ ((j : Joined) → IsTold r n lanes k j x)
  all_by Q held x l end h = ⊎_elim (λ a. inr (λ j. own_known j x l a)) (λ b. ⊎_elim (λ a. inl (inl (end, a))) (λ a. inl (inr (held x end a))) b) (linked_ways x end h)

  -- where it was at an undeferred child
  pub all_held : (a b c : Joined) → Merges r n lanes rows k WaitsFor a b → Merges r n lanes rows k (IsChildEnd r n w.parent) b c
      → Merges r n lanes rows k (IsEnd r.entries n) a c
  all_held a b c f g =
      merges_own r n lanes rows k (λ x. WaitsFor x ⊎ IsChildEnd r n w.parent x) (IsEnd r.entries n) a c
      (all_by (IsChildEnd r n w.parent) (λ x end h.
      held_waits x end (false_from_ne_true (is_start w.action.now) (λ s. held_goes_on r.exclusion r.entries r.tasks r.by_task r.legal n x inside end (subst (λ (e : Entry). holds (own v.task (front r n)) e.event.task ≡ true) (same_at r.entries x (at_end x end) _) h) (sym action_is ∙ only_start w.action.now s))) h))
      (merges_both r n lanes rows k WaitsFor (IsChildEnd r n w.parent) (λ x. WaitsFor x ⊎ IsChildEnd r n w.parent x) a b c f g (λ x l s h. s))

  -- where it didn't
  pub all_unheld : holds_some (own v.task (front r n)) ≡ false → (a b : Joined) → Merges r n lanes rows k WaitsFor a b
      → Merges r n lanes rows k (IsEnd r.entries n) a b
  all_unheld none a b f =
      merges_own r n lanes rows k WaitsFor (IsEnd r.entries n) a b
      (λ x l end h. ⊎_elim (λ s. ⊎_elim (λ q. inl q) (λ q. absurd q) s) (λ t. inr t)
      (all_by (λ x. ⊥) (λ x end g. both_ways (holds_some (own v.task (front r n))) none (holds_so (own v.task (front r n)) (ev r.entries x (at_end x end)).task g)) x l end h))
      f
