-- The race of a step is the one with the newest step with which it conflicts and that doesn't come before it.
use Rattle.std.proofs.Common.{◌≡◌, ◌<◌, ◌≤◌, ◌≢◌, ℕ, zero, suc, List, Bool, true, false, not, cond, length, take, refl, sym, ap, ap₂, ◌∙◌, subst, arith, Option, Some, None, is_some, slice_get, ◌⊎◌, inl, inr}
use Rattle.std.specs.Option.{option_or, option_map}
use Rattle.std.proofs.lemmas.Bool.{or_left, both_ways, false_from_ne_true, cases_eq}
use Rattle.tb_model.specs.declared.event.Event.{Event}
use Rattle.tb_model.specs.declared.step_id.StepId.{StepId}
use Rattle.tb_model.specs.Facts.{History, is_of}
use Rattle.tb_model.specs.Needs.{step_of}
use Rattle.tb_steps.specs.Entries.{Entry}
use Rattle.tb_steps.specs.Scans.{history_of, step_at}
use Rattle.tb_steps.proofs.FirstLemmas.{some_same, step_read}
use Rattle.tb_races.specs.declared.conflict.Conflict.{Conflict}
use Rattle.tb_races.specs.Kinds.{shared}
use Rattle.tb_races.specs.Orders.{Order, comes_after}
use Rattle.tb_races.specs.Racing.{conflict, contested, newest_race, as_race, is_apart}
use Rattle.tb_lanes.specs.Clocks.{touches, reaches}
use Rattle.tb_lanes.specs.Kept.{IsNewest, shares_at, shares_so}
use Rattle.tb_lanes.specs.Linking.{order_of}
use Rattle.tb_lanes.proofs.AfterLemmas.{at, at_is, at_read, linked_on, reach_tested, reaches_so}
use Rattle.tb_lanes.proofs.FrontLemmas.{one_more}
use Rattle.tb_lanes.proofs.LinkLemmas.{both_is, touch_links_at}
use Rattle.tb_lanes.proofs.SharingLemmas.{conflict_none}

apart_unless : (exclusion : Bool) → is_apart (order_of exclusion) ≡ not exclusion
apart_unless true = refl
apart_unless false = refl

module _ (o : Order) (entries : List Entry) (p : ℕ) (w : p < length entries) where
  abbrev v : Event
  v = (at o entries p w).event

  abbrev ev : (x : ℕ) → x < length entries → Event
  ev x i = (at o entries x i).event

  abbrev H : ℕ → History
  H x = history_of (take x entries)

  abbrev Shared : (x : ℕ) → x < length entries → Option Conflict
  Shared x i = shared v.action (ev x i).action

  shares_is : (x : ℕ) (i : x < length entries) → shares_at entries p x ≡ is_some (Shared x i)
  shares_is x i = ap₂ shares_so (at_read o entries p w) (at_read o entries x i)

  none_of : {A : Type 0} (c : Option A) → (is_some c ≡ true → ⊥) → c ≡ None
  none_of None h = refl
  none_of (Some c) h = absurd (h refl)

  tested : (x : ℕ) (i : x < length entries) → x < p → reaches o entries p x ≡ comes_after o (step_of (H x) (ev x i)) (H p) v
  tested x i l = reach_tested o entries p x l w (at o entries p w) (at o entries x i) (at_read o entries p w) (at_read o entries x i)

  -- what comes before it, or shares nothing with it, doesn't race with it
  none_with : (x : ℕ) (i : x < length entries) → x < p → (shares_at entries p x ≡ true → reaches o entries p x ≡ true) → contested o (H p) v (H x) (ev x i) ≡ None
  none_with x i l h = by (reaches o entries p x) refl
    where
      by : (b : Bool) → reaches o entries p x ≡ b → contested o (H p) v (H x) (ev x i) ≡ None
      by true e = ap (λ b. cond b None (conflict v (ev x i))) (sym (tested x i l) ∙ e)
      by false e =
          ap (λ b. cond b None (conflict v (ev x i))) (sym (tested x i l) ∙ e)
          ∙ conflict_none v (ev x i) (none_of (Shared x i) (λ s. both_ways (reaches o entries p x) e (h (shares_is x i ∙ s))))

  -- with one of another task that shares something it conflicts
  other_task : (x : ℕ) (i : x < length entries) → x < p → reaches o entries p x ≡ false → is_of v.task (ev x i) ≡ false
  other_task x i l h =
      false_from_ne_true (is_of v.task (ev x i)) (λ m.
      both_ways (reaches o entries p x) h
      (reaches_so o entries p x (inr (linked_on o entries p x x l w (touch_links_at o entries p x w i (both_is o entries p x w i touches ∙ or_left (is_of v.task (ev x i)) _ m)) (inl refl)))))

  pub conflicts : (x : ℕ) (i : x < length entries) → x < p → reaches o entries p x ≡ false → conflict v (ev x i) ≡ Shared x i
  conflicts x i l h = ap (λ b. cond b None (Shared x i)) (other_task x i l h)

  module _ (m : ℕ) (is : IsNewest o entries p m) where
    -- none is newer
    none_newer : (n : ℕ) → m ≤ n → n ≤ p → newest_race o (H p) v (H n) ≡ newest_race o (H p) v (H m)
    none_newer zero l k = let e : 0 ≡ m = omega (arith, l) in ap (λ n. newest_race o (H p) v (H n)) e
    none_newer (suc n) l k = by (cases_eq m (suc n)) (λ d. none_newer n (omega (arith, l, d)) (omega (arith, k)))
      where
        by : (m ≡ suc n) ⊎ (m ≢ suc n) → (m ≢ suc n → newest_race o (H p) v (H n) ≡ newest_race o (H p) v (H m)) → newest_race o (H p) v (H (suc n)) ≡ newest_race o (H p) v (H m)
        by (inl e) rest = ap (λ j. newest_race o (H p) v (H j)) (sym e)
        by (inr d) rest =
            let i : n < length entries = omega (arith, k, w) in
            ap (newest_race o (H p) v) (one_more entries n (at o entries n i) i (at_is o entries n i))
            ∙ ap (λ c. option_or (option_map (as_race o (step_of (H n) (ev n i)) (step_of (H p) v)) c) (newest_race o (H p) v (H n)))
            (none_with n i (omega (arith, k)) (λ s. is.newest n (omega (arith, l, d)) (omega (arith, k)) s))
            ∙ rest d

    pub no_race : m ≡ 0 → newest_race o (H p) v (H p) ≡ None
    no_race e = none_newer p is.within (omega arith) ∙ ap (λ n. newest_race o (H p) v (H n)) e

    -- the newest is the one in front of m
    module _ (x : ℕ) (e : m ≡ suc x) (i : x < length entries) where
      low : x < p
      low = omega (arith, e, is.within)

      apart : reaches o entries p x ≡ false
      apart = subst (λ y. reaches o entries p y ≡ false) (omega (arith, e)) (is.unordered (omega (arith, e)))

      pub some_shared : is_some (conflict v (ev x i)) ≡ true
      some_shared = ap is_some (conflicts x i low apart) ∙ sym (shares_is x i) ∙ subst (λ y. shares_at entries p y ≡ true) (omega (arith, e)) (is.shares (omega (arith, e)))

      pub race_is : (c : Conflict) → conflict v (ev x i) ≡ Some c → newest_race o (H p) v (H p) ≡ Some (as_race o (step_of (H x) (ev x i)) (step_of (H p) v) c)
      race_is c h =
          none_newer p is.within (omega arith)
          ∙ ap (λ n. newest_race o (H p) v (H n)) e
          ∙ ap (newest_race o (H p) v) (one_more entries x (at o entries x i) i (at_is o entries x i))
          ∙ ap (λ d. option_or (option_map (as_race o (step_of (H x) (ev x i)) (step_of (H p) v)) d) (newest_race o (H p) v (H x)))
          (ap (λ b. cond b None (conflict v (ev x i))) (sym (tested x i low) ∙ apart) ∙ h)

-- ---- as the code names it

module _ (exclusion : Bool) (entries : List Entry) (p : ℕ) (w : p < length entries) (m : ℕ) (is : IsNewest (order_of exclusion) entries p m) (v : Entry) (v_is : slice_get entries p ≡ Some v) where
  abbrev o : Order
  o = order_of exclusion

  same : at o entries p w ≡ v
  same = some_same _ v (sym (at_read o entries p w) ∙ v_is)

  pub none_named : m ≡ 0 → None ≡ newest_race o (history_of (take p entries)) v.event (history_of (take p entries))
  none_named e = sym (subst (λ (y : Entry). newest_race o (history_of (take p entries)) y.event (history_of (take p entries)) ≡ None) same (no_race o entries p w m is e))

  module _ (x : ℕ) (e : m ≡ suc x) (i : x < length entries) (c : Option Conflict) (c_is : (a b : Entry) → slice_get entries p ≡ Some a → slice_get entries x ≡ Some b → c ≡ conflict a.event b.event) where
    told : c ≡ conflict (at o entries p w).event (at o entries x i).event
    told = c_is (at o entries p w) (at o entries x i) (at_read o entries p w) (at_read o entries x i)

    pub never_none : c ≡ None → ⊥
    never_none n = both_ways (is_some (conflict (at o entries p w).event (at o entries x i).event)) (ap is_some (sym told ∙ n)) (some_shared o entries p w m is x e i)

    pub race_named : (shares : Conflict) → c ≡ Some shares → (a b : StepId) → step_at entries x ≡ Some a → step_at entries p ≡ Some b
        → Some (record { earlier = a; later = b; conflict = shares; apart = not exclusion }) ≡ newest_race o (history_of (take p entries)) v.event (history_of (take p entries))
    race_named shares s a b a_is b_is =
        let first = some_same _ _ (sym (step_read entries x (at o entries x i) i (at_is o entries x i)) ∙ a_is) in
        let last = some_same _ _ (sym (step_read entries p (at o entries p w) w (at_is o entries p w)) ∙ b_is) in
        sym
        (sym (ap (λ (y : Entry). newest_race o (history_of (take p entries)) y.event (history_of (take p entries))) same)
        ∙ race_is o entries p w m is x e i shares (sym told ∙ s)
        ∙ ap₂ (λ f g. Some (as_race o f g shares)) first last
        ∙ ap (λ t. Some (record { earlier = a; later = b; conflict = shares; apart = t })) (apart_unless exclusion))
