-- Where all keys that a step asks for are asked for by others.
use Rattle.std.proofs.Common.{◌≡◌, ⊎_elim, ℕ, List, [], ◌∷◌, Bool, true, false, ◌&&◌, ◌||◌, Option, Some, None, refl, sym, ap, ap₂, subst, ◌∙◌}
use Rattle.std.specs.List.{list_any}
use Rattle.std.proofs.lemmas.Bool.{or_cases, or_left, or_right, and_parts, and_from, false≢true, eqb-true}
use Rattle.tb_model.specs.declared.action.Action.{Action}
use Rattle.tb_model.specs.declared.action.Action.TheVariants.{Start, Let, Load, Store, Print, Spawn, Wait, Open, Close, Test, End, Fault}
use Rattle.tb_model.specs.declared.event.Event.{Event}
use Rattle.tb_model.specs.declared.item.Item.{Item as AnItem}
use Rattle.tb_model.specs.Items.{has_no_items}
use Rattle.tb_model.specs.Names.{Name, same_name, is_child}
use Rattle.tb_model.specs.Facts.{History, own, is_end, is_print, is_spawn_of, is_store_to, touches}
use Rattle.tb_model.proofs.TestLemmas.{same_true}
use Rattle.tb_cause.specs.Asked.{action_gives, gives_any, over_gives, parent_gives, items_give, some_above}
use Rattle.tb_cause.specs.Keys.{Key, Task, Ended, Parent, Within, Stored, Touched, Printed, gives, held_by, held_any, action_any, wait_any, items_any, item_any, takes_any}
use Rattle.tb_cause.specs.Nearest.{action_answered, answered, held_answered}

no_and : (a : Bool) → (a && false) ≡ true → ⊥
no_and true h = false≢true h
no_and false h = false≢true h

only_or : (a : Bool) → (a || false) ≡ true → a ≡ true
only_or true h = refl
only_or false h = h

module _ (w : Key → Bool) where
  -- ---- what an action gives

  spawn_gives : (t : Name) (a : Action) → w (Task t) ≡ true → is_spawn_of t a ≡ true → action_gives w a ≡ true
  spawn_gives t (Spawn spawn) k h = subst (λ s. w (Task s) ≡ true) (sym (same_true spawn.child t h)) k
  spawn_gives t _ k h = absurd (false≢true h)

  store_gives : (c : ℕ) (a : Action) → (w (Stored c) || w (Touched c)) ≡ true → is_store_to c a ≡ true → action_gives w a ≡ true
  store_gives c (Store d x) k h = subst (λ e. (w (Stored e) || w (Touched e)) ≡ true) (eqb-true c d h) k
  store_gives c _ k h = absurd (false≢true h)

  touch_gives : (c : ℕ) (a : Action) → w (Touched c) ≡ true → touches c a ≡ true → action_gives w a ≡ true
  touch_gives c (Load r d x) k h = subst (λ e. w (Touched e) ≡ true) (eqb-true c d h) k
  touch_gives c (Store d x) k h = or_right (w (Stored d)) (w (Touched d)) (subst (λ e. w (Touched e) ≡ true) (eqb-true c d h) k)
  touch_gives c _ k h = absurd (false≢true h)

  print_gives : (a : Action) → w Printed ≡ true → is_print a ≡ true → action_gives w a ≡ true
  print_gives (Print x) k h = k
  print_gives _ k h = absurd (false≢true h)

  parent_given : (t v : Name) → w (Parent t) ≡ true → is_child t v ≡ true → parent_gives w v ≡ true
  parent_given t [] k h = absurd (false≢true h)
  parent_given t (n ∷ p) k h = subst (λ s. w (Parent s) ≡ true) (sym (same_true p t h)) k

  -- ---- an event that gives one of these keys

  module _ (I : Name → List AnItem) (u : Event) where
    abbrev given : Bool
    given = gives_any w I u

    abbrev by_end : Bool
    by_end = is_end u.action && (over_gives w u.task || items_give w u.task (I u.task))

    by_action : action_gives w u.action ≡ true → given ≡ true
    by_action h = or_right (w (Task u.task)) (action_gives w u.action || by_end) (or_left (action_gives w u.action) by_end h)

    task_given : (t : Name) → w (Task t) ≡ true → gives I u (Task t) ≡ true → given ≡ true
    task_given t k h =
        ⊎_elim (λ a. or_left (w (Task u.task)) (action_gives w u.action || by_end) (subst (λ s. w (Task s) ≡ true) (sym (same_true u.task t a)) k))
        (λ b. ⊎_elim (λ a. by_action (spawn_gives t u.action k a)) (λ a. absurd (no_and (is_end u.action) a)) (or_cases (is_spawn_of t u.action) (is_end u.action && false) b))
        (or_cases (same_name u.task t) (is_spawn_of t u.action || (is_end u.action && false)) h)

    stored_given : (c : ℕ) → (w (Stored c) || w (Touched c)) ≡ true → gives I u (Stored c) ≡ true → given ≡ true
    stored_given c k h = ⊎_elim (λ a. by_action (store_gives c u.action k a)) (λ a. absurd (no_and (is_end u.action) a)) (or_cases (is_store_to c u.action) (is_end u.action && false) h)

    touched_given : (c : ℕ) → w (Touched c) ≡ true → gives I u (Touched c) ≡ true → given ≡ true
    touched_given c k h = ⊎_elim (λ a. by_action (touch_gives c u.action k a)) (λ a. absurd (no_and (is_end u.action) a)) (or_cases (touches c u.action) (is_end u.action && false) h)

    printed_given : w Printed ≡ true → gives I u Printed ≡ true → given ≡ true
    printed_given k h = ⊎_elim (λ a. by_action (print_gives u.action k a)) (λ a. absurd (no_and (is_end u.action) a)) (or_cases (is_print u.action) (is_end u.action && false) h)

    parent_is_given : (t : Name) → w (Parent t) ≡ true → gives I u (Parent t) ≡ true → given ≡ true
    parent_is_given t k h =
        let o = and_parts (is_end u.action) (is_child t u.task || false) h in
        or_right (w (Task u.task)) (action_gives w u.action || by_end)
        (or_right (action_gives w u.action) by_end
        (and_from (is_end u.action) (over_gives w u.task || items_give w u.task (I u.task)) o.0
        (or_left (over_gives w u.task) (items_give w u.task (I u.task))
        (or_right (w (Ended u.task)) (parent_gives w u.task || some_above (λ s. w (Within s)) u.task)
        (or_left (parent_gives w u.task) (some_above (λ s. w (Within s)) u.task) (parent_given t u.task k (only_or (is_child t u.task) o.1)))))))

    -- ---- what a step takes

    abbrev f : Key → Bool
    f = gives I u

    abbrev takes : History → Name → Action → Bool
    takes H t a = action_any f a || (wait_any f H t a || items_any f I t a)

    abbrev plain : Action → Bool
    plain Start = false
    plain (Wait items) = false
    plain Close = false
    plain _ = true

    no_wait : (H : History) (t : Name) (a : Action) → plain a ≡ true → wait_any f H t a ≡ false
    no_wait H t (Wait items) p = absurd (false≢true p)
    no_wait H t Close p = absurd (false≢true p)
    no_wait H t _ p = refl

    no_items : (t : Name) (a : Action) → plain a ≡ true → items_any f I t a ≡ false
    no_items [] Start p = refl
    no_items (n ∷ s) Start p = absurd (false≢true p)
    no_items t (Wait items) p = absurd (false≢true p)
    no_items t _ p = refl

    plainly : (H : History) (t : Name) (a : Action) → plain a ≡ true → takes H t a ≡ true → action_any f a ≡ true
    plainly H t a p h = only_or (action_any f a) (sym (ap₂ (λ b c. action_any f a || (b || c)) (no_wait H t a p) (no_items t a p)) ∙ h)

    waits_so : (t : Name) (items : List AnItem) → items_any f I t (Wait items) ≡ list_any (item_any f t false) items
    waits_so [] items = refl
    waits_so (n ∷ s) items = refl

    wait_given : (H : History) (t : Name) (items : List AnItem) → (has_no_items items && w (Parent t)) ≡ true → ((has_no_items items && f (Parent t)) || list_any (item_any f t false) items) ≡ true → given ≡ true
    wait_given H t [] k h = parent_is_given t k (only_or (f (Parent t)) h)
    wait_given H t (i ∷ items) k h = absurd (false≢true k)

    action_given : (H : History) (t : Name) (a : Action) → action_answered w t a ≡ true → takes H t a ≡ true → given ≡ true
    action_given H t Start k h = absurd (false≢true k)
    action_given H t Close k h = absurd (false≢true k)
    action_given H t (Load r c x) k h = stored_given c k (plainly H t (Load r c x) refl h)
    action_given H t (Store c x) k h = touched_given c k (plainly H t (Store c x) refl h)
    action_given H t (Print x) k h = printed_given k (plainly H t (Print x) refl h)
    action_given H t (Wait items) k h = wait_given H t items k (sym (ap (λ b. (has_no_items items && f (Parent t)) || b) (waits_so t items)) ∙ h)
    action_given H t (Let r x) k h = absurd (false≢true (plainly H t (Let r x) refl h))
    action_given H t (Spawn s) k h = absurd (false≢true (plainly H t (Spawn s) refl h))
    action_given H t Open k h = absurd (false≢true (plainly H t Open refl h))
    action_given H t (Test y) k h = absurd (false≢true (plainly H t (Test y) refl h))
    action_given H t End k h = absurd (false≢true (plainly H t End refl h))
    action_given H t Fault k h = absurd (false≢true (plainly H t Fault refl h))

    end_given : (c : Name) → w (Task c) ≡ true → f (Ended c) ≡ true → given ≡ true
    end_given c k h =
        let o = and_parts (is_end u.action) (same_name u.task c || false) h in
        or_left (w (Task u.task)) (action_gives w u.action || by_end) (subst (λ s. w (Task s) ≡ true) (sym (same_true u.task c (only_or (same_name u.task c) o.1))) k)

    held_given : (o : Option Name) → held_answered w o ≡ true → held_any f o ≡ true → given ≡ true
    held_given None n h = absurd (false≢true h)
    held_given (Some c) n h = end_given c n h

    pub answered_given : (H : History) (v : Event) → answered w (held_by (own v.task H)) v ≡ true → takes_any f I H v ≡ true → given ≡ true
    answered_given H v k h =
        let o = held_by (own v.task H) in
        let a = and_parts (held_answered w o) (w (Task v.task) && action_answered w v.task v.action) k in
        let b = and_parts (w (Task v.task)) (action_answered w v.task v.action) a.1 in
        ⊎_elim (λ t. task_given v.task b.0 t)
        (λ r. ⊎_elim (λ e. held_given o a.0 e) (λ e. action_given H v.task v.action b.1 e) (or_cases (held_any f o) (takes H v.task v.action) r))
        (or_cases (f (Task v.task)) (held_any f o || takes H v.task v.action) h)
