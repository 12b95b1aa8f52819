-- Which tasks a step lets go on: none, but for an end, and an end only its task's parent and siblings, where the parent hasn't
-- ended.
use Rattle.std.proofs.Common.{◌≡◌, ◌⊎◌, inl, inr, ⊎_elim, ℕ, suc, List, [], ◌∷◌, Bool, true, false, not, cond, ◌&&◌, ◌||◌, refl, sym, ap, ap₂, ◌∙◌, subst, Option, Some, None, option_map, nat_lt}
use Rattle.std.specs.Prelude.{is_none, is_some}
use Rattle.std.specs.List.{list_any}
use Rattle.std.specs.Option.{option_or}
use Rattle.std.specs.declared.cmp.Ordering.TheVariants.{Greater}
use Rattle.std.proofs.lemmas.Bool.{false≢true, both_ways, and_parts, and_from, or_parts, or_cases, or_left, or_right, false_from_ne_true}
use Rattle.tb_model.specs.declared.item.Item.{Item}
use Rattle.tb_model.specs.declared.action.Action.{Action}
use Rattle.tb_model.specs.declared.action.Action.TheVariants.{Start, Let, Load, Store, Print, Spawn, Wait, Open, Close, Test, End, Fault}
use Rattle.tb_model.specs.declared.event.Event.{Event}
use Rattle.tb_model.specs.Names.{Name, same_name, name_cmp, is_child, is_elder}
use Rattle.tb_model.specs.Items.{some_meet, is_before, is_apart, has_no_items}
use Rattle.tb_model.specs.Facts.{History, is_of, is_end, own, starts, ends, spawns, is_spawned, items_of, before, apart, covers, is_member, holds, IsSpawned}
use Rattle.tb_model.specs.State.{is_unended, is_unended_covered, is_unended_member, is_unended_undeferred}
use Rattle.tb_model.specs.LeastNames.{IsAtMost}
use Rattle.tb_model.specs.Legal.{Cells, Legal, spawn_count}
use Rattle.tb_model.specs.Program.{Program, LegalFor, planned, action_of, instr_at, situation, zero_ℤ}
use Rattle.tb_model.specs.Program as program
use Rattle.tb_model.specs.Hindrances.{Hindrance, NoSuchTask, Ended, By, Undeferred, Waiting, Excluded, Children, Group, spawned_names, least_where, lesser_name, least_as, is_waited_for, is_excluding, untimely, in_the_way, can_step}
use Rattle.tb_model.proofs.TestLemmas.{same_true, same_refl, any_weaker}
use Rattle.tb_model.proofs.LeastNameLemmas.{least_found, in_spawned, at_most_itself, at_most_trans}
use Rattle.tb_model.proofs.OrderLemmas.{at_most_below}
use Rattle.tb_model.proofs.FactsLemmas.{own_other, spawn_names, grown, held_child, member_up, not_again, items_stay}
use Rattle.tb_model.proofs.LinesLemmas.{situation_other}
use Rattle.tb_model.proofs.NeedsLemmas.{may_spawned}
use Rattle.tb_next.specs.Floor.{IsFloor}

-- ---- something is in the way exactly where some task passes a test

found_any : (p : Name → Bool) (ts : List Name) → is_some (least_where p ts) ≡ list_any p ts
found_any p [] = refl
found_any p (t ∷ ts) = at (found_any p ts) (p t)
  where
    at : is_some (least_where p ts) ≡ list_any p ts → (b : Bool) → is_some (cond b (Some (lesser_name t (least_where p ts))) (least_where p ts)) ≡ (b || list_any p ts)
    at rest true = refl
    at rest false = rest

mapped_some : {A B : Type 0} (f : A → B) (o : Option A) → is_some (option_map f o) ≡ is_some o
mapped_some f None = refl
mapped_some f (Some x) = refl

least_any : (kind : Name → Hindrance) (p : Name → Bool) (H : History) → is_some (least_as kind p H) ≡ list_any p (spawned_names H)
least_any kind p H = mapped_some kind (least_where p (spawned_names H)) ∙ found_any p (spawned_names H)

either_some : {A : Type 0} (o q : Option A) → is_some (option_or o q) ≡ (is_some o || is_some q)
either_some None q = refl
either_some (Some x) q = refl

-- where some task passes the one test, some passes the other
any_moved : (p q : Name → Bool) (xs ys : List Name) → ((w : Name) → list_any (same_name w) xs ≡ true → p w ≡ true → list_any q ys ≡ true) → list_any p xs ≡ true → list_any q ys ≡ true
any_moved p q [] ys f h = absurd (false≢true h)
any_moved p q (x ∷ xs) ys f h =
    ⊎_elim (λ a. f x (or_left (same_name x x) (list_any (same_name x) xs) (same_refl x)) a)
    (λ b. any_moved p q xs ys (λ w i k. f w (or_right (same_name w x) (list_any (same_name w) xs) i) k) b) (or_cases (p x) (list_any p xs) h)

any_at : (q : Name → Bool) (w : Name) (ys : List Name) → list_any (same_name w) ys ≡ true → q w ≡ true → list_any q ys ≡ true
any_at q w ys i k = any_weaker (same_name w) q (λ x s. subst (λ y. q y ≡ true) (same_true w x s) k) ys i

named : (H : History) (t : Name) → IsSpawned H t → list_any (same_name t) (spawned_names H) ≡ true
named H t s =
    let l = (least_found H (same_name t) (λ u e. subst (IsSpawned H) (same_true t u e) s)).least t (same_refl t) in
    sym (found_any (same_name t) (spawned_names H)) ∙ ap is_some l.1

-- whether the one or the other
either : (a b c d : Bool) → (a ≡ true → c ≡ true) → (b ≡ true → d ≡ true) → (a || b) ≡ true → (c || d) ≡ true
either a b c d f g h = ⊎_elim (λ x. or_left c d (f x)) (λ y. or_right c d (g y)) (or_cases a b h)

none_if : {A : Type 0} (o : Option A) → is_some o ≡ false → o ≡ None
none_if None h = refl
none_if (Some x) h = absurd (false≢true (sym h))

-- ---- who can step

pub goes_on : (b c : Bool) (o : Option Hindrance) → is_none (cond (not b) (Some NoSuchTask) (cond c (Some Ended) (option_map By o))) ≡ true → (b ≡ true) × (c ≡ false) × (is_some o ≡ false)
goes_on true false None h = (refl, refl, refl)
goes_on true false (Some x) h = absurd (false≢true h)
goes_on true true o h = absurd (false≢true h)
goes_on false c o h = absurd (false≢true h)

goes_so : (b c : Bool) (o : Option Hindrance) → b ≡ true → c ≡ false → is_some o ≡ false → is_none (cond (not b) (Some NoSuchTask) (cond c (Some Ended) (option_map By o))) ≡ true
goes_so true false None p q r = refl
goes_so true false (Some x) p q r = absurd (false≢true (sym r))
goes_so true true o p q r = absurd (false≢true (sym q))
goes_so false c o p q r = absurd (false≢true p)

-- ---- what is in the way of another task stays

module _ (P : Program) (v : Event) (H : History) (l : LegalFor P (v ∷ H)) (u : Name) (other : is_of u v ≡ false) (spawned : IsSpawned H u)
    (no_child : is_end v.action ≡ true → is_child u v.task ≡ true → ⊥) (no_elder : is_end v.action ≡ true → is_elder v.task u ≡ true → ⊥) (no_younger : is_end v.action ≡ true → is_elder u v.task ≡ true → ⊥)
    (member : is_end v.action ≡ true → is_member (own u H) v.task ≡ true → (m : Name) × ((is_member (own u H) m ≡ true) × (is_unended (v ∷ H) m ≡ true))) where
  abbrev K : History
  K = v ∷ H

  cells : Cells
  cells = P.cells

  later : (w : Name) → list_any (same_name w) (spawned_names H) ≡ true → list_any (same_name w) (spawned_names K) ≡ true
  later w i = named K w (grown w v H (in_spawned H w i))

  -- who hasn't ended still hasn't, but for the event's task
  going : (w : Name) → not (list_any (ends w) H) ≡ true → (not (list_any (ends w) K) ≡ true) ⊎ ((is_end v.action ≡ true) × (v.task ≡ w))
  going w h = at (ends w v) refl
    where
      at : (b : Bool) → ends w v ≡ b → (not (b || list_any (ends w) H) ≡ true) ⊎ ((is_end v.action ≡ true) × (v.task ≡ w))
      at false e = inl h
      at true e = let o = and_parts (is_of w v) (is_end v.action) e in inr (o.1, same_true v.task w o.0)

  same_own : own u K ≡ own u H
  same_own = own_other u v H other

  same_items : (w : Name) → IsSpawned H w → items_of w K ≡ items_of w H
  same_items w s = items_stay P.cells H l.0.0 v l.0.1 w (not_again P.cells H l.0.0 v l.0.1 w s)

  same_before : (w : Name) → IsSpawned H w → before K w u ≡ before H w u
  same_before w s = ap₂ (λ xs ys. is_elder w u && some_meet is_before xs ys) (same_items u spawned) (same_items w s)

  same_apart : (w : Name) → IsSpawned H w → apart K w u ≡ apart H w u
  same_apart w s =
      ap₂ (λ xs ys. (is_elder w u && some_meet is_apart xs ys) || (is_elder u w && some_meet is_apart ys xs)) (same_items u spawned) (same_items w s)

  same_covers : (items : List Item) (w : Name) → IsSpawned H w → covers K u items w ≡ covers H u items w
  same_covers items w s = ap (λ ys. is_child u w && (has_no_items items || some_meet is_before items ys)) (same_items w s)

  held_still : list_any (is_unended_undeferred H u) (spawned_names H) ≡ true → list_any (is_unended_undeferred K u) (spawned_names K) ≡ true
  held_still h = any_moved (is_unended_undeferred H u) (is_unended_undeferred K u) (spawned_names H) (spawned_names K) at h
    where
      at : (w : Name) → list_any (same_name w) (spawned_names H) ≡ true → is_unended_undeferred H u w ≡ true → list_any (is_unended_undeferred K u) (spawned_names K) ≡ true
      at w i k =
          let o = and_parts (holds (own u H) w) (not (list_any (ends w) H)) k in
          ⊎_elim
          (λ g. any_at (is_unended_undeferred K u) w (spawned_names K) (later w i) (and_from (holds (own u K) w) (not (list_any (ends w) K)) (ap (λ acts. holds acts w) same_own ∙ o.0) g))
          (λ g. absurd (no_child g.0 (ap (is_child u) g.1 ∙ (held_child P.cells H u w l.0.0 o.0).0))) (going w o.1)

  waits_still : list_any (is_waited_for H u) (spawned_names H) ≡ true → list_any (is_waited_for K u) (spawned_names K) ≡ true
  waits_still h = any_moved (is_waited_for H u) (is_waited_for K u) (spawned_names H) (spawned_names K) at h
    where
      at : (w : Name) → list_any (same_name w) (spawned_names H) ≡ true → is_waited_for H u w ≡ true → list_any (is_waited_for K u) (spawned_names K) ≡ true
      at w i k =
          let o = and_parts (before H w u) (not (list_any (ends w) H)) k in
          ⊎_elim
          (λ g. any_at (is_waited_for K u) w (spawned_names K) (later w i) (and_from (before K w u) (not (list_any (ends w) K)) (same_before w (in_spawned H w i) ∙ o.0) g))
          (λ g. absurd (no_elder g.0 (ap (λ x. is_elder x u) g.1 ∙ (and_parts (is_elder w u) (some_meet is_before (items_of u H) (items_of w H)) o.0).0))) (going w o.1)

  excludes_still : list_any (is_excluding H u) (spawned_names H) ≡ true → list_any (is_excluding K u) (spawned_names K) ≡ true
  excludes_still h = any_moved (is_excluding H u) (is_excluding K u) (spawned_names H) (spawned_names K) at h
    where
      at : (w : Name) → list_any (same_name w) (spawned_names H) ≡ true → is_excluding H u w ≡ true → list_any (is_excluding K u) (spawned_names K) ≡ true
      at w i k =
          let o = and_parts (apart H w u) (list_any (starts w) H && not (list_any (ends w) H)) k in
          let q = and_parts (list_any (starts w) H) (not (list_any (ends w) H)) o.1 in
          ⊎_elim
          (λ g.
          any_at (is_excluding K u) w (spawned_names K) (later w i)
          (and_from (apart K w u) (list_any (starts w) K && not (list_any (ends w) K)) (same_apart w (in_spawned H w i) ∙ o.0)
          (and_from (list_any (starts w) K) (not (list_any (ends w) K)) (or_right (starts w v) (list_any (starts w) H) q.0) g)))
          (λ g.
          absurd
          (⊎_elim (λ a. no_elder g.0 (ap (λ x. is_elder x u) g.1 ∙ (and_parts (is_elder w u) (some_meet is_apart (items_of u H) (items_of w H)) a).0))
          (λ b. no_younger g.0 (ap (is_elder u) g.1 ∙ (and_parts (is_elder u w) (some_meet is_apart (items_of w H) (items_of u H)) b).0))
          (or_cases (is_elder w u && some_meet is_apart (items_of u H) (items_of w H)) (is_elder u w && some_meet is_apart (items_of w H) (items_of u H)) o.0)))
          (going w q.1)

  unended_still : (w : Name) → IsSpawned H w → not (list_any (ends w) K) ≡ true → is_unended K w ≡ true
  unended_still w s g = and_from (is_spawned K w) (not (list_any (ends w) K)) (grown w v H s) g

  covers_still : (items : List Item) → list_any (is_unended_covered H u items) (spawned_names H) ≡ true → list_any (is_unended_covered K u items) (spawned_names K) ≡ true
  covers_still items h = any_moved (is_unended_covered H u items) (is_unended_covered K u items) (spawned_names H) (spawned_names K) at h
    where
      at : (w : Name) → list_any (same_name w) (spawned_names H) ≡ true → is_unended_covered H u items w ≡ true → list_any (is_unended_covered K u items) (spawned_names K) ≡ true
      at w i k =
          let o = and_parts (covers H u items w) (is_unended H w) k in
          let s = in_spawned H w i in
          ⊎_elim
          (λ g.
          any_at (is_unended_covered K u items) w (spawned_names K) (later w i)
          (and_from (covers K u items w) (is_unended K w) (same_covers items w s ∙ o.0) (unended_still w s g)))
          (λ g. absurd (no_child g.0 (ap (is_child u) g.1 ∙ (and_parts (is_child u w) (has_no_items items || some_meet is_before items (items_of w H)) o.0).0)))
          (going w (and_parts (is_spawned H w) (not (list_any (ends w) H)) o.1).1)

  members_still : list_any (is_unended_member H u) (spawned_names H) ≡ true → list_any (is_unended_member K u) (spawned_names K) ≡ true
  members_still h = any_moved (is_unended_member H u) (is_unended_member K u) (spawned_names H) (spawned_names K) at h
    where
      mine : (m : Name) → is_member (own u H) m ≡ true → is_unended K m ≡ true → is_unended_member K u m ≡ true
      mine m a b = and_from (is_member (own u K) m) (is_unended K m) (ap (λ acts. is_member acts m) same_own ∙ a) b

      at : (w : Name) → list_any (same_name w) (spawned_names H) ≡ true → is_unended_member H u w ≡ true → list_any (is_unended_member K u) (spawned_names K) ≡ true
      at w i k =
          let o = and_parts (is_member (own u H) w) (is_unended H w) k in
          ⊎_elim (λ g. any_at (is_unended_member K u) w (spawned_names K) (later w i) (mine w o.0 (unended_still w (in_spawned H w i) g)))
          (λ g.
          let m = member g.0 (ap (is_member (own u H)) g.1 ∙ o.0) in
          any_at (is_unended_member K u) m.0 (spawned_names K) (named K m.0 (and_parts (is_spawned K m.0) (not (list_any (ends m.0) K)) m.1.1).0) (mine m.0 m.1.0 m.1.1))
          (going w (and_parts (is_spawned H w) (not (list_any (ends w) H)) o.1).1)

  moved_any : (kind : Name → Hindrance) (p q : Name → Bool) → (list_any p (spawned_names H) ≡ true → list_any q (spawned_names K) ≡ true) → is_some (least_as kind p H) ≡ true → is_some (least_as kind q K) ≡ true
  moved_any kind p q f h = least_any kind q K ∙ f (sym (least_any kind p H) ∙ h)

  untimely_still : (a : Action) → is_some (untimely H u a) ≡ true → is_some (untimely K u a) ≡ true
  untimely_still Start h =
      either_some (least_as Waiting (is_waited_for K u) K) (least_as Excluded (is_excluding K u) K)
      ∙ either (is_some (least_as Waiting (is_waited_for H u) H)) (is_some (least_as Excluded (is_excluding H u) H)) (is_some (least_as Waiting (is_waited_for K u) K)) (is_some (least_as Excluded (is_excluding K u) K))
      (moved_any Waiting (is_waited_for H u) (is_waited_for K u) waits_still) (moved_any Excluded (is_excluding H u) (is_excluding K u) excludes_still)
      (sym (either_some (least_as Waiting (is_waited_for H u) H) (least_as Excluded (is_excluding H u) H)) ∙ h)
  untimely_still (Wait items) h = moved_any Children (is_unended_covered H u items) (is_unended_covered K u items) (covers_still items) h
  untimely_still Close h = moved_any Group (is_unended_member H u) (is_unended_member K u) members_still h
  untimely_still (Let r x) h = absurd (false≢true h)
  untimely_still (Load r c x) h = absurd (false≢true h)
  untimely_still (Store c x) h = absurd (false≢true h)
  untimely_still (Print x) h = absurd (false≢true h)
  untimely_still (Spawn s) h = absurd (false≢true h)
  untimely_still Open h = absurd (false≢true h)
  untimely_still (Test b) h = absurd (false≢true h)
  untimely_still End h = absurd (false≢true h)
  untimely_still Fault h = absurd (false≢true h)

  kept_still : (a : Action) → is_some (in_the_way H u a) ≡ true → is_some (in_the_way K u a) ≡ true
  kept_still a h =
      either_some (least_as Undeferred (is_unended_undeferred K u) K) (untimely K u a)
      ∙ either (is_some (least_as Undeferred (is_unended_undeferred H u) H)) (is_some (untimely H u a)) (is_some (least_as Undeferred (is_unended_undeferred K u) K)) (is_some (untimely K u a))
      (moved_any Undeferred (is_unended_undeferred H u) (is_unended_undeferred K u) held_still) (untimely_still a)
      (sym (either_some (least_as Undeferred (is_unended_undeferred H u) H) (untimely H u a)) ∙ h)

  same_plan : planned P K u zero_ℤ ≡ planned P H u zero_ℤ
  same_plan =
      ap₂ (λ (c : program.Config) (acts : List Action). action_of P.cells u (suc (spawn_count acts)) c.regs zero_ℤ (instr_at P c.line).statement)
      (situation_other P u v H other (not_again P.cells H l.0.0 v l.0.1 u spawned)) same_own

  -- so a task that can step after the event could step in front of it
  could : can_step P K u ≡ true → can_step P H u ≡ true
  could h =
      let g = goes_on (is_spawned K u) (list_any (ends u) K) (in_the_way K u (planned P K u zero_ℤ)) h in
      let free : is_some (in_the_way H u (planned P H u zero_ℤ)) ≡ false =
      false_from_ne_true (is_some (in_the_way H u (planned P H u zero_ℤ))) (λ k.
      both_ways (is_some (in_the_way K u (planned P K u zero_ℤ))) g.2 (ap (λ a. is_some (in_the_way K u a)) same_plan ∙ kept_still (planned P H u zero_ℤ) k))
      in
      goes_so (is_spawned H u) (list_any (ends u) H) (in_the_way H u (planned P H u zero_ℤ)) spawned (or_parts (ends u v) (list_any (ends u) H) g.1).1 free

-- ---- the search start after an event

-- a task in front of the event's was generated in front of it
elder_spawned : (P : Program) (v : Event) (H : History) → LegalFor P (v ∷ H) → (u : Name) → (IsAtMost v.task u → ⊥) → IsSpawned (v ∷ H) u → IsSpawned H u
elder_spawned P v H l [] before s = refl
elder_spawned P v H l (n ∷ u) before s =
    ⊎_elim
    (λ e.
    absurd (before (subst (IsAtMost v.task) (sym (spawn_names P.cells v.task (n ∷ u) (own v.task H) v.action l.0.1.own e))
    (at_most_below v.task (suc (spawn_count (own v.task H)) ∷ [])))))
    (λ e. e) (or_cases (spawns (n ∷ u) v) (list_any (spawns (n ∷ u)) H) s)

other_task : (v : Event) (u : Name) → (IsAtMost v.task u → ⊥) → is_of u v ≡ false
other_task v u before = false_from_ne_true (is_of u v) (λ e. before (subst (IsAtMost v.task) (same_true v.task u e) (at_most_itself v.task)))

-- a task in front of another isn't after it
in_front : (f u t : Name) → name_cmp f u ≡ Greater → IsAtMost f t → IsAtMost t u → ⊥
in_front f u t g a b = at_most_trans f t u a b g

-- a step that is no end lets no other task go on
pub floor_stays : (P : Program) (v : Event) (H : History) (f : Name) → LegalFor P (v ∷ H) → is_end v.action ≡ false → IsAtMost f v.task → IsFloor P H (Some f) → IsFloor P (v ∷ H) (Some f)
floor_stays P v H f l no_end behind floor u can g =
    let before = in_front f u v.task g behind in
    let there = elder_spawned P v H l u before (goes_on (is_spawned (v ∷ H) u) (list_any (ends u) (v ∷ H)) (in_the_way (v ∷ H) u (planned P (v ∷ H) u zero_ℤ)) can).0 in
    let never : is_end v.action ≡ true → ⊥ = both_ways (is_end v.action) no_end in
    floor u (could P v H l u (other_task v u before) there (λ e c. never e) (λ e c. never e) (λ e c. never e) (λ e c. absurd (never e)) can) g

-- the parent of a task that was generated was generated
parent_spawned : (P : Program) (H : History) (n : ℕ) (p : Name) → Legal P.cells H → IsSpawned H (n ∷ p) → IsSpawned H p
parent_spawned P [] n p l s = absurd (false≢true s)
parent_spawned P (v ∷ H) n p l s =
    ⊎_elim
    (λ e.
    let same = spawn_names P.cells v.task (n ∷ p) (own v.task H) v.action l.1.own e in
    let task : v.task ≡ p = cc in
    grown p v H (subst (IsSpawned H) task (may_spawned P.cells H v l.0 l.1)))
    (λ e. grown p v H (parent_spawned P H n p l.0 e)) (or_cases (spawns (n ∷ p) v) (list_any (spawns (n ∷ p)) H) s)

child_of : (u p : Name) (n : ℕ) → is_child u (n ∷ p) ≡ true → p ≡ u
child_of u p n h = same_true p u h

-- siblings come after their parent
elder_after : (p u : Name) (n : ℕ) → is_elder (n ∷ p) u ≡ true → IsAtMost p u
elder_after p [] n h = absurd (false≢true h)
elder_after p (m ∷ u) n h =
    subst (λ q. IsAtMost p (m ∷ q)) (same_true p u (and_parts (nat_lt n m) (same_name p u) h).1) (at_most_below p (m ∷ []))

younger_after : (p u : Name) (n : ℕ) → is_elder u (n ∷ p) ≡ true → IsAtMost p u
younger_after p [] n h = absurd (false≢true h)
younger_after p (m ∷ u) n h =
    subst (λ q. IsAtMost p (m ∷ q)) (sym (same_true u p (and_parts (nat_lt m n) (same_name u p) h).1)) (at_most_below p (m ∷ []))

-- an end lets go on its task's parent and siblings alone, where the parent hasn't ended
pub floor_lowered : (P : Program) (v : Event) (H : History) (f g : Name) (n : ℕ) (p : Name) → LegalFor P (v ∷ H) → v.task ≡ n ∷ p → list_any (ends p) (v ∷ H) ≡ false
    → IsAtMost g f → IsAtMost g p → IsFloor P H (Some f) → IsFloor P (v ∷ H) (Some g)
floor_lowered P v H f g n p l task unended lower below floor u can k =
    at_most_trans g f u lower (floor u (could P v H l u (other_task v u before) there no_child no_elder no_younger member can)) k
  where
    after_parent : IsAtMost p u → ⊥
    after_parent a = in_front g u p k below a

    behind : IsAtMost g v.task
    behind = at_most_trans g p v.task below (subst (IsAtMost p) (sym task) (at_most_below p (n ∷ [])))

    before : IsAtMost v.task u → ⊥
    before = in_front g u v.task k behind

    there : IsSpawned H u
    there = elder_spawned P v H l u before (goes_on (is_spawned (v ∷ H) u) (list_any (ends u) (v ∷ H)) (in_the_way (v ∷ H) u (planned P (v ∷ H) u zero_ℤ)) can).0

    no_child : is_end v.action ≡ true → is_child u v.task ≡ true → ⊥
    no_child e c = after_parent (subst (IsAtMost p) (child_of u p n (subst (λ t. is_child u t ≡ true) task c)) (at_most_itself p))

    no_elder : is_end v.action ≡ true → is_elder v.task u ≡ true → ⊥
    no_elder e c = after_parent (elder_after p u n (subst (λ t. is_elder t u ≡ true) task c))

    no_younger : is_end v.action ≡ true → is_elder u v.task ≡ true → ⊥
    no_younger e c = after_parent (younger_after p u n (subst (λ t. is_elder u t ≡ true) task c))

    parent_unended : is_unended (v ∷ H) p ≡ true
    parent_unended =
        and_from (is_spawned (v ∷ H) p) (not (list_any (ends p) (v ∷ H)))
        (grown p v H (parent_spawned P H n p l.0.0 (subst (IsSpawned H) task (may_spawned P.cells H v l.0.0 l.0.1)))) (ap not unended)

    member : is_end v.action ≡ true → is_member (own u H) v.task ≡ true → (m : Name) × ((is_member (own u H) m ≡ true) × (is_unended (v ∷ H) m ≡ true))
    member e c =
        ⊎_elim (λ a. absurd (after_parent (subst (IsAtMost p) (child_of u p n a) (at_most_itself p)))) (λ b. (p, (b, parent_unended)))
        (member_up P.cells H u n p l.0.0 (subst (λ t. is_member (own u H) t ≡ true) task c))
