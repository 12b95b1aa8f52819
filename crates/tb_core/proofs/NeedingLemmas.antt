-- The stored steps that are passed over, where the first that needs a step is looked for, don't
-- need it.
use Rattle.std.proofs.Common.{◌≡◌, ◌<◌, ◌≤◌, ◌+◌, ◌-◌, ◌==◌, ℕ, zero, suc, List, [], ◌∷◌, Bool, true, false, ◌&&◌, ◌||◌, Some, None, length, take, get_or, refl, sym, ap, ap₂, ◌∙◌, subst, arith, rules, tests, ltb}
use Rattle.std.proofs.lemmas.Bool.{true≢false, ltb-true, ltb-false, or_left, or_right}
use Rattle.std.proofs.lemmas.List.{get_or_default}
use Rattle.tb_model.specs.declared.action.Action.{Action}
use Rattle.tb_model.specs.declared.action.Action.TheVariants.{Start, Let, Load, Store, Print, Spawn, Wait, Open, Close, Test, End, Fault}
use Rattle.tb_model.specs.declared.event.Event.{Event}
use Rattle.tb_model.specs.declared.step_id.StepId.{StepId}
use Rattle.tb_model.specs.declared.item.Item.{Item}
use Rattle.tb_model.specs.Items.{has_no_items, is_apart, is_before, some_meet}
use Rattle.tb_model.specs.Names.{Name, same_name, is_child, is_elder, is_within, parent}
use Rattle.tb_model.specs.Facts.{History, IsSpawned, holds, is_end, is_member, is_of, items_of, own, is_print, is_spawn_of, is_store_to, touches}
use Rattle.tb_model.specs.Needs.{conflicts, needs, needs_end_of, waits_for}
use Rattle.tb_model.specs.Needers.{first_needer}
use Rattle.tb_model.proofs.TestLemmas.{other_way, same_true, same_refl}
use Rattle.tb_steps.specs.Entries.{Entry}
use Rattle.tb_core.specs.Lending.{IsNoneBetween}
use Rattle.tb_core.specs.Needing.{NoStartWaits, NoneNeeds, NoneOf, OnlyAbove, is_above, may_wait, may_wait_for, meets}
use Rattle.tb_steps.specs.Scans.{AreLegal, history_of, step_at}
use Rattle.tb_core.proofs.LendingLemmas.{items_in_front, spawned_at, spawned_before, spawned_in}
use Rattle.tb_steps.proofs.FirstLemmas.{front_legal, there, none_next}
use Rattle.tb_steps.proofs.NeedsLemmas.{held_within, member_within}

-- ---- what each part of the test says

store_touches : (d : ℕ) (b : Action) → is_store_to d b ≡ true → touches d b ≡ true
store_touches d (Store c x) h = h
store_touches d Start h = absurd (true≢false (sym h))
store_touches d (Let r x) h = absurd (true≢false (sym h))
store_touches d (Load r c x) h = absurd (true≢false (sym h))
store_touches d (Print x) h = absurd (true≢false (sym h))
store_touches d (Spawn s) h = absurd (true≢false (sym h))
store_touches d (Wait items) h = absurd (true≢false (sym h))
store_touches d Open h = absurd (true≢false (sym h))
store_touches d Close h = absurd (true≢false (sym h))
store_touches d (Test b) h = absurd (true≢false (sym h))
store_touches d End h = absurd (true≢false (sym h))
store_touches d Fault h = absurd (true≢false (sym h))

-- actions that touch no cell in common don't conflict
conflict_none : (a b : Action) → ((d : ℕ) → touches d a ≡ true → touches d b ≡ false) → conflicts a b ≡ false
conflict_none (Store d x) b apart = apart d (search (rules, tests))
conflict_none (Load r d x) b apart = by (is_store_to d b) refl
  where
    by : (o : Bool) → is_store_to d b ≡ o → o ≡ false
    by false f = refl
    by true t = absurd (true≢false (sym (store_touches d b t) ∙ apart d (search (rules, tests))))
conflict_none Start b apart = refl
conflict_none (Let r x) b apart = refl
conflict_none (Print x) b apart = refl
conflict_none (Spawn s) b apart = refl
conflict_none (Wait items) b apart = refl
conflict_none Open b apart = refl
conflict_none Close b apart = refl
conflict_none (Test o) b apart = refl
conflict_none End b apart = refl
conflict_none Fault b apart = refl

-- ---- an event that doesn't meet the action

-- what the action did has nothing to do with the event
record Apart (b : Action) (v : Event) : Type 0 where
  spawns : is_spawn_of v.task b ≡ false
  cells : (d : ℕ) → touches d v.action ≡ true → touches d b ≡ false
  prints : (is_print v.action && is_print b) ≡ false

no_right : (b : Bool) → (b && false) ≡ false
no_right true = refl
no_right false = refl

of_cell : (c d : ℕ) (a : Action) → touches c a ≡ false → touches d a ≡ true → (d == c) ≡ false
of_cell c d a none some = by (d == c) refl
  where
    by : (b : Bool) → (d == c) ≡ b → b ≡ false
    by false f = refl
    by true t =
        let same : d ≡ c = search (rules, tests) in
        absurd (true≢false (sym some ∙ ap (λ n. touches n a) same ∙ none))

apart : (b : Action) (v : Event) → meets b v ≡ false → Apart b v
apart (Load r c x) v h = record { spawns = refl; cells = λ d t. of_cell c d v.action h t; prints = no_right (is_print v.action) }
apart (Store c x) v h = record { spawns = refl; cells = λ d t. of_cell c d v.action h t; prints = no_right (is_print v.action) }
apart (Print x) v h = record { spawns = refl; cells = λ d t. refl; prints = ap (λ p. p && true) h }
apart (Spawn s) v h = record { spawns = other_way v.task s.child h; cells = λ d t. refl; prints = no_right (is_print v.action) }
apart Start v h = record { spawns = refl; cells = λ d t. refl; prints = no_right (is_print v.action) }
apart (Let r x) v h = record { spawns = refl; cells = λ d t. refl; prints = no_right (is_print v.action) }
apart (Wait items) v h = record { spawns = refl; cells = λ d t. refl; prints = no_right (is_print v.action) }
apart Open v h = record { spawns = refl; cells = λ d t. refl; prints = no_right (is_print v.action) }
apart Close v h = record { spawns = refl; cells = λ d t. refl; prints = no_right (is_print v.action) }
apart (Test b) v h = record { spawns = refl; cells = λ d t. refl; prints = no_right (is_print v.action) }
apart End v h = record { spawns = refl; cells = λ d t. refl; prints = no_right (is_print v.action) }
apart Fault v h = record { spawns = refl; cells = λ d t. refl; prints = no_right (is_print v.action) }

no_part : (a b c d e x : Bool) → a ≡ false → b ≡ false → c ≡ false → d ≡ false → e ≡ false → (a || (b || (c || ((d && x) || e)))) ≡ false
no_part a b c d e x pa pb pc pd pe = rw (pa, pb, pc, pd, pe) refl

not_needed : (H : History) (v u : Event) → is_of u.task v ≡ false → meets u.action v ≡ false → is_end u.action ≡ false → needs H v u ≡ false
not_needed H v u other none going =
    let p = apart u.action v none in
    no_part (is_of v.task u) (is_spawn_of v.task u.action) (conflicts v.action u.action) (is_end u.action) (is_print v.action && is_print u.action) (needs_end_of H v.task v.action u.task)
    (other_way v.task u.task other) p.spawns (conflict_none v.action u.action p.cells) going p.prints

-- ---- an event that doesn't wait for the end of the task

ended_meets : (b : Action) (v : Event) → is_end b ≡ true → meets b v ≡ false
ended_meets End v h = refl
ended_meets Fault v h = refl
ended_meets Start v h = absurd (true≢false (sym h))
ended_meets (Let r x) v h = absurd (true≢false (sym h))
ended_meets (Load r c x) v h = absurd (true≢false (sym h))
ended_meets (Store c x) v h = absurd (true≢false (sym h))
ended_meets (Print x) v h = absurd (true≢false (sym h))
ended_meets (Spawn s) v h = absurd (true≢false (sym h))
ended_meets (Wait items) v h = absurd (true≢false (sym h))
ended_meets Open v h = absurd (true≢false (sym h))
ended_meets Close v h = absurd (true≢false (sym h))
ended_meets (Test b) v h = absurd (true≢false (sym h))

waits_none : (some : Bool) (H : History) (t : Name) (a : Action) (u : Name) → (some ≡ false → waits_for H t Start u ≡ false) → may_wait some a ≡ false
    → waits_for H t a u ≡ false
waits_none some H t Start u none h = none h
waits_none some H t (Wait items) u none h = absurd (true≢false h)
waits_none some H t Close u none h = absurd (true≢false h)
waits_none some H t (Let r x) u none h = refl
waits_none some H t (Load r c x) u none h = refl
waits_none some H t (Store c x) u none h = refl
waits_none some H t (Print x) u none h = refl
waits_none some H t (Spawn s) u none h = refl
waits_none some H t Open u none h = refl
waits_none some H t (Test b) u none h = refl
waits_none some H t End u none h = refl
waits_none some H t Fault u none h = refl

first_false : (a b : Bool) → (a || b) ≡ false → a ≡ false
first_false false b h = refl
first_false true b h = absurd (true≢false h)

second_false : (a b : Bool) → (a || b) ≡ false → b ≡ false
second_false false b h = h
second_false true b h = absurd (true≢false h)

no_wait : (a b c d e x y : Bool) → a ≡ false → b ≡ false → c ≡ false → x ≡ false → y ≡ false → e ≡ false → (a || (b || (c || ((d && (x || y)) || e)))) ≡ false
no_wait a b c d e x y pa pb pc px py pe = rw (pa, pb, pc, px, py, pe) (ap (λ z. z || false) (no_right d))

-- the stored step may not need the end
end_not_needed : (some : Bool) (front : List Entry) (v u : Event) → AreLegal front → is_end u.action ≡ true
    → (some ≡ false → waits_for (history_of front) v.task Start u.task ≡ false) → may_wait_for some v.action v.task u.task ≡ false
    → needs (history_of front) v u ≡ false
end_not_needed some front v u legal ends no_start none =
    let H = history_of front in
    let p = apart u.action v (ended_meets u.action v ends) in
    let names = second_false (may_wait some v.action) _ none in
    let held : (b : Bool) → holds (own v.task H) u.task ≡ b → b ≡ false =
    λ b. elim b as (λ b. holds (own v.task H) u.task ≡ b → b ≡ false) [ false ↦ λ _. refl | true ↦ λ h. absurd (true≢false (sym (held_within front v.task u.task legal h) ∙ first_false (is_child v.task u.task) _ names)) ] in
    no_wait (is_of v.task u) (is_spawn_of v.task u.action) (conflicts v.action u.action) (is_end u.action) (is_print v.action && is_print u.action) (holds (own v.task H) u.task) (waits_for H v.task v.action u.task)
    (other_way v.task u.task (second_false (is_child v.task u.task) _ names)) p.spawns (conflict_none v.action u.action p.cells) (held (holds (own v.task H) u.task) refl)
    (waits_none some H v.task v.action u.task no_start (first_false (may_wait some v.action) _ none)) p.prints

-- one stored step more
pub none_waits : (some : Bool) (entries : List Entry) (at from next : ℕ) (u w : Entry) → AreLegal entries → at < from → from ≤ next → next < length entries
    → u ≡ get_or entries at u → w ≡ get_or entries next w → is_end u.event.action ≡ true
    → (some ≡ false → NoStartWaits entries at) → may_wait_for some w.event.action w.event.task u.event.task ≡ false → NoneNeeds entries at from next → NoneNeeds entries at from (next + 1)
none_waits some entries at from next u w legal behind order inside here there ends no_start apart none k v x low high v_there x_there = by (ltb k next) refl
  where
    by : (b : Bool) → ltb k next ≡ b → needs (history_of (take k entries)) v.event x.event ≡ false
    by true t = none k v x low (ltb-true k next t) v_there x_there
    by false f =
        let same : k ≡ next = omega (arith, high, ltb-false k next f) in
        let one : u ≡ x = here ∙ get_or_default entries at u x (omega (arith, behind, order, inside)) ∙ sym x_there in
        let other : w ≡ v = there ∙ get_or_default entries next w v inside ∙ ap (λ n. get_or entries n v) (sym same) ∙ sym v_there in
        subst (λ n. needs (history_of (take n entries)) v.event x.event ≡ false) (sym same)
        (subst (λ (y : Entry). needs (history_of (take next entries)) v.event y.event ≡ false) one
        (subst (λ (y : Entry). needs (history_of (take next entries)) y.event u.event ≡ false) other
        (end_not_needed some (take next entries) w.event u.event (front_legal entries next w inside there legal) ends (λ h. no_start h next w u (omega (arith, behind, order)) inside there here) apart)))

-- ---- whether starts wait, by all entries and by those in front of a place

pub by_items : (H K : History) (t u : Name) → items_of t H ≡ items_of t K → items_of u H ≡ items_of u K → waits_for H t Start u ≡ waits_for K t Start u
by_items H K t u new old =
    ap₂ (λ (xs ys : List Item). (is_elder u t && some_meet is_before xs ys) || ((is_elder u t && some_meet is_apart xs ys) || (is_elder t u && some_meet is_apart ys xs))) new old

pub no_start : (entries : List Entry) (at : ℕ) (task : Name) → AreLegal entries → ((u : Entry) → u ≡ get_or entries at u → task ≡ u.event.task)
    → ((t : Name) → IsSpawned (history_of entries) task → IsSpawned (history_of entries) t → waits_for (history_of entries) t Start task ≡ false) → NoStartWaits entries at
no_start entries at task legal read none k v u behind inside v_there u_there =
    let front = history_of (take k entries) in
    let within : at < length entries = omega (arith, behind, inside) in
    let same : task ≡ u.event.task = read u u_there in
    let all = none v.event.task (subst (λ (t : Name). IsSpawned (history_of entries) t) (sym same) (spawned_in entries at u within u_there legal)) (spawned_in entries k v inside v_there legal) in
    sym (by_items (history_of entries) front v.event.task u.event.task (items_in_front entries k v.event.task legal (spawned_at entries k v inside v_there legal))
    (items_in_front entries k u.event.task legal (spawned_before entries k at v u behind inside v_there u_there legal)))
    ∙ subst (λ (t : Name). waits_for (history_of entries) v.event.task Start t ≡ false) same all

-- ---- an end for which no start waits is needed by its task and by those above it alone

within_self : (t : Name) → is_within t t ≡ true
within_self [] = refl
within_self (n ∷ t) = or_left (same_name (n ∷ t) (n ∷ t)) _ (same_refl (n ∷ t))

child_within : (t u : Name) → is_child t u ≡ true → is_within t u ≡ true
child_within t [] h = absurd (true≢false (sym h))
child_within t (n ∷ u) h = or_right (same_name t (n ∷ u)) (is_within t u) (subst (λ w. is_within w u ≡ true) (same_true u t h) (within_self u))

-- what would say that it is within says nothing
not_so : (b w : Bool) → (b ≡ true → w ≡ true) → w ≡ false → b ≡ false
not_so false w h out = refl
not_so true w h out = absurd (true≢false (sym (h refl) ∙ out))

no_child : (t u : Name) → is_within t u ≡ false → is_child t u ≡ false
no_child t u out = not_so (is_child t u) (is_within t u) (child_within t u) out

below_waits : (front : List Entry) (t : Name) (a : Action) (u : Name) → AreLegal front → waits_for (history_of front) t Start u ≡ false
    → is_within t u ≡ false → waits_for (history_of front) t a u ≡ false
below_waits front t Start u legal none out = none
below_waits front t (Wait items) u legal none out = ap (λ b. b && (has_no_items items || some_meet is_before items (items_of u (history_of front)))) (no_child t u out)
below_waits front t Close u legal none out = not_so (is_member (own t (history_of front)) u) (is_within t u) (member_within front t u legal) out
below_waits front t (Let r x) u legal none out = refl
below_waits front t (Load r c x) u legal none out = refl
below_waits front t (Store c x) u legal none out = refl
below_waits front t (Print x) u legal none out = refl
below_waits front t (Spawn s) u legal none out = refl
below_waits front t Open u legal none out = refl
below_waits front t (Test b) u legal none out = refl
below_waits front t End u legal none out = refl
below_waits front t Fault u legal none out = refl

below_needs : (front : List Entry) (v u : Event) → AreLegal front → is_end u.action ≡ true → waits_for (history_of front) v.task Start u.task ≡ false
    → is_within v.task u.task ≡ false → needs (history_of front) v u ≡ false
below_needs front v u legal ends none out =
    let H = history_of front in
    let p = apart u.action v (ended_meets u.action v ends) in
    let same : same_name u.task v.task ≡ true → is_within v.task u.task ≡ true =
    λ h. subst (λ w. is_within w u.task ≡ true) (same_true u.task v.task h) (within_self u.task) in
    no_wait (is_of v.task u) (is_spawn_of v.task u.action) (conflicts v.action u.action) (is_end u.action) (is_print v.action && is_print u.action) (holds (own v.task H) u.task) (waits_for H v.task v.action u.task)
    (not_so (same_name u.task v.task) (is_within v.task u.task) same out) p.spawns (conflict_none v.action u.action p.cells)
    (not_so (holds (own v.task H) u.task) (is_within v.task u.task) (λ h. child_within v.task u.task (held_within front v.task u.task legal h)) out)
    (below_waits front v.task v.action u.task legal none out) p.prints

needer_above : (entries : List Entry) (k : ℕ) (v u : Entry) → AreLegal entries → k < length entries → v ≡ get_or entries k v → is_end u.event.action ≡ true
    → waits_for (history_of (take k entries)) v.event.task Start u.event.task ≡ false → needs (history_of (take k entries)) v.event u.event ≡ true
    → is_within v.event.task u.event.task ≡ true
needer_above entries k v u legal inside there ends none needed = by (is_within v.event.task u.event.task) refl
  where
    by : (b : Bool) → is_within v.event.task u.event.task ≡ b → b ≡ true
    by true e = refl
    by false e =
        let alone = below_needs (take k entries) v.event u.event (front_legal entries k v inside there legal) ends none e in
        absurd (true≢false (sym needed ∙ alone))

-- who is above the task and not the task itself is its parent or above that
one_up : (t s : Name) → is_within s t ≡ true → same_name s t ≡ false → is_above (parent t) s ≡ true
one_up [] s above other = absurd (true≢false (sym above ∙ other))
one_up (n ∷ t) s above other = subst (λ b. (b || is_within s t) ≡ true) other above

-- where the task itself takes no step, its parent and those above that are left
pub from_parent : (entries : List Entry) (at from to : ℕ) (u : Entry) → AreLegal entries → at < length entries → at < from → to ≤ length entries
    → u ≡ get_or entries at u → is_end u.event.action ≡ true → NoStartWaits entries at
    → IsNoneBetween (is_of u.event.task) entries from to → OnlyAbove (parent u.event.task) entries at from to
from_parent entries at from to u legal within behind high here ends no_start none k v x low l v_there x_there needed =
    let one : x ≡ u = x_there ∙ sym (get_or_default entries at u x within) ∙ sym here in
    let needed_u = subst (λ (y : Entry). needs (history_of (take k entries)) v.event y.event ≡ true) one needed in
    one_up u.event.task v.event.task (needer_above entries k v u legal (omega (arith, l, high)) v_there ends (no_start k v u (omega (arith, behind, low)) (omega (arith, l, high)) v_there here) needed_u) (none k v low l v_there)

-- one task more that has no step that needs it
pub next_parent : (entries : List Entry) (at from last to : ℕ) (t : Name) → to ≤ last → OnlyAbove (Some t) entries at from last → NoneOf t entries at from to
    → OnlyAbove (parent t) entries at from to
next_parent entries at from last to t lower only none k v u low l v_there u_there needed =
    one_up t v.event.task (only k v u low (omega (arith, l, lower)) v_there u_there needed) (by (is_of t v.event) refl)
  where
    by : (b : Bool) → is_of t v.event ≡ b → b ≡ false
    by false e = refl
    by true e = absurd (true≢false (sym needed ∙ none k v u low l v_there u_there e))

-- none is left above the root
pub above_root : (entries : List Entry) (at from to : ℕ) → OnlyAbove None entries at from to → NoneNeeds entries at from to
above_root entries at from to only k v u low l v_there u_there = by (needs (history_of (take k entries)) v.event u.event) refl
  where
    by : (b : Bool) → needs (history_of (take k entries)) v.event u.event ≡ b → b ≡ false
    by false e = refl
    by true e = absurd (true≢false (sym (only k v u low l v_there u_there e)))

-- ---- the steps of one task

pub none_own : (entries : List Entry) (at from own to : ℕ) (t : Name) → to ≤ own → IsNoneBetween (is_of t) entries from own → NoneOf t entries at from to
none_own entries at from own to t low none k v u from_k to_k there same mine = absurd (true≢false (sym mine ∙ none k v from_k (omega (arith, to_k, low)) there))

pub none_own_next : (entries : List Entry) (at from next own to : ℕ) (t : Name) (u w : Entry) → at < length entries → next < length entries
    → u ≡ get_or entries at u → w ≡ get_or entries next w → needs (history_of (take next entries)) w.event u.event ≡ false
    → to ≤ own → NoneOf t entries at from next → IsNoneBetween (is_of t) entries (next + 1) own → NoneOf t entries at from to
none_own_next entries at from next own to t u w within inside here there apart lower none others k v x low high v_there x_there mine = by (ltb k next) refl (ltb next k) refl
  where
    by : (a : Bool) → ltb k next ≡ a → (b : Bool) → ltb next k ≡ b → needs (history_of (take k entries)) v.event x.event ≡ false
    by true s b e = none k v x low (ltb-true k next s) v_there x_there mine
    by false s true e = absurd (true≢false (sym mine ∙ others k v (omega (arith, ltb-true next k e)) (omega (arith, high, lower)) v_there))
    by false s false e =
        let same : k ≡ next = omega (arith, ltb-false k next s, ltb-false next k e) in
        let one : u ≡ x = here ∙ get_or_default entries at u x within ∙ sym x_there in
        let other : w ≡ v = there ∙ get_or_default entries next w v inside ∙ ap (λ n. get_or entries n v) (sym same) ∙ sym v_there in
        subst (λ n. needs (history_of (take n entries)) v.event x.event ≡ false) (sym same)
        (subst (λ (y : Entry). needs (history_of (take next entries)) v.event y.event ≡ false) one
        (subst (λ (y : Entry). needs (history_of (take next entries)) y.event u.event ≡ false) other apart))

-- ---- those that are passed over

pub none_needs : (entries : List Entry) (at from own next to : ℕ) (u : Entry) → at < length entries → u ≡ get_or entries at u → is_end u.event.action ≡ false
    → to ≤ own → to ≤ next → IsNoneBetween (is_of u.event.task) entries from own
    → IsNoneBetween (meets u.event.action) entries from next → NoneNeeds entries at from to
none_needs entries at from own next to u within here going low high others apart k v w from_k to_k there same =
    let one : u ≡ w = here ∙ get_or_default entries at u w within ∙ sym same in
    subst (λ (x : Entry). needs (history_of (take k entries)) v.event x.event ≡ false) one
    (not_needed (history_of (take k entries)) v.event u.event (others k v from_k (omega (arith, to_k, low)) there) (apart k v from_k (omega (arith, to_k, high)) there) going)

-- where none of so many stored steps needs the step, there is no first needer up to there
pub none_passed : (entries : List Entry) (at from n : ℕ) (id : StepId) → AreLegal entries → step_at entries at ≡ Some id → at < from
    → from + n ≤ length entries → NoneNeeds entries at from (from + n)
    → first_needer id (history_of (take from entries)) ≡ None → first_needer id (history_of (take (from + n) entries)) ≡ None
none_passed entries at from zero id legal step behind within none yet = let same : from ≡ from + 0 = omega arith in subst (λ k. first_needer id (history_of (take k entries)) ≡ None) same yet
none_passed entries at from (suc n) id legal step behind within none yet =
    let front = none_passed entries at from n id legal step behind (omega (arith, within)) (λ k v u low high. none k v u low (omega (arith, high))) yet in
    let later = from + n in
    let inside : later < length entries = omega (arith, within) in
    let w = there entries later inside in
    let u = there entries at (omega (arith, behind, inside)) in
    let same : from + n + 1 ≡ from + suc n = omega arith in
    subst (λ k. first_needer id (history_of (take k entries)) ≡ None) same
    (none_next entries at later u.0 w.0 id (omega (arith, behind)) inside u.1 w.1 step front false legal (λ x y x_there y_there. sym (none later x y (omega arith) (omega arith) x_there y_there)) refl)

pub none_until : (entries : List Entry) (at from to : ℕ) (id : StepId) → AreLegal entries → step_at entries at ≡ Some id → at < from → from ≤ to
    → to ≤ length entries → NoneNeeds entries at from to
    → first_needer id (history_of (take from entries)) ≡ None → first_needer id (history_of (take to entries)) ≡ None
none_until entries at from to id legal step behind low high none yet =
    let same : from + (to - from) ≡ to = omega (arith, low) in
    subst (λ k. first_needer id (history_of (take k entries)) ≡ None) same
    (none_passed entries at from (to - from) id legal step behind (omega (arith, low, high)) (λ k v u l h. none k v u l (omega (arith, h, low))) yet)
