-- An event needs an earlier one where it asks for a key of it.
use Rattle.std.proofs.Common.{◌≡◌, ℕ, ◌+◌, ◌==◌, List, [], ◌∷◌, Bool, true, false, ◌&&◌, ◌||◌, not, cond, Some, None, refl, sym, ap, ap₂, ◌∙◌}
use Rattle.std.specs.List.{list_any, AllByRecursion}
use Rattle.tb_model.specs.declared.action.Action.{Action}
use Rattle.tb_model.specs.declared.action.Action.TheVariants.{Start, Load, Store, Print, Spawn, Wait, Close}
use Rattle.tb_model.specs.declared.event.Event.{Event}
use Rattle.tb_model.specs.declared.item.Item.{Item as AnItem}
use Rattle.tb_model.specs.declared.kind.Kind.{Kind}
use Rattle.tb_model.specs.declared.kind.Kind.TheVariants.{In, Out, Inout, Mutexinoutset, Inoutset}
use Rattle.tb_model.specs.declared.place.Place.{Place}
use Rattle.tb_model.specs.declared.place.Place.TheVariants.{Cell, All}
use Rattle.tb_model.specs.Names.{Name, same_name, is_child, is_within}
use Rattle.tb_model.specs.Items.{has_no_items, same_place, some_meet, is_before}
use Rattle.tb_model.specs.Facts.{History, own, groups, innermost, is_member, is_end, is_print, is_store_to, touches, holds, spawns, is_of, before, apart, covers, items_of}
use Rattle.tb_model.specs.Needs.{needs, conflicts, waits_for}
use Rattle.tb_model.proofs.AlikeLemmas.{any_same}
use Rattle.tb_cause.specs.Keys.{Key, Task, Item, gives, held_by, held_any, action_any, wait_any, takes_any, item_key, kind_number, place_any, kind_any, item_any, items_any, kinds, comes_behind}
use Rattle.tb_cause.proofs.KeyLemmas.{any_or, any_swap, any_and, and_none, and_more, and_grouped, and_turned, or_none, eq_turned, same_turned, takes_same, taken_of_some}

-- ---- items

-- what the items of one kind are asked for at this index
abbrev hit : Place → ℕ → AnItem → Bool
hit (Cell c) m j = item_key m c j || item_key (m + 2) 0 j
hit All m j = item_key (m + 1) 0 j || item_key (m + 2) 0 j

-- two items meet, and the earlier one is of a kind that passes the test
abbrev pub meet_by : (Kind → Bool) → AnItem → AnItem → Bool
meet_by test i j = same_place i.place j.place && test j.kind

-- some item of the earlier one is met by one of the new
abbrev pub some_behind : Bool → List AnItem → List AnItem → Bool
some_behind s new old = list_any (λ (i : AnItem). list_any (meet_by (comes_behind s i.kind) i) old) new

at_cell : (b t : Bool) → ((((b || false) || false) && t) || false) ≡ (b && t)
at_cell true true = refl
at_cell true false = refl
at_cell false t = refl

module _ (test : Kind → Bool) where
  abbrev asked : Place → Kind → Place → Bool
  asked p k q = list_any (λ o. hit p (kind_number o) (record { kind = k; place = q }) && test o) kinds

  abbrev met : Place → Kind → Place → Bool
  met p k q = same_place p q && test k

  cells : (c d : ℕ) (k : Kind) → ((((d == c) || false) || false) && test k || false) ≡ ((c == d) && test k)
  cells c d k = at_cell (d == c) (test k) ∙ ap (λ b. b && test k) (eq_turned d c)

  -- an item of this kind is found by its own code alone
  found_by : (p : Place) (k : Kind) (q : Place) → asked p k q ≡ met p k q
  found_by (Cell c) In (Cell d) = cells c d In
  found_by (Cell c) Out (Cell d) = cells c d Out
  found_by (Cell c) Inout (Cell d) = cells c d Inout
  found_by (Cell c) Mutexinoutset (Cell d) = cells c d Mutexinoutset
  found_by (Cell c) Inoutset (Cell d) = cells c d Inoutset
  found_by (Cell c) In All = or_none (test In)
  found_by (Cell c) Out All = or_none (test Out)
  found_by (Cell c) Inout All = or_none (test Inout)
  found_by (Cell c) Mutexinoutset All = or_none (test Mutexinoutset)
  found_by (Cell c) Inoutset All = or_none (test Inoutset)
  found_by All In (Cell d) = or_none (test In)
  found_by All Out (Cell d) = or_none (test Out)
  found_by All Inout (Cell d) = or_none (test Inout)
  found_by All Mutexinoutset (Cell d) = or_none (test Mutexinoutset)
  found_by All Inoutset (Cell d) = or_none (test Inoutset)
  found_by All In All = or_none (test In)
  found_by All Out All = or_none (test Out)
  found_by All Inout All = or_none (test Inout)
  found_by All Mutexinoutset All = or_none (test Mutexinoutset)
  found_by All Inoutset All = or_none (test Inoutset)

module _ (I : Name → List AnItem) (u : Event) (p : Name) where
  -- u is the end of a child of p
  abbrev D : Bool
  D = is_end u.action && is_child p u.task

  abbrev js : List AnItem
  js = I u.task

  given_item : (n c : ℕ) → gives I u (Item p n c) ≡ (D && list_any (item_key n c) js)
  given_item n c = and_grouped (is_end u.action) (is_child p u.task) (list_any (item_key n c) js)

  both_given : (n c n' c' : ℕ) → (gives I u (Item p n c) || gives I u (Item p n' c')) ≡ (D && list_any (λ j. item_key n c j || item_key n' c' j) js)
  both_given n c n' c' =
      ap₂ (λ a b. a || b) (given_item n c) (given_item n' c') ∙ sym (and_more D (list_any (item_key n c) js) (list_any (item_key n' c') js))
      ∙ ap (λ b. D && b) (sym (any_or (item_key n c) (item_key n' c') js))

  place_given : (pl : Place) (m : ℕ) → place_any (gives I u) p pl m ≡ (D && list_any (hit pl m) js)
  place_given (Cell c) m = both_given m c (m + 2) 0
  place_given All m = both_given (m + 1) 0 (m + 2) 0

  moved : (a b : Bool) → (a && (D && b)) ≡ (D && (a && b))
  moved true b = refl
  moved false b = sym (and_none D)

  module _ (s : Bool) (i : AnItem) where
    abbrev asks : Kind → AnItem → Bool
    asks k j = hit i.place (kind_number k) j && comes_behind s i.kind k

    kind_given : (k : Kind) → kind_any (gives I u) p s i k ≡ (D && list_any (asks k) js)
    kind_given k =
        ap (λ b. comes_behind s i.kind k && b) (place_given i.place (kind_number k)) ∙ moved (comes_behind s i.kind k) (list_any (hit i.place (kind_number k)) js)
        ∙ ap (λ b. D && b) (sym (any_and (comes_behind s i.kind k) (hit i.place (kind_number k)) js)
        ∙ any_same (λ j. comes_behind s i.kind k && hit i.place (kind_number k) j) (asks k) (λ j. and_turned (comes_behind s i.kind k) (hit i.place (kind_number k) j)) js)

    item_given : item_any (gives I u) p s i ≡ (D && list_any (meet_by (comes_behind s i.kind) i) js)
    item_given =
        any_same (kind_any (gives I u) p s i) (λ k. D && list_any (asks k) js) kind_given kinds
        ∙ any_and D (λ k. list_any (asks k) js) kinds
        ∙ ap (λ b. D && b) (any_swap asks kinds js
        ∙ any_same (λ j. list_any (λ k. asks k j) kinds) (meet_by (comes_behind s i.kind) i) (λ j. found_by (comes_behind s i.kind) i.place j.kind j.place) js)

  pub list_given : (s : Bool) (items : List AnItem) → list_any (item_any (gives I u) p s) items ≡ (D && some_behind s items js)
  list_given s items =
      any_same (item_any (gives I u) p s) (λ (i : AnItem). D && list_any (meet_by (comes_behind s i.kind) i) js) (item_given s) items
      ∙ any_and D (λ (i : AnItem). list_any (meet_by (comes_behind s i.kind) i) js) items

-- ---- one event needs another

-- t waits for the end of u by items
abbrev pub waits_by_items : History → Name → Action → Name → Bool
waits_by_items H t Start u = before H u t || apart H u t
waits_by_items H t (Wait items) u = not (has_no_items items) && covers H t items u
waits_by_items H t _ u = false

-- t waits for the end of u by items, as the items say alone
abbrev pub behind_items : (Name → List AnItem) → Name → Action → Name → Bool
behind_items I (n ∷ p) Start u = is_child p u && some_behind true (I (n ∷ p)) (I u)
behind_items I t (Wait items) u = is_child t u && some_behind false items (I u)
behind_items I t _ u = false

-- the part of a wait that isn't by items
abbrev waits_for_all : History → Name → Action → Name → Bool
waits_for_all H t (Wait items) u = has_no_items items && is_child t u
waits_for_all H t Close u = is_member (own t H) u
waits_for_all H t _ u = false

by_all_or_items : (H : History) (t : Name) (a : Action) (u : Name) → waits_for H t a u ≡ (waits_for_all H t a u || waits_by_items H t a u)
by_all_or_items H t Start u = refl
by_all_or_items H t (Wait items) u = at (has_no_items items) (is_child t u) (some_meet is_before items (items_of u H))
  where
    at : (n c m : Bool) → (c && (n || m)) ≡ ((n && c) || (not n && (c && (n || m))))
    at true true m = refl
    at true false m = refl
    at false c m = refl
by_all_or_items H t Close u = sym (or_none (is_member (own t H) u))
by_all_or_items H t _ u = refl

-- the parts of a need, in the two orders
parts : (A S E h C P w1 w2 : Bool) → (A || (S || (C || ((E && (h || (w1 || w2))) || P)))) ≡ ((A || (S || (E && false))) || ((E && h) || ((C || P) || ((E && w1) || (E && w2)))))
parts true S E h C P w1 w2 = refl
parts false true E h C P w1 w2 = refl
parts false false false h true P w1 w2 = refl
parts false false false h false true w1 w2 = refl
parts false false false h false false w1 w2 = refl
parts false false true true true P w1 w2 = refl
parts false false true true false P w1 w2 = refl
parts false false true false true P w1 w2 = refl
parts false false true false false true true w2 = refl
parts false false true false false true false true = refl
parts false false true false false true false false = refl
parts false false true false false false true w2 = refl
parts false false true false false false false true = refl
parts false false true false false false false false = refl

module _ (I : Name → List AnItem) (H : History) (v u : Event) where
  abbrev E : Bool
  E = is_end u.action

  held_key : (acts : List Action) → held_any (gives I u) (held_by acts) ≡ (E && holds acts u.task)
  held_key [] = sym (and_none E)
  held_key (Spawn s ∷ acts) = by s.deferred
    where
      by : (d : Bool) → held_any (gives I u) (cond d None (Some s.child)) ≡ (E && (not d && same_name s.child u.task))
      by true = sym (and_none E)
      by false = ap (λ b. E && b) (or_none (same_name u.task s.child) ∙ same_turned u.task s.child)
  held_key (_ ∷ acts) = sym (and_none E)

  no_more : (b : Bool) → (b || (E && false)) ≡ (b || false)
  no_more b = ap (λ x. b || x) (and_none E)

  action_keys : (a : Action) → action_any (gives I u) a ≡ (conflicts a u.action || (is_print a && is_print u.action))
  action_keys (Load r c x) = no_more (is_store_to c u.action)
  action_keys (Store c x) = no_more (touches c u.action)
  action_keys (Print x) = no_more (is_print u.action) ∙ or_none (is_print u.action)
  action_keys _ = refl

  turned : (a b : Bool) → (a && (E && b)) ≡ (E && (a && b))
  turned true b = refl
  turned false b = sym (and_none E)

  wait_keys : (t : Name) (a : Action) → wait_any (gives I u) H t a ≡ (E && waits_for_all H t a u.task)
  wait_keys t (Wait items) = turned (has_no_items items) (is_child t u.task || false) ∙ ap (λ b. E && (has_no_items items && b)) (or_none (is_child t u.task))
  wait_keys t Close =
      any_and E (λ c. is_within c u.task || false) (innermost (groups (own t H)))
      ∙ ap (λ b. E && b) (any_same (λ c. is_within c u.task || false) (λ c. is_within c u.task) (λ c. or_none (is_within c u.task)) (innermost (groups (own t H))))
  wait_keys t _ = sym (and_none E)

  items_keys : (t : Name) (a : Action) → items_any (gives I u) I t a ≡ (E && behind_items I t a u.task)
  items_keys [] Start = sym (and_none E)
  items_keys (n ∷ p) Start = list_given I u p true (I (n ∷ p)) ∙ sym (and_grouped E (is_child p u.task) (some_behind true (I (n ∷ p)) (I u.task)))
  items_keys t (Wait items) = list_given I u t false items ∙ sym (and_grouped E (is_child t u.task) (some_behind false items (I u.task)))
  items_keys t _ = sym (and_none E)

  pub needed_by_keys : (E ≡ true → waits_by_items H v.task v.action u.task ≡ behind_items I v.task v.action u.task) → needs H v u ≡ takes_any (gives I u) I H v
  needed_by_keys same =
      ap (λ w. is_of v.task u || (spawns v.task u || (conflicts v.action u.action || ((E && (holds (own v.task H) u.task || w)) || (is_print v.action && is_print u.action)))))
      (by_all_or_items H v.task v.action u.task)
      ∙ parts (is_of v.task u) (spawns v.task u) E (holds (own v.task H) u.task) (conflicts v.action u.action) (is_print v.action && is_print u.action) (waits_for_all H v.task v.action u.task) (waits_by_items H v.task v.action u.task)
      ∙ ap (λ b. gives I u (Task v.task) || b)
      (sym (ap₂ (λ a b. a || b) (held_key (own v.task H))
      (ap₂ (λ a b. a || b) (action_keys v.action) (ap₂ (λ a b. a || b) (wait_keys v.task v.action) (items_keys v.task v.action ∙ sym (at_end E same))))))
    where
      at_end : (b : Bool) → (b ≡ true → waits_by_items H v.task v.action u.task ≡ behind_items I v.task v.action u.task) → (b && waits_by_items H v.task v.action u.task) ≡ (b && behind_items I v.task v.action u.task)
      at_end true s = s refl
      at_end false s = refl

-- ---- one event needs some of several

pub any_same_in : {A : Type 0} (p q : A → Bool) (xs : List A) → AllByRecursion (λ x. p x ≡ q x) xs → list_any p xs ≡ list_any q xs
any_same_in p q [] h = refl
any_same_in p q (x ∷ xs) h = ap₂ (λ a b. a || b) h.0 (any_same_in p q xs h.1)

-- these keys are what the events give
pub needs_of_given : (I : Name → List AnItem) (H : History) (v : Event) (F : History) (f : Key → Bool) → ((k : Key) → f k ≡ list_any (λ u. gives I u k) F)
    → AllByRecursion (λ u. needs H v u ≡ takes_any (gives I u) I H v) F → list_any (needs H v) F ≡ takes_any f I H v
needs_of_given I H v F f given each =
    any_same_in (needs H v) (λ u. takes_any (gives I u) I H v) F each
    ∙ sym (takes_same f (λ k. list_any (λ u. gives I u k) F) given I H v ∙ taken_of_some I H v F)
