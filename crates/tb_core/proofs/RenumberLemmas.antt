-- The indexes of the stored steps, where some of these go.
use Rattle.std.proofs.Common.{◌≡◌, ◌<◌, ◌≤◌, ◌+◌, ◌==◌, ℕ, zero, suc, List, [], ◌∷◌, ◌++◌, Bool, true, false, length, take, drop, get_or, reverse, remove, refl, sym, ap, ap₂, ◌∙◌, subst, arith, rules, append_assoc, append-nil, add-one, if◌then◌else◌, not}
use Rattle.std.specs.List.{AllByRecursion}
use Rattle.std.proofs.lemmas.List.{length-append, length-map, length-reverse, length-take-le, reverse-append, take-append-drop}
use Rattle.std.proofs.lemmas.Bool.Decides.{nat_tests}
use Rattle.tb_model.specs.declared.event.Event.{Event}
use Rattle.tb_model.specs.declared.step_id.StepId.{StepId}
use Rattle.tb_model.specs.Names.{Name}
use Rattle.tb_model.specs.Facts.{History, prepend_if}
use Rattle.tb_model.specs.Needs.{is_removed, without}
use Rattle.tb_steps.specs.Entries.{Entry}
use Rattle.tb_core.specs.Rolled.{removed_places}
use Rattle.tb_places.specs.declared.places.Places.{Places}
use Rattle.tb_places.specs.Places.{IsIndexOf, IsNamed, HasRoomFor, HasRoomForAll, KeepsRoom}
use Rattle.tb_places.proofs.RoomLemmas.{room_of_index, room_next, room_without, room_kept, named_next}
use Rattle.tb_places.specs.Renumbering.{RiseFrom, goes_at, left_from}
use Rattle.tb_core.specs.Renumbering.{events_in, Refills, Cuts}

-- ---- nothing goes in front of the first

pub left_front : {X : Type 0} (k n : ℕ) (gs : List ℕ) (es : List X) → ((at : ℕ) → at < k + n → goes_at at gs ≡ false)
    → take n es ++ left_from (k + n) gs (drop n es) ≡ left_from k gs es
left_front k zero gs es none = ap (λ j. left_from j gs es) (omega arith)
left_front k (suc n) gs [] none = refl
left_front k (suc n) gs (e ∷ es) none =
    ap (λ l. e ∷ l) (ap (λ j. take n es ++ left_from j gs (drop n es)) (omega arith) ∙ left_front (k + 1) n gs es (λ at below. none at (omega (arith, below))))
    ∙ sym (ap (λ b. if b then left_from (k + 1) (drop 1 gs) es else e ∷ left_from (k + 1) gs es) (none k (omega arith)))

pub left_whole : {X : Type 0} (n : ℕ) (gs : List ℕ) (es : List X) → ((at : ℕ) → at < n → goes_at at gs ≡ false)
    → take n es ++ left_from n gs (drop n es) ≡ left_from 0 gs es
left_whole n gs es none = ap (λ j. take n es ++ left_from j gs (drop n es)) (omega arith) ∙ left_front 0 n gs es (λ at below. none at (omega (arith, below)))

-- ---- what is left of the indexes that go

abbrev rest_from : ℕ → List ℕ → List Event → List ℕ
rest_from at gs [] = gs
rest_from at gs (e ∷ es) = if goes_at at gs then rest_from (at + 1) (drop 1 gs) es else rest_from (at + 1) gs es

module _ {X : Type 0} (k : ℕ) (gs : List ℕ) (e : X) (es : List X) where
  pub left_gone : goes_at k gs ≡ true → left_from k gs (e ∷ es) ≡ left_from (k + 1) (drop 1 gs) es
  left_gone h = ap (λ b. if b then left_from (k + 1) (drop 1 gs) es else e ∷ left_from (k + 1) gs es) h

  pub left_kept : goes_at k gs ≡ false → left_from k gs (e ∷ es) ≡ e ∷ left_from (k + 1) gs es
  left_kept h = ap (λ b. if b then left_from (k + 1) (drop 1 gs) es else e ∷ left_from (k + 1) gs es) h

module _ (k : ℕ) (gs : List ℕ) (e : Event) (es : List Event) where
  rest_gone : goes_at k gs ≡ true → rest_from k gs (e ∷ es) ≡ rest_from (k + 1) (drop 1 gs) es
  rest_gone h = ap (λ b. if b then rest_from (k + 1) (drop 1 gs) es else rest_from (k + 1) gs es) h

  rest_kept : goes_at k gs ≡ false → rest_from k gs (e ∷ es) ≡ rest_from (k + 1) gs es
  rest_kept h = ap (λ b. if b then rest_from (k + 1) (drop 1 gs) es else rest_from (k + 1) gs es) h

-- the events one after another
record Parts (k : ℕ) (gs : List ℕ) (es ys : List Event) (n : ℕ) : Type 0 where
  left : left_from k gs (es ++ ys) ≡ left_from k gs es ++ left_from n (rest_from k gs es) ys
  rest : rest_from k gs (es ++ ys) ≡ rest_from n (rest_from k gs es) ys

parts : (k : ℕ) (gs : List ℕ) (es ys : List Event) (n : ℕ) → n ≡ k + length es → Parts k gs es ys n
parts k gs [] ys n h =
    let same : k ≡ n = omega (arith, h) in
    record { left = ap (λ j. left_from j gs ys) same; rest = ap (λ j. rest_from j gs ys) same }
parts k gs (e ∷ es) ys n h = by (goes_at k gs) refl (parts (k + 1) (drop 1 gs) es ys n (omega (arith, h))) (parts (k + 1) gs es ys n (omega (arith, h)))
  where
    by : (b : Bool) → goes_at k gs ≡ b → Parts (k + 1) (drop 1 gs) es ys n → Parts (k + 1) gs es ys n → Parts k gs (e ∷ es) ys n
    by true t p q = record {
      left = left_gone k gs e (es ++ ys) t ∙ p.left ∙ ap₂ (λ l r. l ++ left_from n r ys) (sym (left_gone k gs e es t)) (sym (rest_gone k gs e es t));
      rest = rest_gone k gs e (es ++ ys) t ∙ p.rest ∙ ap (λ r. rest_from n r ys) (sym (rest_gone k gs e es t));
    }
    by false t p q = record {
      left = left_kept k gs e (es ++ ys) t ∙ ap (λ l. e ∷ l) q.left ∙ ap₂ (λ l r. l ++ left_from n r ys) (sym (left_kept k gs e es t)) (sym (rest_kept k gs e es t));
      rest = rest_kept k gs e (es ++ ys) t ∙ q.rest ∙ ap (λ r. rest_from n r ys) (sym (rest_kept k gs e es t));
    }

-- an index after them all is left
record Later (k : ℕ) (gs : List ℕ) (es : List Event) (n : ℕ) : Type 0 where
  left : left_from k (gs ++ n ∷ []) es ≡ left_from k gs es
  rest : rest_from k (gs ++ n ∷ []) es ≡ rest_from k gs es ++ n ∷ []

pub apart : (n k : ℕ) → k < n → (n == k) ≡ false
apart n k h = grind (arith, nat_tests)

pub same_place : (n k : ℕ) → n ≡ k → (n == k) ≡ true
same_place n k h = grind (arith, nat_tests)

later : (k : ℕ) (gs : List ℕ) (es : List Event) (n : ℕ) → k + length es ≤ n → Later k gs es n
later k gs [] n h = record { left = refl; rest = refl }
later k [] (e ∷ es) n h =
    let r = later (k + 1) [] es n (omega (arith, h)) in
    let f : goes_at k (n ∷ []) ≡ false = apart n k (omega (arith, h)) in
    record { left = left_kept k (n ∷ []) e es f ∙ ap (λ l. e ∷ l) r.left; rest = rest_kept k (n ∷ []) e es f ∙ r.rest }
later k (g ∷ gs) (e ∷ es) n h = by (g == k) refl (later (k + 1) gs es n (omega (arith, h))) (later (k + 1) (g ∷ gs) es n (omega (arith, h)))
  where
    by : (b : Bool) → (g == k) ≡ b → Later (k + 1) gs es n → Later (k + 1) (g ∷ gs) es n → Later k (g ∷ gs) (e ∷ es) n
    by true t p q = record {
      left = left_gone k (g ∷ gs ++ n ∷ []) e es t ∙ p.left ∙ sym (left_gone k (g ∷ gs) e es t);
      rest = rest_gone k (g ∷ gs ++ n ∷ []) e es t ∙ p.rest ∙ ap (λ l. l ++ n ∷ []) (sym (rest_gone k (g ∷ gs) e es t));
    }
    by false t p q = record {
      left = left_kept k (g ∷ gs ++ n ∷ []) e es t ∙ ap (λ l. e ∷ l) q.left ∙ sym (left_kept k (g ∷ gs) e es t);
      rest = rest_kept k (g ∷ gs ++ n ∷ []) e es t ∙ q.rest ∙ ap (λ l. l ++ n ∷ []) (sym (rest_kept k (g ∷ gs) e es t));
    }

-- ---- a step and all that need it

reverse_cons : {A : Type 0} (x : A) (xs : List A) → reverse (x ∷ xs) ≡ reverse xs ++ x ∷ []
reverse_cons x xs = reverse-append (x ∷ []) xs

-- the indexes of what goes rise
rise_push : (low n : ℕ) (xs : List ℕ) → low ≤ n → RiseFrom low xs → AllByRecursion (λ x. x < n) xs → RiseFrom low (xs ++ n ∷ [])
rise_push low n [] l rise under = (l, tt)
rise_push low n (x ∷ xs) l rise under = (rise.0, rise_push (suc x) n xs (omega (arith, under.0)) rise.1 under.1)

under_push : (n : ℕ) (xs : List ℕ) → AllByRecursion (λ x. x < n) xs → AllByRecursion (λ x. x < suc n) (xs ++ n ∷ [])
under_push n [] under = (omega arith, tt)
under_push n (x ∷ xs) under = (omega (arith, under.0), under_push n xs under.1)

under_more : (n : ℕ) (xs : List ℕ) → AllByRecursion (λ x. x < n) xs → AllByRecursion (λ x. x < suc n) xs
under_more n [] under = tt
under_more n (x ∷ xs) under = (omega (arith, under.0), under_more n xs under.1)

record Risen (n : ℕ) (xs : List ℕ) : Type 0 where
  rise : RiseFrom 0 xs
  under : AllByRecursion (λ x. x < n) xs

risen : (e : StepId) (H : History) → Risen (length H) (reverse (removed_places e H))
risen e [] = record { rise = tt; under = tt }
risen e (v ∷ H) = by (is_removed e H v) (risen e H)
  where
    by : (b : Bool) → Risen (length H) (reverse (removed_places e H)) → Risen (suc (length H)) (reverse (prepend_if b (length H) (removed_places e H)))
    by true r = subst (Risen (suc (length H))) (sym (reverse_cons (length H) (removed_places e H)))
        (record { rise = rise_push 0 (length H) (reverse (removed_places e H)) (omega arith) r.rise r.under; under = under_push (length H) (reverse (removed_places e H)) r.under })
    by false r = record { rise = r.rise; under = under_more (length H) (reverse (removed_places e H)) r.under }

pub removed_rise : (e : StepId) (H : History) (going : List ℕ) → going ≡ reverse (removed_places e H) → RiseFrom 0 going
removed_rise e H going is = subst (RiseFrom 0) (sym is) (risen e H).rise

-- the indexes of what goes are used up, and what stays is left
record Sweeps (e : StepId) (H : History) : Type 0 where
  rest : rest_from 0 (reverse (removed_places e H)) (reverse H) ≡ []
  left : left_from 0 (reverse (removed_places e H)) (reverse H) ≡ reverse (without e H)

sweeps : (e : StepId) (H : History) → Sweeps e H
sweeps e [] = record { rest = refl; left = refl }
sweeps e (v ∷ H) = by (is_removed e H v) refl (sweeps e H)
  where
    n : ℕ
    n = length H

    gs : List ℕ
    gs = reverse (removed_places e H)

    es : List Event
    es = reverse H

    count : n ≡ 0 + length es
    count = omega (arith, length-reverse H)

    by : (b : Bool) → is_removed e H v ≡ b → Sweeps e H → Sweeps e (v ∷ H)
    by true t s =
        let places : reverse (removed_places e (v ∷ H)) ≡ gs ++ n ∷ [] = ap (λ b. reverse (prepend_if b n (removed_places e H))) t ∙ reverse_cons n (removed_places e H) in
        let stays : reverse (without e (v ∷ H)) ≡ reverse (without e H) = ap (λ b. reverse (prepend_if (not b) v (without e H))) t in
        let p = parts 0 (gs ++ n ∷ []) es (v ∷ []) n count in
        let q = later 0 gs es n (omega (arith, count)) in
        let here : goes_at n (n ∷ []) ≡ true = same_place n n refl in
        record {
          rest = ap₂ (rest_from 0) places (reverse_cons v H) ∙ p.rest ∙ ap (λ r. rest_from n r (v ∷ [])) (q.rest ∙ ap (λ r. r ++ n ∷ []) s.rest) ∙ rest_gone n (n ∷ []) v [] here;
          left = ap₂ (left_from 0) places (reverse_cons v H) ∙ p.left ∙ ap₂ (λ l r. l ++ left_from n r (v ∷ [])) (q.left ∙ s.left) (q.rest ∙ ap (λ r. r ++ n ∷ []) s.rest)
              ∙ ap (λ l. reverse (without e H) ++ l) (left_gone n (n ∷ []) v [] here) ∙ append-nil (reverse (without e H)) ∙ sym stays;
        }
    by false t s =
        let places : reverse (removed_places e (v ∷ H)) ≡ gs = ap (λ b. reverse (prepend_if b n (removed_places e H))) t in
        let stays : reverse (without e (v ∷ H)) ≡ reverse (without e H) ++ v ∷ [] = ap (λ b. reverse (prepend_if (not b) v (without e H))) t ∙ reverse_cons v (without e H) in
        let p = parts 0 gs es (v ∷ []) n count in
        record {
          rest = ap₂ (rest_from 0) places (reverse_cons v H) ∙ p.rest ∙ ap (λ r. rest_from n r (v ∷ [])) s.rest;
          left = ap₂ (left_from 0) places (reverse_cons v H) ∙ p.left ∙ ap₂ (λ l r. l ++ left_from n r (v ∷ [])) s.left s.rest ∙ sym stays;
        }

pub left_without : (e : StepId) (H : History) → left_from 0 (reverse (removed_places e H)) (reverse H) ≡ reverse (without e H)
left_without e H = (sweeps e H).left

-- ---- one step

left_none : (k : ℕ) (es : List Event) → left_from k [] es ≡ es
left_none k [] = refl
left_none k (e ∷ es) = ap (λ l. e ∷ l) (left_none (k + 1) es)

left_one : (k i n : ℕ) (es : List Event) → n ≡ k + i → left_from k (n ∷ []) es ≡ remove es i
left_one k zero n [] h = refl
left_one k (suc i) n [] h = refl
left_one k zero n (e ∷ es) h = left_gone k (n ∷ []) e es (same_place n k (omega (arith, h))) ∙ left_none (k + 1) es
left_one k (suc i) n (e ∷ es) h = left_kept k (n ∷ []) e es (apart n k (omega (arith, h))) ∙ ap (λ l. e ∷ l) (left_one (k + 1) i n es (omega (arith, h)))

map_remove : (es : List Entry) (i : ℕ) → remove (events_in es) i ≡ events_in (remove es i)
map_remove [] zero = refl
map_remove [] (suc i) = refl
map_remove (e ∷ es) zero = refl
map_remove (e ∷ es) (suc i) = ap (λ l. e.event ∷ l) (map_remove es i)

pub left_removed : (es left : List Entry) (at : ℕ) → left ≡ remove es at → left_from 0 (at ∷ []) (events_in es) ≡ events_in left
left_removed es left at h = left_one 0 at at (events_in es) (omega arith) ∙ map_remove es at ∙ ap events_in (sym h)

-- ---- one stored step after another

pub take_last : (es : List Entry) (i : ℕ) (x : Entry) → i < length es → x ≡ get_or es i x → take (suc i) (events_in es) ≡ take i (events_in es) ++ x.event ∷ []
take_last [] i x h is = absurd (omega (arith, h))
take_last (e ∷ es) zero x h is = ap (λ (y : Entry). y.event ∷ []) (sym is)
take_last (e ∷ es) (suc i) x h is = ap (λ l. e.event ∷ l) (take_last es i x (omega (arith, h)) is)

pub drop_next : (es : List Entry) (i : ℕ) (x : Entry) → i < length es → x ≡ get_or es i x → drop i (events_in es) ≡ x.event ∷ drop (suc i) (events_in es)
drop_next [] i x h is = absurd (omega (arith, h))
drop_next (e ∷ es) zero x h is = ap (λ (y : Entry). y.event ∷ events_in es) (sym is)
drop_next (e ∷ es) (suc i) x h is = drop_next es i x (omega (arith, h)) is

pub some_entry : {X : Type 0} (es : List X) (at : ℕ) → at < length es → (x : X) × (x ≡ get_or es at x)
some_entry [] at h = absurd (omega (arith, h))
some_entry (e ∷ es) zero h = (e, refl)
some_entry (e ∷ es) (suc at) h = some_entry es at (omega (arith, h))

-- ---- the loops

pub drop_one : (n : ℕ) (ns : List ℕ) → drop 1 (drop n ns) ≡ drop (n + 1) ns
drop_one zero [] = refl
drop_one (suc n) [] = search (rules, add-one)
drop_one zero (m ∷ ns) = refl
drop_one (suc n) (m ∷ ns) =
    let same : suc (n + 1) ≡ suc n + 1 = omega arith in
    drop_one n ns ∙ ap (λ k. drop k (m ∷ ns)) same

module _ (names : List Name) (first : ℕ) (es : List Entry) (at k : ℕ) (x : Entry) (old new : Places) (cuts : Cuts names first (events_in es) at old)
    (more : first < at) (before : at ≡ suc k) (here : x ≡ get_or es k x) where
  abbrev whole_events : List Event
  whole_events = events_in es

  inside : k < length es
  inside = omega (arith, before, cuts.within, length-map es (λ (e : Entry). e.event))

  front : take at whole_events ≡ take k whole_events ++ x.event ∷ []
  front = ap (λ n. take n whole_events) before ∙ take_last es k x inside here

  -- the newest of the stored steps is taken off
  pub cuts_more : ((events : List Event) → IsIndexOf names (events ++ x.event ∷ []) old → IsIndexOf names events new) → KeepsRoom old new
      → Cuts names first whole_events k new
  cuts_more popped keeps = record {
    from = omega (arith, more, before);
    within = omega (arith, before, cuts.within);
    index = popped (take k whole_events) (subst (λ l. IsIndexOf names l old) front cuts.index);
    room = room_kept names whole_events old new keeps cuts.room;
  }

all_taken : (n : ℕ) (es : List Event) → n ≡ length es → take n es ≡ es
all_taken zero [] h = refl
all_taken zero (e ∷ es) h = absurd (omega (arith, h))
all_taken (suc n) [] h = absurd (omega (arith, h))
all_taken (suc n) (e ∷ es) h = ap (λ l. e ∷ l) (all_taken n es (omega (arith, h)))

pub cuts_first : (names : List Name) (first : ℕ) (es : List Event) (n : ℕ) (p : Places) → first ≤ n → n ≡ length es → IsIndexOf names es p
    → Cuts names first es n p
cuts_first names first es n p from whole index = record {
  from = from;
  within = omega (arith, whole);
  index = subst (λ l. IsIndexOf names l p) (sym (all_taken n es whole)) index;
  room = room_of_index names es p index;
}

module _ (names : List Name) (first : ℕ) (going : List ℕ) (es : List Entry) (at next place : ℕ) (p : Places)
    (r : Refills names first going (events_in es) at next place p) (within : at < length es) (x : Entry) (here : x ≡ get_or es at x) where
  rest_is : drop at (events_in es) ≡ x.event ∷ drop (suc at) (events_in es)
  rest_is = drop_next es at x within here

  more : drop (suc at) (events_in es) ≡ drop (at + 1) (events_in es)
  more =
      let same : suc at ≡ at + 1 = omega arith in
      ap (λ k. drop k (events_in es)) same

  next_room : HasRoomForAll names (r.done ++ x.event ∷ drop (suc at) (events_in es)) p
  next_room = subst (λ l. HasRoomForAll names (r.done ++ l) p) rest_is r.room

  -- the stored step has capacity
  pub refills_room : HasRoomFor names p x.event
  refills_room = room_next names r.done (drop (suc at) (events_in es)) x.event p r.index next_room

  -- and its task an id
  pub refills_named : IsNamed names x.event
  refills_named = named_next names r.done (drop (suc at) (events_in es)) x.event p next_room

  -- it goes
  pub refills_gone : goes_at at (drop next going) ≡ true → Refills names first going (events_in es) (at + 1) (next + 1) place p
  refills_gone goes = record {
    done = r.done;
    index = r.index;
    count = r.count;
    few = omega (arith, r.few);
    whole =
        ap (λ l. r.done ++ l)
        (ap₂ (left_from (at + 1)) (sym (drop_one next going)) (sym more)
        ∙ sym (ap (left_from at (drop next going)) rest_is ∙ left_gone at (drop next going) x.event (drop (suc at) (events_in es)) goes))
        ∙ r.whole;
    room = subst (λ l. HasRoomForAll names (r.done ++ l) p) more (room_without names r.done (drop (suc at) (events_in es)) x.event p next_room);
  }

  -- it stays
  pub refills_kept : (new : Places) → goes_at at (drop next going) ≡ false
      → ((events : List Event) → IsIndexOf names events p → place ≡ length events → IsIndexOf names (events ++ x.event ∷ []) new) → KeepsRoom p new
      → Refills names first going (events_in es) (at + 1) next (place + 1) new
  refills_kept new stays pushed keeps = record {
    done = r.done ++ x.event ∷ [];
    index = pushed r.done r.index r.count;
    count = omega (arith, r.count, length-append r.done (x.event ∷ []));
    few = omega (arith, r.few);
    whole =
        append_assoc r.done (x.event ∷ []) (left_from (at + 1) (drop next going) (drop (at + 1) (events_in es)))
        ∙ ap (λ l. r.done ++ l)
        (ap (λ l. x.event ∷ left_from (at + 1) (drop next going) l) (sym more)
        ∙ sym (ap (left_from at (drop next going)) rest_is ∙ left_kept at (drop next going) x.event (drop (suc at) (events_in es)) stays))
        ∙ r.whole;
    room =
        subst (λ l. HasRoomForAll names l new)
        (ap (λ l. r.done ++ x.event ∷ l) more ∙ sym (append_assoc r.done (x.event ∷ []) (drop (at + 1) (events_in es))))
        (room_kept names _ p new keeps next_room);
  }

-- ---- where the loop begins and ends

pub refills_first : (names : List Name) (first : ℕ) (going : List ℕ) (events : List Event) (p : Places) → first ≤ length events
    → IsIndexOf names (take first events) p → HasRoomForAll names events p → Refills names first going events first 0 first p
refills_first names first going events p within index room = record {
  done = take first events;
  index = index;
  count = sym (length-take-le first events (omega (arith, within)));
  few = omega arith;
  whole = refl;
  room = subst (λ l. HasRoomForAll names l p) (sym (take-append-drop first events)) room;
}

none_behind : (n : ℕ) (events : List Event) → length events ≤ n → drop n events ≡ []
none_behind zero [] h = refl
none_behind zero (e ∷ es) h = absurd (omega (arith, h))
none_behind (suc n) [] h = refl
none_behind (suc n) (e ∷ es) h = none_behind n es (omega (arith, h))

pub refills_last : (names : List Name) (first : ℕ) (going : List ℕ) (events : List Event) (at next place : ℕ) (p : Places) → length events ≤ at
    → Refills names first going events at next place p
    → IsIndexOf names (take first events ++ left_from first going (drop first events)) p
refills_last names first going events at next place p past r =
    subst (λ l. IsIndexOf names l p)
    (sym (append-nil r.done) ∙ ap (λ l. r.done ++ left_from at (drop next going) l) (sym (none_behind at events past)) ∙ r.whole)
    r.index
