-- The immediate needs of a step by their indexes.
use Rattle.std.proofs.Common.{◌≡◌, ◌<◌, ◌≤◌, ◌+◌, ℕ, zero, suc, List, [], ◌∷◌, ◌++◌, Bool, true, false, cond, length, map, take, reverse, get_or, is_some, Option, Some, None, refl, sym, ap, ap₂, ◌∙◌, subst, arith, ⊎_elim}
use Rattle.std.specs.List.{All}
use Rattle.std.specs.Option.{option_map, option_to_list}
use Rattle.std.proofs.lemmas.Bool.{false≢true}
use Rattle.std.proofs.lemmas.Option.{slice_get_read, slice_get_cases}
use Rattle.std.proofs.lemmas.List.{take_all}
use Rattle.indexmap.proofs.ReorderLemmas.{map-reverse}
use Rattle.tb_model.specs.declared.action.Action.{Action}
use Rattle.tb_model.specs.declared.event.Event.{Event}
use Rattle.tb_model.specs.declared.step_id.StepId.{StepId}
use Rattle.tb_model.specs.Facts.{History, prepend_if}
use Rattle.tb_model.specs.Names.{Name}
use Rattle.tb_model.specs.Needs.{step_of}
use Rattle.tb_steps.specs.Entries.{Entry}
use Rattle.tb_steps.specs.Scans.{history_of, step_at}
use Rattle.tb_steps.proofs.FirstLemmas.{some_same, step_read, there}
use Rattle.tb_steps.proofs.ScanLemmas.{count_front, history_more}
use Rattle.tb_cause.specs.Nearest.{nearest}
use Rattle.tb_races.specs.declared.cause.Cause.{Cause}
use Rattle.tb_races.specs.declared.need_kind.NeedKind.{NeedKind}
use Rattle.tb_races.specs.Immediate.{needs_by_way, cause, as_cause, immediate}
use Rattle.tb_races.specs.Kinds.{need_kind}
use Rattle.tb_order.specs.Told.{told, told_so}

abbrev some_causes : List Cause → List (Option Cause)
some_causes = map (λ (c : Cause). Some c)

list_head : {A : Type 0} (x y : A) (xs ys : List A) → x ∷ xs ≡ y ∷ ys → x ≡ y
list_head x y xs ys e = cc

list_tail : {A : Type 0} (x y : A) (xs ys : List A) → x ∷ xs ≡ y ∷ ys → xs ≡ ys
list_tail x y xs ys e = cc

not_empty : {A : Type 0} (x : A) (xs : List A) → x ∷ xs ≡ [] → ⊥
not_empty x xs e = cc

same_causes : (xs ys : List Cause) → some_causes xs ≡ some_causes ys → xs ≡ ys
same_causes [] [] h = refl
same_causes [] (y ∷ ys) h = absurd (not_empty (Some y) (some_causes ys) (sym h))
same_causes (x ∷ xs) [] h = absurd (not_empty (Some x) (some_causes xs) h)
same_causes (x ∷ xs) (y ∷ ys) h =
    ap₂ (λ c cs. c ∷ cs) (some_same x y (list_head (Some x) (Some y) (some_causes xs) (some_causes ys) h)) (same_causes xs ys (list_tail (Some x) (Some y) (some_causes xs) (some_causes ys) h))

-- an event as it is read
pub event_read : (t : Name) (a : Action) (e : Event) → t ≡ e.task → a ≡ e.action → ◌≡◌ {A = Event} (record { task = t; action = a }) e
event_read t a e task action = ap₂ (λ s b. event s b) task action
  where
    event : Name → Action → Event
    event s b = record { task = s; action = b }

module _ (front : List Entry) (v : Event) where
  abbrev F : History
  F = history_of front

  -- ---- one stored step

  module _ (p : ℕ) (x : Entry) (within : p < length front) (here : x ≡ get_or front p x) where
    abbrev K : History
    K = history_of (take p front)

    told_here : told front v p ≡ cause F v K x.event
    told_here = ap (told_so F v K) (slice_get_read front (length front) p x refl within here)

    way_of : {A B : Type 0} (f : A → B) (b : Bool) (o : Option A) → is_some (cond b None (option_map f o)) ≡ true
        → cond b None (option_map f o) ≡ option_map f o
    way_of f true o h = absurd (false≢true h)
    way_of f false o h = refl

    unmapped : {A B : Type 0} (f : A → B) (o : Option A) → is_some (option_map f o) ≡ true → is_some o ≡ true
    unmapped f (Some a) h = refl
    unmapped f None h = h

    -- a need that is immediate is a direct one
    kinded : is_some (told front v p) ≡ true → cause F v K x.event ≡ option_map (as_cause (step_of K x.event)) (need_kind F v x.event)
    kinded near = way_of (as_cause (step_of K x.event)) (needs_by_way (step_of K x.event) F v) (need_kind F v x.event) (sym (ap is_some told_here) ∙ near)

    pub has_kind : is_some (told front v p) ≡ true → is_some (need_kind F v x.event) ≡ true
    has_kind near =
        unmapped (as_cause (step_of K x.event)) (need_kind F v x.event) (ap is_some (sym (told_here ∙ kinded near)) ∙ near)

    pub told_as : is_some (told front v p) ≡ true → (kind : NeedKind) → need_kind F v x.event ≡ Some kind → (id : StepId) → step_at front p ≡ Some id
        → told front v p ≡ Some (record { kind = kind; step = id })
    told_as near kind k id named =
        told_here ∙ kinded near
        ∙ ap₂ (λ i o. option_map (as_cause i) o) (some_same _ _ (sym (step_read front p x within here) ∙ named)) k

  -- ---- all of them

  near_told : (n : ℕ) → n ≤ length front
      → map (told front v) (nearest F v (history_of (take n front))) ≡ some_causes (immediate F v (history_of (take n front)))
  near_told zero l = refl
  near_told (suc n) l =
      let w = there front n (omega (arith, l)) in
      let K = history_of (take n front) in
      let more : history_of (take (suc n) front) ≡ w.0.event ∷ K = (let e : suc n ≡ n + 1 = omega arith in ap (λ m. history_of (take m front)) e) ∙ history_more front n w.0 (omega (arith, l)) w.1 in
      ap (λ H. map (told front v) (nearest F v H)) more
      ∙ ap (λ m. map (told front v) (prepend_if (is_some (cause F v K w.0.event)) m (nearest F v K))) (count_front front n (omega (arith, l)))
      ∙ by n K (cause F v K w.0.event) (told_here n w.0 (omega (arith, l)) w.1) (near_told n (omega (arith, l)))
      ∙ sym (ap (λ H. some_causes (immediate F v H)) more)
    where
      by : (m : ℕ) (G : History) (o : Option Cause) → told front v m ≡ o → map (told front v) (nearest F v G) ≡ some_causes (immediate F v G)
          → map (told front v) (prepend_if (is_some o) m (nearest F v G)) ≡ some_causes (option_to_list o ++ immediate F v G)
      by m G (Some c) h rest = ap₂ (λ o os. o ∷ os) h rest
      by m G None h rest = rest

  pub places_told : (places : List ℕ) → places ≡ reverse (nearest F v F) → map (told front v) places ≡ some_causes (reverse (immediate F v F))
  places_told places are =
      ap (map (told front v)) are ∙ map-reverse (told front v) (nearest F v F) ∙ ap reverse whole
      ∙ sym (map-reverse (λ (c : Cause). Some c) (immediate F v F))
    where
      whole : map (told front v) (nearest F v F) ≡ some_causes (immediate F v F)
      whole = subst (λ (es : List Entry). map (told front v) (nearest F v (history_of es)) ≡ some_causes (immediate F v (history_of es))) (take_all (length front) front (omega arith)) (near_told (length front) (omega arith))

  pub causes_told : (places : List ℕ) → places ≡ reverse (nearest F v F) → (causes : List Cause) → some_causes causes ≡ map (told front v) places
      → causes ≡ reverse (immediate F v F)
  causes_told places are causes h = same_causes causes (reverse (immediate F v F)) (h ∙ places_told places are)

  -- each of them is listed
  all_some : (xs : List ℕ) (cs : List Cause) → map (told front v) xs ≡ some_causes cs → All (λ p. is_some (told front v p) ≡ true) xs
  all_some [] cs h = λ i d l. absurd (omega (arith, l))
  all_some (x ∷ xs) [] h = absurd (not_empty (told front v x) (map (told front v) xs) h)
  all_some (x ∷ xs) (c ∷ cs) h = λ i d l. at (all_some xs cs (list_tail (told front v x) (Some c) (map (told front v) xs) (some_causes cs) h)) i d l
    where
      at : All (λ p. is_some (told front v p) ≡ true) xs → (i d : ℕ) → i < length (x ∷ xs) → is_some (told front v (get_or (x ∷ xs) i d)) ≡ true
      at rest zero d l = ap is_some (list_head (told front v x) (Some c) (map (told front v) xs) (some_causes cs) h)
      at rest (suc i) d l = rest i d (omega (arith, l))

  pub places_near : (places : List ℕ) → places ≡ reverse (nearest F v F) → All (λ p. is_some (told front v p) ≡ true) places
  places_near places are = all_some places (reverse (immediate F v F)) (places_told places are)

  -- and is there
  stands_so : (p : ℕ) → is_some (told front v p) ≡ true → p < length front
  stands_so p h = ⊎_elim (λ found. found.1) (λ past. absurd (false≢true (sym (ap (λ o. is_some (told_so F v (history_of (take p front)) o)) past.1) ∙ h))) (slice_get_cases front p).1

  pub places_within : (places : List ℕ) → places ≡ reverse (nearest F v F) → All (λ p. p < length front) places
  places_within places are = λ i d l. stands_so (get_or places i d) (places_near places are i d l)
