-- The pass that finds what needs a step.
use Rattle.std.proofs.Common.{◌≡◌, ◌<◌, ◌≤◌, ◌+◌, ℕ, suc, List, [], ◌∷◌, ◌++◌, Bool, true, false, ◌||◌, ⊎_elim, length, map, take, reverse, refl, sym, ap, ap₂, ◌∙◌, subst, arith, Some, Option, get_or, slice_get, append_assoc, ne_eqb}
use Rattle.std.specs.List.{list_any, All}
use Rattle.std.specs.Option.{option_to_list}
use Rattle.std.proofs.lemmas.Bool.{and_right}
use Rattle.std.proofs.lemmas.List.{length-map, map-append, length-reverse, length-take-le, reverse-append, take_all}
use Rattle.std.proofs.lemmas.List.Elements.{All-push}
use Rattle.std.proofs.lemmas.List.Sorted.{list_any-IsPermutation, IsPermutation-reverse}
use Rattle.std.proofs.lemmas.Option.{slice_get_read, slice_get_cases}
use Rattle.tb_model.specs.declared.step_id.StepId.{StepId}
use Rattle.tb_model.specs.Facts.{History, is_of, own, prepend_if}
use Rattle.tb_model.specs.Lines.{Departure}
use Rattle.tb_model.specs.Needs.{needs, is_step, step_of, removed, is_removed}
use Rattle.tb_model.proofs.FactsLemmas.{own_mine}
use Rattle.tb_model.proofs.LeastLemmas.{gone_here}
use Rattle.tb_model.proofs.RemovalLemmas.{own_grows, removed_none}
use Rattle.tb_model.proofs.TestLemmas.{same_refl}
use Rattle.tb_steps.specs.Entries.{Entry, departure}
use Rattle.tb_core.specs.Rolled.{removed_places, removed_steps}
use Rattle.tb_steps.specs.Scans.{history_of, step_at}
use Rattle.tb_steps.proofs.FirstLemmas.{some_same, step_read, there}
use Rattle.tb_steps.proofs.ScanLemmas.{count_front, history_more}
use Rattle.tb_cause.specs.declared.cone.Cone.{Cone}
use Rattle.tb_cause.specs.Chains.{AreAllFound, IsCone, events_at}

-- ---- what is found so far

-- of the stored steps in front of later, these are e and all that need it; e is among them
pub record Found (e : StepId) (entries : List Entry) (later : ℕ) (places : List ℕ) : Type 0 where
  pub their_places : places ≡ reverse (removed_places e (history_of (take later entries)))
  pub their_names : map (step_at entries) places ≡ map (λ (s : StepId). Some s) (reverse (removed_steps e (history_of (take later entries))))
  pub their_events : events_at entries places ≡ reverse (removed e (history_of (take later entries)))
  pub past : e.k ≤ length (own e.task (history_of (take later entries)))

pub events_pushed : (entries : List Entry) (places : List ℕ) (p : ℕ) (e : Entry) → p < length entries → e ≡ get_or entries p e → events_at entries (places ++ p ∷ []) ≡ events_at entries places ++ e.event ∷ []
events_pushed entries [] p e within here =
    ap (λ (o : Option Entry). map (λ (x : Entry). x.event) (option_to_list o) ++ []) (slice_get_read entries (length entries) p e refl within here)
events_pushed entries (q ∷ places) p e within here =
    let before = map (λ (x : Entry). x.event) (option_to_list (slice_get entries q)) in
    ap (λ H. before ++ H) (events_pushed entries places p e within here) ∙ sym (append_assoc before (events_at entries places) (e.event ∷ []))

-- in front of the step nothing goes
pub none_in_front : (e : StepId) (H : History) → removed e H ≡ [] → (removed_places e H ≡ []) × (removed_steps e H ≡ [])
none_in_front e [] h = (refl, refl)
none_in_front e (v ∷ H) h = at (is_removed e H v) h (none_in_front e H)
  where
    no_cons : (R : History) → v ∷ R ≡ [] → ⊥
    no_cons R z = cc

    at : (b : Bool) → prepend_if b v (removed e H) ≡ [] → (removed e H ≡ [] → (removed_places e H ≡ []) × (removed_steps e H ≡ []))
        → (prepend_if b (length H) (removed_places e H) ≡ []) × (prepend_if b (step_of H v) (removed_steps e H) ≡ [])
    at true z more = absurd (no_cons (removed e H) z)
    at false z more = more z

module _ (entries : List Entry) (at : ℕ) (u : Entry) (within : at < length entries) (here : u ≡ get_or entries at u) where
  abbrev F : History
  F = history_of (take at entries)

  abbrev itself : StepId
  itself = step_of F u.event

  none : removed itself F ≡ []
  none = removed_none itself F (omega arith)

  found_itself : Found itself entries (at + 1) (at ∷ [])
  found_itself = record {
    their_places = places_are ∙ ap (λ H. reverse (removed_places itself H)) (sym more);
    their_names = ap (λ (o : Option StepId). o ∷ []) (step_read entries at u within here) ∙ ap (map (λ (s : StepId). Some s)) (steps_are ∙ ap (λ H. reverse (removed_steps itself H)) (sym more));
    their_events = events_pushed entries [] at u within here ∙ events_are ∙ ap (λ H. reverse (removed itself H)) (sym more);
    past = subst (λ H. itself.k ≤ length (own itself.task H)) (sym more) (omega (arith, ap length (own_mine u.event.task u.event F (same_refl u.event.task))));
  }
    where
      more : history_of (take (at + 1) entries) ≡ u.event ∷ F
      more = history_more entries at u within here

      g : is_removed itself F u.event ≡ true
      g = gone_here u.event F

      places_are : at ∷ [] ≡ reverse (removed_places itself (u.event ∷ F))
      places_are =
          sym (ap₂ (λ b P. reverse (prepend_if b (length F) P)) g (none_in_front itself F none).0 ∙ ap (λ n. n ∷ []) (count_front entries at (omega (arith, within))))

      steps_are : itself ∷ [] ≡ reverse (removed_steps itself (u.event ∷ F))
      steps_are = sym (ap₂ (λ b P. reverse (prepend_if b itself P)) g (none_in_front itself F none).1)

      events_are : u.event ∷ [] ≡ reverse (removed itself (u.event ∷ F))
      events_are = sym (ap₂ (λ b R. reverse (prepend_if b u.event R)) g none)

-- a stored step is read alike whatever means none
pub one_entry : (entries : List Entry) (at : ℕ) (d e : Entry) → at < length entries → d ≡ get_or entries at d → e ≡ get_or entries at e → get_or entries at d ≡ e
one_entry entries at d e within first second =
    sym first ∙ some_same d e (sym (slice_get_read entries (length entries) at d refl within first) ∙ slice_get_read entries (length entries) at e refl within second)

-- the pass begins with the step itself
pub found_first : (entries : List Entry) (at : ℕ) (e : StepId) → at < length entries → step_at entries at ≡ Some e → (places : List ℕ) → places ≡ at ∷ [] → Found e entries (at + 1) places
found_first entries at e within is places one_place =
    let u = there entries at within in
    let same = some_same _ _ (sym (step_read entries at u.0 within u.1) ∙ is) in
    let found = subst (λ i. Found i entries (at + 1) (at ∷ [])) same (found_itself entries at u.0 within u.1) in
    subst (λ p. Found e entries (at + 1) p) (sym one_place) found

-- one stored step more
module _ (e : StepId) (entries : List Entry) (later : ℕ) (places : List ℕ) (w : Entry) (within : later < length entries) (here : w ≡ get_or entries later w) (so_far : Found e entries later places) where
  abbrev H : History
  H = history_of (take later entries)

  more : history_of (take (later + 1) entries) ≡ w.event ∷ H
  more = history_more entries later w within here

  other : is_step e H w.event ≡ false
  other = and_right (is_of e.task w.event) _ (ne_eqb e.k (suc (length (own e.task H))) (λ z. omega (arith, z, so_far.past)))

  goes : (b : Bool) → list_any (needs H w.event) (events_at entries places) ≡ b → is_removed e H w.event ≡ b
  goes b h =
      ap₂ (λ c R. c || R) other
      (list_any-IsPermutation (needs H w.event) (removed e H) (reverse (removed e H)) (IsPermutation-reverse (removed e H))
      ∙ ap (list_any (needs H w.event)) (sym so_far.their_events) ∙ h)

  past_on : e.k ≤ length (own e.task (history_of (take (later + 1) entries)))
  past_on = subst (λ X. e.k ≤ length (own e.task X)) (sym more) (omega (arith, so_far.past, own_grows e.task w.event H))

  pub found_same : list_any (needs H w.event) (events_at entries places) ≡ false → (places' : List ℕ) → places' ≡ places → Found e entries (later + 1) places'
  found_same h places' same_places =
      let g = goes false h in record {
        their_places = same_places ∙ so_far.their_places ∙ ap (λ b. reverse (prepend_if b (length H) (removed_places e H))) (sym g) ∙ ap (λ X. reverse (removed_places e X)) (sym more);
        their_names =
            ap (map (step_at entries)) same_places ∙ so_far.their_names
            ∙ ap (map (λ (s : StepId). Some s)) (ap (λ b. reverse (prepend_if b (step_of H w.event) (removed_steps e H))) (sym g) ∙ ap (λ X. reverse (removed_steps e X)) (sym more));
        their_events = ap (events_at entries) same_places ∙ so_far.their_events ∙ ap (λ b. reverse (prepend_if b w.event (removed e H))) (sym g) ∙ ap (λ X. reverse (removed e X)) (sym more);
        past = past_on;
      }

  pub found_more : list_any (needs H w.event) (events_at entries places) ≡ true → (places' : List ℕ) → places' ≡ places ++ later ∷ [] → Found e entries (later + 1) places'
  found_more h places' with_place =
      let g = goes true h in
      let name : StepId = step_of H w.event in record {
        their_places =
            with_place ∙ ap₂ (λ P n. P ++ n ∷ []) so_far.their_places (sym (count_front entries later (omega (arith, within)))) ∙ sym (reverse-append (length H ∷ []) (removed_places e H))
            ∙ ap (λ b. reverse (prepend_if b (length H) (removed_places e H))) (sym g) ∙ ap (λ X. reverse (removed_places e X)) (sym more);
        their_names =
            ap (map (step_at entries)) with_place ∙ map-append (step_at entries) places (later ∷ [])
            ∙ ap₂ (λ N (o : Option StepId). N ++ o ∷ []) so_far.their_names (step_read entries later w within here)
            ∙ sym (map-append (λ (s : StepId). Some s) (reverse (removed_steps e H)) (name ∷ []))
            ∙ ap (map (λ (s : StepId). Some s))
            (sym (reverse-append (name ∷ []) (removed_steps e H))
            ∙ ap (λ b. reverse (prepend_if b name (removed_steps e H))) (sym g) ∙ ap (λ X. reverse (removed_steps e X)) (sym more));
        their_events =
            ap (events_at entries) with_place ∙ events_pushed entries places later w within here ∙ ap (λ R. R ++ w.event ∷ []) so_far.their_events ∙ sym (reverse-append (w.event ∷ []) (removed e H))
            ∙ ap (λ b. reverse (prepend_if b w.event (removed e H))) (sym g) ∙ ap (λ X. reverse (removed e X)) (sym more);
        past = past_on;
      }

pub somes_same : (xs ys : List StepId) → map (λ (x : StepId). Some x) xs ≡ map (λ (y : StepId). Some y) ys → xs ≡ ys
somes_same [] [] h = refl
somes_same [] (y ∷ ys) h = absurd (no h)
  where
    no : ◌≡◌ {A = List (Option StepId)} [] (Some y ∷ map (λ (z : StepId). Some z) ys) → ⊥
    no h = cc
somes_same (x ∷ xs) [] h = absurd (no h)
  where
    no : ◌≡◌ {A = List (Option StepId)} (Some x ∷ map (λ (z : StepId). Some z) xs) [] → ⊥
    no h = cc
somes_same (x ∷ xs) (y ∷ ys) h = ap₂ (λ (z : StepId) zs. z ∷ zs) (some_same x y (first (Some x) (Some y) (map (λ (z : StepId). Some z) xs) (map (λ (z : StepId). Some z) ys) h)) (somes_same xs ys (rest (Some x) (Some y) (map (λ (z : StepId). Some z) xs) (map (λ (z : StepId). Some z) ys) h))
  where
    first : (a b : Option StepId) (ones others : List (Option StepId)) → a ∷ ones ≡ b ∷ others → a ≡ b
    first a b ones others h = cc

    rest : (a b : Option StepId) (ones others : List (Option StepId)) → a ∷ ones ≡ b ∷ others → ones ≡ others
    rest a b ones others h = cc

-- the pass ends with all
pub found_all : (e : StepId) (entries : List Entry) (later : ℕ) (places : List ℕ) → later ≡ length entries → Found e entries later places → AreAllFound e entries places
found_all e entries later places end found =
    let all : take later entries ≡ entries = ap (λ n. take n entries) end ∙ take_all (length entries) entries (omega arith) in record {
      places = found.their_places ∙ ap (λ X. reverse (removed_places e (history_of X))) all;
      names = found.their_names ∙ ap (λ X. map (λ (s : StepId). Some s) (reverse (removed_steps e (history_of X)))) all;
    }

-- named, they are the dependents
pub named_cone : (e : StepId) (entries : List Entry) (c : Cone) → AreAllFound e entries c.places.items → map (λ (s : StepId). Some s) c.steps.items ≡ map (step_at entries) c.places.items → IsCone e (history_of entries) c
named_cone e entries c found named = record {
  places = found.places;
  steps = somes_same c.steps.items (reverse (removed_steps e (history_of entries))) (named ∙ found.names);
}

pub all_pushed : (P : ℕ → Type 0) (xs xs' : List ℕ) (x : ℕ) → xs' ≡ xs ++ x ∷ [] → All P xs → P x → All P xs'
all_pushed P xs xs' x same a p = subst (All P) (sym same) (All-push P xs x a p)

-- steps with the same fields are one
pub same_step : (i j : StepId) → (i.task ≡ j.task) × (i.k ≡ j.k) → i ≡ j
same_step i j h = λ x. record { task = h.0 x; k = h.1 x }
