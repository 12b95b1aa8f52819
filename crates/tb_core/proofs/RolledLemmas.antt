-- A step and all that need it are taken off the stored steps from the newest on: each then is a
-- step that nothing needs.
use Rattle.std.proofs.Common.{◌≡◌, ◌≢◌, ◌<◌, ◌≤◌, ℕ, suc, List, [], ◌∷◌, ◌++◌, Bool, true, false, not, length, map, reverse, refl, sym, ap, ap₂, ◌∙◌, subst, arith, append_assoc, append-nil, Option, Some, IsSome}
use Rattle.std.specs.Option.{option_to_list}
use Rattle.std.specs.List.{AllByRecursion}
use Rattle.std.proofs.lemmas.List.{reverse-append, reverse-reverse, length-map, length-reverse, length-append, same_from_push}
use Rattle.tb_model.specs.declared.event.Event.{Event}
use Rattle.tb_model.specs.declared.step_id.StepId.{StepId}
use Rattle.tb_model.specs.Facts.{History, prepend_if}
use Rattle.tb_model.specs.Legal.{Cells, Legal}
use Rattle.tb_model.specs.Lines.{Departure, events_of, without_lines}
use Rattle.tb_model.specs.Needs.{is_removed, step_of, kept}
use Rattle.tb_model.specs.Reordering.{IsUnneeded}
use Rattle.tb_model.proofs.LinesLemmas.{events_left}
use Rattle.tb_laws.proofs.OneByOneLemmas.{one_unneeded}
use Rattle.tb_model.proofs.RemovalLemmas.{removal}
use Rattle.tb_model.proofs.ReorderingLemmas.{undone}
use Rattle.tb_model.proofs.UndoLemmas.{single}
use Rattle.tb_undo.specs.State.{Seen as Tables, IsState}
use Rattle.tb_undo.specs.Steps.{Precedes, Stands, IsWithout}
use Rattle.tb_undo.proofs.TieLemmas.{map_events}
use Rattle.tb_steps.specs.Entries.{Entry, departure}
use Rattle.tb_core.specs.declared.removed.Removed.{Removed}
use Rattle.tb_core.specs.declared.rollback.Rollback.{Rollback}
use Rattle.tb_core.specs.Rolled.{removed_places, removed_steps, removals, IsOfHistory, RollsBack}
use Rattle.tb_core.specs.Seen.{Seen}
use Rattle.tb_core.specs.Packing.{replaced_in}
use Rattle.tb_core.specs.Soundness.{seen, IsSound}
use Rattle.tb_core.specs.Unwinding.{events, kept_entries, gone_entries, AreTied, StayTied, Unwinds, Unwound}
use Rattle.tb_core.proofs.MiddleLemmas.{departures_append, records_left, record_at}

-- ---- one stored step that goes

events_append : (later front : List Entry) → events (later ++ front) ≡ events later ++ events front
events_append later front = ap events_of (departures_append later front) ∙ map_events (map departure later) (map departure front)

-- the history of what stays
events_kept : (e : StepId) (later front : List Entry) → events (kept_entries e later front) ≡ kept e (events later) (events front)
events_kept e [] front = refl
events_kept e (w ∷ later) front =
    prepended (not (is_removed e (events (later ++ front)) w.event))
    ∙ ap₂ (λ H K. prepend_if (not (is_removed e H w.event)) w.event K) (events_append later front) (events_kept e later front)
  where
    prepended : (b : Bool) → events (prepend_if b w (kept_entries e later front)) ≡ prepend_if b w.event (events (kept_entries e later front))
    prepended true = refl
    prepended false = refl

-- a stored step of a sound list that nothing after it needs is taken out
module _ (first : Cells) (root_line limit : ℕ) (later front : List Entry) (u : Entry) (tables : Tables)
    (sound : IsSound first root_line limit (later ++ u ∷ front) tables)
    (free : IsUnneeded (step_of (events front) u.event) (events later ++ u.event ∷ events front)) where
  abbrev whole : List Departure
  whole = map departure later ++ departure u ∷ map departure front

  parts : map departure (later ++ u ∷ front) ≡ whole
  parts = departures_append later (u ∷ front)

  whole_events : events_of whole ≡ events later ++ u.event ∷ events front
  whole_events = map_events (map departure later) (departure u ∷ map departure front)

  precedes : Precedes first root_line (map departure later) (map departure front) (departure u) (replaced_in u) tables
  precedes = record {
    legal = subst (λ D. Legal first (events_of D)) parts sound.legal;
    unneeded = subst (IsUnneeded (step_of (events front) u.event)) (sym whole_events) free;
    replaced = record_at first root_line later front u sound.records;
    state = subst (λ D. IsState first root_line D tables) parts sound.state;
  }

  front_tied : Stands tables u.event (replaced_in u)
  front_tied = (first, root_line, map departure later, map departure front, u.to, precedes)

  front_sound : (new : Tables) → IsWithout tables u.event (replaced_in u) new → IsSound first root_line limit (later ++ front) new
  front_sound new w = record {
    legal =
        subst (Legal first) (undone (events later) (events front) u.event free ∙ sym (events_append later front))
        (removal first (step_of (events front) u.event) (events later ++ u.event ∷ events front) (subst (Legal first) (events_append later (u ∷ front)) sound.legal));
    records = records_left first root_line later front u sound.records (single u.event (events front) (events later) free).free;
    state = subst (λ D. IsState first root_line D new) (sym (departures_append later front)) (w first root_line (map departure later) (map departure front) u.to precedes);
    within = omega (arith, sound.within, fewer later);
    bound = sound.bound;
  }
    where
      fewer : (l : List Entry) → length (l ++ front) ≤ length (l ++ u ∷ front)
      fewer [] = omega arith
      fewer (x ∷ l) = omega (arith, fewer l)

-- ---- what is left to go

pub places_below : (e : StepId) (H : History) → AllByRecursion (λ p. p < length H) (removed_places e H)
places_below e [] = tt
places_below e (v ∷ H) = at (is_removed e H v) (raised (removed_places e H) (places_below e H))
  where
    raised : (ps : List ℕ) → AllByRecursion (λ p. p < length H) ps → AllByRecursion (λ p. p < suc (length H)) ps
    raised [] a = tt
    raised (p ∷ ps) a = (omega (arith, a.0), raised ps a.1)

    at : (b : Bool) → AllByRecursion (λ p. p < suc (length H)) (removed_places e H)
        → AllByRecursion (λ p. p < suc (length H)) (prepend_if b (length H) (removed_places e H))
    at true a = (omega arith, a)
    at false a = a

-- the greatest index that is left says whether the newest event goes
module _ (e : StepId) (v : Event) (H : History) (ps : List ℕ) (at : ℕ) (left : ps ++ at ∷ [] ≡ reverse (removed_places e (v ∷ H))) where
  abbrev rest : List ℕ
  rest = removed_places e H

  flipped : removed_places e (v ∷ H) ≡ at ∷ reverse ps
  flipped = sym (reverse-reverse (removed_places e (v ∷ H))) ∙ ap reverse (sym left) ∙ reverse-append ps (at ∷ [])

  below : rest ≡ at ∷ reverse ps → at < length H
  below h = (subst (AllByRecursion (λ p. p < length H)) h (places_below e H)).0

  here : at ≡ length H → (is_removed e H v ≡ true) × (ps ≡ reverse rest)
  here h = by (is_removed e H v) refl flipped
    where
      by : (b : Bool) → is_removed e H v ≡ b → prepend_if b (length H) rest ≡ at ∷ reverse ps → (is_removed e H v ≡ true) × (ps ≡ reverse rest)
      by true q f = let others : rest ≡ reverse ps = cc in (q, sym (ap reverse others ∙ reverse-reverse ps))
      by false q f = absurd (omega (arith, h, below f))

  elsewhere : at ≢ length H → (is_removed e H v ≡ false) × (at < length H) × (ps ++ at ∷ [] ≡ reverse rest)
  elsewhere h = by (is_removed e H v) refl flipped
    where
      first_same : (x y : ℕ) (xs ys : List ℕ) → x ∷ xs ≡ y ∷ ys → x ≡ y
      first_same x y xs ys z = cc

      by : (b : Bool) → is_removed e H v ≡ b → prepend_if b (length H) rest ≡ at ∷ reverse ps
          → (is_removed e H v ≡ false) × (at < length H) × (ps ++ at ∷ [] ≡ reverse rest)
      by true q f = absurd (h (sym (first_same (length H) at rest (reverse ps) f)))
      by false q f = (q, below f, left ∙ ap (λ b. reverse (prepend_if b (length H) rest)) q)

-- ---- nothing is taken off yet

pub first_unwinds : (r : Rollback) (old : List Entry) (qs : List ℕ) (steps : List StepId) (removed : List Removed) → IsOfHistory (events (reverse old)) r
    → removed ≡ [] → qs ≡ r.places.items → steps ≡ r.steps.items → Unwinds r.step old old [] qs steps removed
first_unwinds r old qs steps removed ready none places names = record {
  later = [];
  parts = refl;
  stay = refl;
  gone = none;
  places_left = places ∙ ready.places;
  steps_left = names ∙ ready.steps;
}

pub first_tied : (old : List Entry) (before : Tables) → StayTied (reverse old) before ([] ++ reverse old) before
first_tied old before first root_line limit s = s

-- ---- one stored step more

kept_more : (e : StepId) (later : List Entry) (u : Entry) (front : List Entry)
    → kept_entries e (later ++ u ∷ []) front ≡ kept_entries e later (u ∷ front) ++ prepend_if (not (is_removed e (events front) u.event)) u []
kept_more e [] u front = refl
kept_more e (w ∷ later) u front =
    ap₂ (λ X K. prepend_if (not (is_removed e (events X) w.event)) w K) (append_assoc later (u ∷ []) front) (kept_more e later u front)
    ∙ prepended (not (is_removed e (events (later ++ u ∷ front)) w.event))
  where
    last : List Entry
    last = prepend_if (not (is_removed e (events front) u.event)) u []

    prepended : (b : Bool) → prepend_if b w (kept_entries e later (u ∷ front) ++ last) ≡ prepend_if b w (kept_entries e later (u ∷ front)) ++ last
    prepended true = refl
    prepended false = refl

abbrev told : List Entry → Entry → Removed
told front u = record { id = step_of (events front) u.event; action = u.event.action }

gone_more : (e : StepId) (later : List Entry) (u : Entry) (front : List Entry)
    → gone_entries e (later ++ u ∷ []) front ≡ gone_entries e later (u ∷ front) ++ prepend_if (is_removed e (events front) u.event) (told front u) []
gone_more e [] u front = refl
gone_more e (w ∷ later) u front =
    ap₂ (λ X K. prepend_if (is_removed e (events X) w.event) (told X w) K) (append_assoc later (u ∷ []) front) (gone_more e later u front)
    ∙ prepended (is_removed e (events (later ++ u ∷ front)) w.event)
  where
    last : List Removed
    last = prepend_if (is_removed e (events front) u.event) (told front u) []

    prepended : (b : Bool) → prepend_if b (told (later ++ u ∷ front) w) (gone_entries e later (u ∷ front) ++ last) ≡ prepend_if b (told (later ++ u ∷ front) w) (gone_entries e later (u ∷ front)) ++ last
    prepended true = refl
    prepended false = refl

-- the newest stored step is taken off
module _ (e : StepId) (old es es' : List Entry) (o : Option Entry) (u : Entry) (off : es ≡ es' ++ option_to_list o) (got : o ≡ Some u) (kept : List Entry)
    (ps : List ℕ) (next : Option ℕ) (at : ℕ) (is : next ≡ Some at) (steps : List StepId) (removed : List Removed)
    (invariant : Unwinds e old es kept (ps ++ option_to_list next) steps removed) where
  popped : es ≡ es' ++ u ∷ []
  popped = off ∙ ap (λ x. es' ++ option_to_list x) got

  so_far : Unwinds e old es kept (ps ++ at ∷ []) steps removed
  so_far = subst (λ x. Unwinds e old es kept (ps ++ option_to_list x) steps removed) is invariant

  abbrev front : List Entry
  front = reverse es'

  newest : reverse es ≡ u ∷ front
  newest = ap reverse popped ∙ reverse-append es' (u ∷ [])

  count : length (events front) ≡ length es'
  count = length-map (map departure front) (λ (d : Departure). d.event) ∙ length-map front departure ∙ length-reverse es'

  abbrev later : List Entry
  later = so_far.later

  parts_on : reverse old ≡ (later ++ u ∷ []) ++ front
  parts_on = so_far.parts ∙ ap (λ X. later ++ X) newest ∙ sym (append_assoc later (u ∷ []) front)

  places_here : ps ++ at ∷ [] ≡ reverse (removed_places e (u.event ∷ events front))
  places_here = so_far.places_left ∙ ap (λ X. reverse (removed_places e (events X))) newest

  stay_here : kept ≡ kept_entries e later (u ∷ front)
  stay_here = so_far.stay ∙ ap (kept_entries e later) newest

  gone_here : removed ≡ gone_entries e later (u ∷ front)
  gone_here = so_far.gone ∙ ap (gone_entries e later) newest

  steps_here : steps ≡ reverse (removed_steps e (u.event ∷ events front))
  steps_here = so_far.steps_left ∙ ap (λ X. reverse (removed_steps e (events X))) newest

  -- it stays
  module _ (other : length es' ≢ at) where
    abbrev tells : (is_removed e (events front) u.event ≡ false) × (at < length (events front)) × (ps ++ at ∷ [] ≡ reverse (removed_places e (events front)))
    tells = elsewhere e u.event (events front) ps at places_here (λ z. other (sym (z ∙ count)))

    pub stays_behind : at < length es'
    stays_behind = omega (arith, tells.1, count)

    pub stays : (kept' : List Entry) → kept' ≡ kept ++ u ∷ [] → Unwinds e old es' kept' (ps ++ at ∷ []) steps removed
    stays kept' more = record {
      later = later ++ u ∷ [];
      parts = parts_on;
      stay = more ∙ ap (λ X. X ++ u ∷ []) stay_here ∙ sym (kept_more e later u front ∙ ap (λ b. kept_entries e later (u ∷ front) ++ prepend_if (not b) u []) tells.0);
      gone = gone_here ∙ sym (gone_more e later u front ∙ ap (λ b. gone_entries e later (u ∷ front) ++ prepend_if b (told front u) []) tells.0 ∙ append-nil (gone_entries e later (u ∷ front)));
      places_left = tells.2;
      steps_left = steps_here ∙ ap (λ b. reverse (prepend_if b (step_of (events front) u.event) (removed_steps e (events front)))) tells.0;
    }

    pub stays_tied : (kept' : List Entry) → kept' ≡ kept ++ u ∷ [] → (before tables : Tables) → StayTied (reverse old) before (kept ++ reverse es) tables
        → StayTied (reverse old) before (kept' ++ reverse es') tables
    stays_tied kept' more before tables t first root_line limit s =
        subst (λ X. IsSound first root_line limit X tables) (ap (λ X. kept ++ X) newest ∙ sym (append_assoc kept (u ∷ []) front) ∙ ap (λ X. X ++ front) (sym more)) (t first root_line limit s)

  -- it goes
  module _ (same : length es' ≡ at) where
    abbrev tells' : (is_removed e (events front) u.event ≡ true) × (ps ≡ reverse (removed_places e (events front)))
    tells' = here e u.event (events front) ps at places_here (sym same ∙ sym count)

    pub next_step : steps ≡ reverse (removed_steps e (events front)) ++ step_of (events front) u.event ∷ []
    next_step =
        steps_here ∙ ap (λ b. reverse (prepend_if b (step_of (events front) u.event) (removed_steps e (events front)))) tells'.0
        ∙ reverse-append (step_of (events front) u.event ∷ []) (removed_steps e (events front))

    -- its name is there
    pub some_step : (steps' : List StepId) (i : Option StepId) → steps ≡ steps' ++ option_to_list i → (0 < length steps → IsSome i) → IsSome i
    some_step steps' i out tells_some = tells_some (omega (arith, ap length next_step, length-append (reverse (removed_steps e (events front))) (step_of (events front) u.event ∷ [])))

    -- and it is the step's
    pub its_name : (steps' : List StepId) (i : Option StepId) (id : StepId) → steps ≡ steps' ++ option_to_list i → i ≡ Some id
        → id ≡ step_of (events front) u.event
    its_name steps' i id out name =
        (same_from_push steps' (reverse (removed_steps e (events front))) id (step_of (events front) u.event) (sym (out ∙ ap (λ x. steps' ++ option_to_list x) name) ∙ next_step)).1

    pub goes : (steps' : List StepId) (i : Option StepId) (id : StepId) → steps ≡ steps' ++ option_to_list i → i ≡ Some id → (removed' : List Removed)
        → removed' ≡ removed ++ (record { id = id; action = u.event.action }) ∷ []
        → (ps' : List ℕ) → ps ≡ ps' → Unwinds e old es' kept ps' steps' removed'
    goes steps' i id out name removed' more ps' fewer =
        let split = out ∙ ap (λ x. steps' ++ option_to_list x) name in
        let both = same_from_push steps' (reverse (removed_steps e (events front))) id (step_of (events front) u.event) (sym split ∙ next_step) in
        record {
          later = later ++ u ∷ [];
          parts = parts_on;
          stay = stay_here ∙ sym (kept_more e later u front ∙ ap (λ b. kept_entries e later (u ∷ front) ++ prepend_if (not b) u []) tells'.0 ∙ append-nil (kept_entries e later (u ∷ front)));
          gone = more ∙ ap₂ (λ X (j : StepId). X ++ named j ∷ []) gone_here both.1 ∙ sym (gone_more e later u front ∙ ap (λ b. gone_entries e later (u ∷ front) ++ prepend_if b (told front u) []) tells'.0);
          places_left = sym fewer ∙ tells'.1;
          steps_left = both.0;
        }
      where
        named : StepId → Removed
        named j = record { id = j; action = u.event.action }

    alone : IsUnneeded (step_of (events front) u.event) (events kept ++ u.event ∷ events front)
    alone =
        subst (λ K. IsUnneeded (step_of (events front) u.event) (K ++ u.event ∷ events front)) (sym (ap events stay_here ∙ events_kept e later (u ∷ front)))
        (one_unneeded e (events later) u.event (events front) tells'.0)

    pub goes_tied : (before tables : Tables) → AreTied (reverse old) before → StayTied (reverse old) before (kept ++ reverse es) tables
        → Stands tables u.event (replaced_in u)
    goes_tied before tables (first, root_line, limit, s) t =
        front_tied first root_line limit kept front u tables (subst (λ X. IsSound first root_line limit (kept ++ X) tables) newest (t first root_line limit s)) alone

    pub gone_tied : (before tables new : Tables) → StayTied (reverse old) before (kept ++ reverse es) tables → IsWithout tables u.event (replaced_in u) new
        → StayTied (reverse old) before (kept ++ reverse es') new
    gone_tied before tables new t w first root_line limit s =
        front_sound first root_line limit kept front u tables (subst (λ X. IsSound first root_line limit (kept ++ X) tables) newest (t first root_line limit s)) alone new w

-- ---- none is left to go

no_cons : {A : Type 0} (x : A) (xs : List A) → x ∷ xs ≡ [] → ⊥
no_cons x xs z = cc

none_lines : (e : StepId) (D : List Departure) → removed_places e (events_of D) ≡ [] → without_lines e D ≡ D
none_lines e [] z = refl
none_lines e (d ∷ D) z = at (is_removed e (events_of D) d.event) z (none_lines e D)
  where
    at : (b : Bool) → prepend_if b (length (events_of D)) (removed_places e (events_of D)) ≡ []
        → (removed_places e (events_of D) ≡ [] → without_lines e D ≡ D) → prepend_if (not b) d (without_lines e D) ≡ d ∷ D
    at true z more = absurd (no_cons (length (events_of D)) (removed_places e (events_of D)) z)
    at false z more = ap (λ X. d ∷ X) (more z)

none_removed : (e : StepId) (H : History) → removed_places e H ≡ [] → removals e H ≡ []
none_removed e [] z = refl
none_removed e (v ∷ H) z = at (is_removed e H v) z (none_removed e H)
  where
    at : (b : Bool) → prepend_if b (length H) (removed_places e H) ≡ [] → (removed_places e H ≡ [] → removals e H ≡ [])
        → prepend_if b (record { id = step_of H v; action = v.action }) (removals e H) ≡ []
    at true z more = absurd (no_cons (length H) (removed_places e H) z)
    at false z more = more z

module _ (e : StepId) (front : List Entry) (none : removed_places e (events front) ≡ []) where
  lines_left : (later : List Entry) → map departure (kept_entries e later front ++ front) ≡ without_lines e (map departure (later ++ front))
  lines_left [] = sym (none_lines e (map departure front) none)
  lines_left (w ∷ behind) = at (is_removed e (events (behind ++ front)) w.event) (lines_left behind)
    where
      at : (b : Bool) → map departure (kept_entries e behind front ++ front) ≡ without_lines e (map departure (behind ++ front))
          → map departure (prepend_if (not b) w (kept_entries e behind front) ++ front) ≡ prepend_if (not b) (departure w) (without_lines e (map departure (behind ++ front)))
      at true more = more
      at false more = ap (λ D. departure w ∷ D) more

  all_gone : (later : List Entry) → gone_entries e later front ≡ removals e (events (later ++ front))
  all_gone [] = sym (none_removed e (events front) none)
  all_gone (w ∷ behind) = ap (prepend_if (is_removed e (events (behind ++ front)) w.event) (told (behind ++ front) w)) (all_gone behind)

pub unwound : (e : StepId) (old es kept : List Entry) (ps : List ℕ) (steps : List StepId) (removed : List Removed) (before tables : Tables) → ps ≡ []
    → Unwinds e old es kept ps steps removed → StayTied (reverse old) before (kept ++ reverse es) tables
    → Unwound e old before es kept tables removed
unwound e old es kept ps steps removed before tables empty u t =
    let none : removed_places e (events (reverse es)) ≡ [] = sym (reverse-reverse _) ∙ ap reverse (sym u.places_left ∙ empty) in record {
      rest = ap (λ K. map departure (K ++ reverse es)) u.stay ∙ lines_left e (reverse es) none u.later ∙ ap (λ X. without_lines e (map departure X)) (sym u.parts);
      gone = u.gone ∙ all_gone e (reverse es) none u.later ∙ ap (λ X. removals e (events X)) (sym u.parts);
      tied = t;
    }

-- ---- the stored steps are whole again

module _ (first : Cells) (root_line limit : ℕ) (es rest es' kept : List Entry) (before tables : Tables) (e : StepId) (removed : List Removed)
    (all : Unwound e es before rest kept tables removed) (put : es' ≡ rest ++ reverse kept) where
  whole_again : reverse es' ≡ kept ++ reverse rest
  whole_again = ap reverse put ∙ reverse-append rest (reverse kept) ∙ ap (λ k. k ++ reverse rest) (reverse-reverse kept)

  pub rolled_sound : IsSound first root_line limit (reverse es) before → IsSound first root_line limit (reverse es') tables
  rolled_sound s = subst (λ X. IsSound first root_line limit X tables) (sym whole_again) (all.tied first root_line limit s)

  lines_are : map departure (reverse es') ≡ without_lines e (map departure (reverse es))
  lines_are = ap (map departure) whole_again ∙ all.rest

  pub rolls_back : (s : Seen) → seen first root_line limit (reverse es) ≡ s → (answer : List Removed) → answer ≡ reverse removed
      → RollsBack s e (seen first root_line limit (reverse es')) answer
  rolls_back s view answer told_so = subst (λ z. RollsBack z e (seen first root_line limit (reverse es')) answer) view (record {
    cells = refl;
    root_line = refl;
    limit = refl;
    steps = lines_are;
    rest = ap events_of lines_are ∙ events_left e (map departure (reverse es));
    gone = told_so ∙ ap reverse all.gone;
  })
