-- A step is found among the stored steps of a core, and taken out of them where nothing needs it.
use Rattle.std.proofs.Common.{◌≡◌, ◌<◌, ℕ, suc, List, [], ◌∷◌, ◌++◌, length, map, take, drop, reverse, get_or, refl, sym, ap, ap₂, ◌∙◌, subst, arith, append_assoc, Some, IsTrue}
use Rattle.std.specs.List.{remove}
use Rattle.std.proofs.Math.Seq.{split_at}
use Rattle.std.proofs.lemmas.List.{reverse-append, length-map, length-reverse, length-append, length-take-le, get_or_default}
use Rattle.std.proofs.lemmas.Option.{slice_get-get_or}
use Rattle.tb_model.specs.declared.step_id.StepId.{StepId}
use Rattle.tb_model.specs.Names.{Name}
use Rattle.tb_model.specs.Legal.{Cells, Legal, MayFollow}
use Rattle.tb_model.specs.Alike.{Alike}
use Rattle.tb_model.specs.Lines.{Departure, events_of}
use Rattle.tb_model.specs.Needs.{step_of}
use Rattle.tb_model.specs.Needers.{first_needer}
use Rattle.tb_model.specs.Equivalent.{Equivalent, stands}
use Rattle.tb_model.specs.Reordering.{IsUnneeded}
use Rattle.tb_laws.proofs.NeedersLemmas.{unneeded}
use Rattle.tb_model.proofs.UndoLemmas.{AreFree, single}
use Rattle.tb_model.proofs.LinesLemmas.{events_left, line_again}
use Rattle.tb_model.proofs.RemovalLemmas.{removal}
use Rattle.tb_model.proofs.ReorderingLemmas.{again}
use Rattle.tb_undo.specs.State.{Seen as Tables, IsState}
use Rattle.tb_undo.specs.Steps.{Precedes, Stands, IsWithout}
use Rattle.tb_undo.proofs.TieLemmas.{map_events}
use Rattle.tb_undo.proofs.MiddleLemmas.{lines_kept}
use Rattle.tb_core.specs.Naming.{IsLongName}
use Rattle.tb_steps.specs.Entries.{Entry, departure}
use Rattle.tb_core.specs.Packing.{replaced_in}
use Rattle.tb_steps.specs.Scans.{AreLegal, history_of, step_behind, step_at}
use Rattle.tb_core.specs.declared.removed.Removed.{Removed}
use Rattle.tb_core.specs.Seen.{Seen, history}
use Rattle.tb_core.specs.Outcomes.{IsFree, IsPlaceOfStep, TakesBack}
use Rattle.tb_core.specs.Soundness.{seen, AreRecords, IsSound}
use Rattle.tb_core.proofs.MiddleLemmas.{departures_append, records_left, record_at}

-- ---- a step that nothing needs is taken out of a history

module _ (cells : Cells) (root_line limit : ℕ) where
  abbrev run : List Departure → Seen
  run D = record { cells = cells; root_line = root_line; limit = limit; steps = D }

  abbrev gone : StepId → Departure → Removed
  gone i d = record { id = i; action = d.event.action }

  taken : (later front : List Departure) (d : Departure) → IsFree (run (later ++ d ∷ front)) (step_of (events_of front) d.event)
      → Legal cells (events_of (later ++ d ∷ front))
      → TakesBack (run (later ++ d ∷ front)) (step_of (events_of front) d.event) (run (later ++ front)) (gone (step_of (events_of front) d.event) d)
  taken later front d free legal =
      let i : StepId = step_of (events_of front) d.event in
      let D : List Departure = later ++ d ∷ front in
      let whole : events_of D ≡ events_of later ++ d.event ∷ events_of front = map_events later (d ∷ front) in
      let left : events_of (later ++ front) ≡ events_of later ++ events_of front = map_events later front in
      let u : IsUnneeded i (events_of D) = (unneeded i (events_of D) free.stands).1 free.unneeded in
      let kept = lines_kept later front d u in
      let r = again (events_of later) (events_of front) d.event (subst (IsUnneeded i) whole u) cells (subst (Legal cells) whole legal) in
      record {
        free = free;
        cells = refl;
        root_line = refl;
        limit = refl;
        steps = sym kept;
        rest = ap events_of (sym kept) ∙ events_left i D;
        id = refl;
        again = subst (λ H. MayFollow cells H d.event) (sym left) r.legal.1;
        alike = subst (λ H. Alike H (d.event ∷ events_of (later ++ front))) (sym whole) (subst (λ H. Alike (events_of later ++ d.event ∷ events_of front) (d.event ∷ H)) (sym left) r.alike);
        equivalent = subst (λ H. Equivalent H (d.event ∷ events_of (later ++ front))) (sym whole) (subst (λ H. Equivalent (events_of later ++ d.event ∷ events_of front) (d.event ∷ H)) (sym left) r.equivalent);
        line = d.to;
        lines = λ body t. line_again body t later front d (subst (IsUnneeded i) whole u);
      }

  pub taken_back : (D C later front : List Departure) (d : Departure) (i : StepId) (m : Removed) → D ≡ later ++ d ∷ front → C ≡ later ++ front
      → step_of (events_of front) d.event ≡ i → m ≡ gone i d
      → IsFree (run D) i → Legal cells (events_of D) → TakesBack (run D) i (run C) m
  taken_back D C later front d i m parts rest step is free legal =
      let X : List Departure = later ++ d ∷ front in
      let free_there = subst (λ j. IsFree (run X) j) (sym step) (subst (λ E. IsFree (run E) i) parts free) in
      let t = taken later front d free_there (subst (λ E. Legal cells (events_of E)) parts legal) in
      subst (λ n. TakesBack (run D) i (run C) n) (sym is)
      (subst (λ E. TakesBack (run D) i (run E) (gone i d)) (sym rest)
      (subst (λ E. TakesBack (run E) i (run (later ++ front)) (gone i d)) (sym parts)
      (subst (λ j. TakesBack (run X) j (run (later ++ front)) (gone j d)) step t)))

-- ---- lists cut at the same index

cut_same : {A : Type 0} (l m f g : List A) (x y : A) → length f ≡ length g → l ++ x ∷ f ≡ m ++ y ∷ g → (l ≡ m) × (x ≡ y) × (f ≡ g)
cut_same [] [] f g x y n e = (refl, cc, cc)
cut_same [] (b ∷ m) f g x y n e = absurd (omega (arith, n, ap length e, length-append m (y ∷ g)))
cut_same (a ∷ l) [] f g x y n e = absurd (omega (arith, n, ap length e, length-append l (x ∷ f)))
cut_same (a ∷ l) (b ∷ m) f g x y n e =
    let first : a ≡ b = cc in
    let r : l ++ x ∷ f ≡ m ++ y ∷ g = cc in
    let s = cut_same l m f g x y n r in
    (ap₂ (λ c k. c ∷ k) first s.0, s.1, s.2)

-- the stored steps, the newest first, cut at one of them
module _ (es : List Entry) (at : ℕ) (e : Entry) where
  abbrev later_of : List Entry
  later_of = reverse (drop (suc at) es)

  abbrev front_of : List Entry
  front_of = reverse (take at es)

  entries_cut : at < length es → e ≡ get_or es at e → reverse es ≡ later_of ++ e ∷ front_of
  entries_cut within here =
      ap reverse (split_at es at e within ∙ ap (λ x. take at es ++ x ∷ drop (suc at) es) (sym here))
      ∙ reverse-append (take at es) (e ∷ drop (suc at) es)
      ∙ ap (λ l. l ++ front_of) (reverse-append (e ∷ []) (drop (suc at) es))
      ∙ append_assoc later_of (e ∷ []) front_of

  departures_cut : at < length es → e ≡ get_or es at e → map departure (reverse es) ≡ map departure later_of ++ departure e ∷ map departure front_of
  departures_cut within here = ap (map departure) (entries_cut within here) ∙ departures_append later_of (e ∷ front_of)

  front_count : at < length es → length (map departure front_of) ≡ at
  front_count within = length-map front_of departure ∙ length-reverse (take at es) ∙ length-take-le at es (omega (arith, within))

-- ---- the index of a step

module _ (first : Cells) (root_line limit : ℕ) (es : List Entry) (i : StepId) (at : ℕ) where
  is_place : (e : Entry) → at < length es → e ≡ get_or es at e → step_of (events_of (map departure (front_of es at e))) e.event ≡ i
      → IsPlaceOfStep (seen first root_line limit (reverse es)) i at
  is_place e within here step = record {
    later = map departure (later_of es at e);
    step = departure e;
    front = map departure (front_of es at e);
    parts = departures_cut es at e within here;
    place = sym (front_count es at e within);
    id = step;
  }

  -- a stored step there is the step
  pub step_here : (e : Entry) → at < length es → e ≡ get_or es at e → IsPlaceOfStep (seen first root_line limit (reverse es)) i at
      → step_of (events_of (map departure (front_of es at e))) e.event ≡ i
  step_here e within here p =
      let c = cut_same p.later (map departure (later_of es at e)) p.front (map departure (front_of es at e)) p.step (departure e) (sym p.place ∙ sym (front_count es at e within)) (sym p.parts ∙ departures_cut es at e within here) in
      ap₂ (λ (f : List Departure) (d : Departure). step_of (events_of f) d.event) (sym c.2) (sym c.1) ∙ p.id

-- an index within the stored steps has a step
module _ (es : List Entry) (at : ℕ) (within : at < length es) where
  first_entry : (xs : List Entry) → 0 < length xs → Entry
  first_entry [] h = absurd (omega (arith, h))
  first_entry (x ∷ xs) h = x

  abbrev entry_at : Entry
  entry_at = get_or es at (first_entry es (omega (arith, within)))

  at_itself : entry_at ≡ get_or es at entry_at
  at_itself = get_or_default es at (first_entry es (omega (arith, within))) entry_at within

  step_there : step_at es at ≡ Some (step_of (history_of (take at es)) entry_at.event)
  step_there = ap (step_behind (take at es)) (slice_get-get_or es at (first_entry es (omega (arith, within))) within)

  pub some_step : (j : StepId) × (step_at es at ≡ Some j)
  some_step = (step_of (history_of (take at es)) entry_at.event, step_there)

-- the step that a scan finds has its index
pub place_told : (first : Cells) (root_line limit : ℕ) (es xs : List Entry) (i : StepId) (at : ℕ) (s : Seen) → seen first root_line limit (reverse es) ≡ s
    → xs ≡ es → at < length xs → step_at xs at ≡ Some i → IsPlaceOfStep s i at
place_told first root_line limit es xs i at s view ex inner told =
    let within : at < length es = omega (arith, inner, ap length ex) in
    let here = subst (λ l. step_at l at ≡ Some i) ex told in
    subst (λ z. IsPlaceOfStep z i at) view (is_place first root_line limit es i at (entry_at es at within) within (at_itself es at within) (inside _ _ (sym (step_there es at within) ∙ here)))
  where
    inside : (x y : StepId) → Some x ≡ Some y → x ≡ y
    inside x y h = cc

-- ---- the step is taken out

module _ (first : Cells) (root_line limit : ℕ) (es : List Entry) (tables : Tables) (i : StepId) (at : ℕ) (e : Entry) (s : Seen)
    (view : seen first root_line limit (reverse es) ≡ s) (within : at < length es) (here : e ≡ get_or es at e)
    (sound : IsSound first root_line limit (reverse es) tables) (free : IsFree s i) (place : IsPlaceOfStep s i at) where
  abbrev later : List Entry
  later = later_of es at e

  abbrev front : List Entry
  front = front_of es at e

  abbrev whole : List Departure
  whole = map departure later ++ departure e ∷ map departure front

  parts : map departure (reverse es) ≡ whole
  parts = departures_cut es at e within here

  step : step_of (events_of (map departure front)) e.event ≡ i
  step = step_here first root_line limit es i at e within here (subst (λ z. IsPlaceOfStep z i at) (sym view) place)

  free_here : IsFree (seen first root_line limit (reverse es)) i
  free_here = subst (λ z. IsFree z i) (sym view) free

  alone : IsUnneeded (step_of (events_of (map departure front)) e.event) (events_of whole)
  alone =
      subst (λ j. IsUnneeded j (events_of whole)) (sym step)
      (subst (λ D. IsUnneeded i (events_of D)) parts ((unneeded i (events_of (map departure (reverse es))) free_here.stands).1 free_here.unneeded))

  none_needs : AreFree e.event (events_of (map departure front)) (events_of (map departure later))
  none_needs =
      (single e.event (events_of (map departure front)) (events_of (map departure later))
      (subst (IsUnneeded (step_of (events_of (map departure front)) e.event)) (map_events (map departure later) (departure e ∷ map departure front)) alone)).free

  records : AreRecords first root_line (later ++ e ∷ front)
  records = subst (AreRecords first root_line) (entries_cut es at e within here) sound.records

  precedes : Precedes first root_line (map departure later) (map departure front) (departure e) (replaced_in e) tables
  precedes = record {
    legal = subst (λ D. Legal first (events_of D)) parts sound.legal;
    unneeded = alone;
    replaced = record_at first root_line later front e records;
    state = subst (λ D. IsState first root_line D tables) parts sound.state;
  }

  -- the tables may take it back
  pub stands_there : Stands tables e.event (replaced_in e)
  stands_there = (first, root_line, map departure later, map departure front, e.to, precedes)

  module _ (left : List Entry) (rest : left ≡ remove es at) where
    entries_left : reverse left ≡ later ++ front
    entries_left = ap reverse rest ∙ reverse-append (take at es) (drop (suc at) es)

    steps_left : map departure (reverse left) ≡ map departure later ++ map departure front
    steps_left = ap (map departure) entries_left ∙ departures_append later front

    -- what the core answers
    taken_out : (m : Removed) → m ≡ gone first root_line limit i (departure e)
        → TakesBack (seen first root_line limit (reverse es)) i (seen first root_line limit (reverse left)) m
    taken_out m is =
        taken_back first root_line limit (map departure (reverse es)) (map departure (reverse left)) (map departure later) (map departure front) (departure e) i m parts steps_left step is free_here sound.legal

    abbrev with_task : Name → Removed
    with_task t = record { id = record { task = t; k = i.k }; action = e.event.action }

    pub takes_back : TakesBack s i (seen first root_line limit (reverse left)) (record { id = record { task = e.event.task; k = i.k }; action = e.event.action })
    takes_back =
        subst (λ z. TakesBack z i (seen first root_line limit (reverse left)) (with_task e.event.task)) view
        (taken_out (with_task e.event.task) (ap with_task (ap (λ (j : StepId). j.task) step)))

    -- what is left is sound
    pub left_sound : (new : Tables) → IsWithout tables e.event (replaced_in e) new → IsSound first root_line limit (reverse left) new
    left_sound new w = record {
      legal = subst (Legal first) (sym (taken_out (gone first root_line limit i (departure e)) refl).rest) (removal first i (events_of (map departure (reverse es))) sound.legal);
      records = subst (AreRecords first root_line) (sym entries_left) (records_left first root_line later front e records none_needs);
      state = subst (λ D. IsState first root_line D new) (sym steps_left) (w first root_line (map departure later) (map departure front) e.to precedes);
      within = omega (arith, ap length entries_left, length-append later front, ap length (entries_cut es at e within here), length-append later (e ∷ front), sound.within);
      bound = sound.bound;
    }

-- the index is one of the stored steps
pub place_within : (first : Cells) (root_line limit : ℕ) (es : List Entry) (i : StepId) (at : ℕ) (s : Seen) → seen first root_line limit (reverse es) ≡ s
    → IsPlaceOfStep s i at → at < length es
place_within first root_line limit es i at s view place =
    let p = subst (λ z. IsPlaceOfStep z i at) (sym view) place in
    omega (arith, p.place, ap length p.parts, length-append p.later (p.step ∷ p.front), length-map (reverse es) departure, length-reverse es)

-- a step that is needed is there, and what needs it has a name
pub needed : (first : Cells) (root_line limit : ℕ) (es xs ys : List Entry) (i : StepId) (at by : ℕ) (s : Seen) → seen first root_line limit (reverse es) ≡ s
    → Legal first (history_of es) → xs ≡ es → ys ≡ es
    → IsTrue (stands i (history_of xs)) → step_at xs at ≡ Some i → ((j : StepId) → AreLegal ys → step_at ys at ≡ Some j → step_at ys by ≡ first_needer j (history_of ys)) → by < length ys → ((j : StepId) → step_at ys by ≡ Some j → IsLongName j.task)
    → IsTrue (stands i (history s)) × ((j : StepId) × (first_needer i (history s) ≡ Some j) × IsLongName j.task)
needed first root_line limit es xs ys i at by s view legal ex ey there told needer within long =
    let some = some_step es by (omega (arith, within, ap length ey)) in
    let found = subst (λ l. (j : StepId) → AreLegal l → step_at l at ≡ Some j → step_at l by ≡ first_needer j (history_of l)) ey needer in
    let here = subst (λ l. step_at l at ≡ Some i) ex told in (
      subst (λ z. IsTrue (stands i (history z))) view (subst (λ l. IsTrue (stands i (history_of l))) ex there),
      (some.0, subst (λ z. first_needer i (history z) ≡ Some some.0) view (sym (found i (record { cells = first; legal = legal }) here) ∙ some.1), long some.0 (subst (λ l. step_at l by ≡ Some some.0) (sym ey) some.1)),
    )
