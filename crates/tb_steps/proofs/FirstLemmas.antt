-- The earliest stored step that needs another, as a scan of the stored steps after it finds it.
use Rattle.std.proofs.Common.{◌≡◌, ◌<◌, ◌+◌, ℕ, suc, List, [], ◌∷◌, ◌++◌, Bool, true, false, refl, sym, ap, ap₂, ◌∙◌, subst, length, take, drop, Option, Some, None, arith, get_or, if◌then◌else◌, ⊎_elim}
use Rattle.std.proofs.lemmas.Option.{slice_get_read, slice_get_cases}
use Rattle.std.proofs.lemmas.List.{get_or-take, length-take, take-take}
use Rattle.tb_model.specs.declared.step_id.StepId.{StepId}
use Rattle.tb_model.specs.Facts.{History}
use Rattle.tb_model.specs.Legal.{Cells, Legal}
use Rattle.tb_model.specs.Needs.{needs, step_of}
use Rattle.tb_model.specs.Needers.{first_needer}
use Rattle.tb_laws.proofs.NeedersLemmas.{none_here, next_needer, needer_stays}
use Rattle.tb_steps.specs.Entries.{Entry}
use Rattle.tb_steps.specs.Scans.{AreLegal, history_of, step_behind, step_at}
use Rattle.tb_steps.proofs.ScanLemmas.{history_cut, history_more}

-- ---- a legal history is legal up to each stored step

pub legal_front : (cells : Cells) (later front : History) → Legal cells (later ++ front) → Legal cells front
legal_front cells [] front l = l
legal_front cells (v ∷ later) front l = legal_front cells later front l.0

-- up to a stored step and with it
pub legal_to : (cells : Cells) (entries : List Entry) (at : ℕ) (e : Entry) → at < length entries → e ≡ get_or entries at e → Legal cells (history_of entries) → Legal cells (e.event ∷ history_of (take at entries))
legal_to cells entries at e within here l = legal_front cells (history_of (drop (suc at) entries)) (e.event ∷ history_of (take at entries)) (subst (Legal cells) (history_cut entries at e within here) l)

pub front_legal : (entries : List Entry) (at : ℕ) (e : Entry) → at < length entries → e ≡ get_or entries at e → AreLegal entries → AreLegal (take at entries)
front_legal entries at e within here l = record { cells = l.cells; legal = (legal_to l.cells entries at e within here l.legal).0 }

-- ---- the step at an index

pub there : (entries : List Entry) (at : ℕ) → at < length entries → (e : Entry) × (e ≡ get_or entries at e)
there entries at within =
    ⊎_elim (λ found. (found.0, sym found.3)) (λ past. absurd (omega (arith, past.0))) (slice_get_cases entries at).1

pub step_read : (entries : List Entry) (at : ℕ) (e : Entry) → at < length entries → e ≡ get_or entries at e → step_at entries at ≡ Some (step_of (history_of (take at entries)) e.event)
step_read entries at e within here = ap (step_behind (take at entries)) (slice_get_read entries (length entries) at e refl within here)

pub some_same : {A : Type 0} (x y : A) → ◌≡◌ {A = Option A} (Some x) (Some y) → x ≡ y
some_same x y e = cc

the_step_at : (entries : List Entry) (at : ℕ) (e : Entry) (id : StepId) → at < length entries → e ≡ get_or entries at e → step_at entries at ≡ Some id → step_of (history_of (take at entries)) e.event ≡ id
the_step_at entries at e id within here h = some_same _ _ (sym (step_read entries at e within here) ∙ h)

-- ---- the earliest that needs it

-- up to itself there is none
pub none_yet : (entries : List Entry) (at : ℕ) (id : StepId) → at < length entries → step_at entries at ≡ Some id → first_needer id (history_of (take (at + 1) entries)) ≡ None
none_yet entries at id within h =
    let e = there entries at within in
    let front = history_of (take at entries) in
    ap (first_needer id) (history_more entries at e.0 within e.1)
    ∙ ap (λ i. first_needer i (e.0.event ∷ front)) (sym (the_step_at entries at e.0 id within e.1 h))
    ∙ none_here e.0.event front

module _ (entries : List Entry) (at later : ℕ) (u w : Entry) (id : StepId) (behind : at < later) (within : later < length entries) (first : u ≡ get_or entries at u) (here : w ≡ get_or entries later w) (step : step_at entries at ≡ Some id) (none : first_needer id (history_of (take later entries)) ≡ None) where
  abbrev front : History
  front = history_of (take later entries)

  cut : front ≡ history_of (drop (suc at) (take later entries)) ++ u.event ∷ history_of (take at entries)
  cut =
      history_cut (take later entries) at u (omega (arith, length-take later entries)) (first ∙ sym (get_or-take later entries at u behind))
      ∙ ap (λ (es : List Entry). history_of (drop (suc at) (take later entries)) ++ u.event ∷ history_of es) (take-take at later entries (omega arith))

  -- the next is the first exactly where it needs the step directly
  next : first_needer id (w.event ∷ front) ≡ (if needs front w.event u.event then Some (step_of front w.event) else None)
  next =
      let F = history_of (take at entries) in
      let b = history_of (drop (suc at) (take later entries)) in
      let same = the_step_at entries at u id (omega arith) first step in
      let before : first_needer (step_of F u.event) (b ++ u.event ∷ F) ≡ None = ap₂ first_needer same (sym cut) ∙ none in
      subst (λ H. first_needer id (w.event ∷ H) ≡ (if needs H w.event u.event then Some (step_of H w.event) else None)) (sym cut)
      (subst (λ i. first_needer i (w.event ∷ (b ++ u.event ∷ F)) ≡ (if needs (b ++ u.event ∷ F) w.event u.event then Some (step_of (b ++ u.event ∷ F) w.event) else None)) same
      (next_needer u.event F b w.event before))

  -- the test, as it is made of the stored steps
  abbrev IsTold : Bool → Type 0
  IsTold b = (x y : Entry) → x ≡ get_or entries later x → y ≡ get_or entries at y → b ≡ needs front x.event y.event

  tested : (b : Bool) → AreLegal entries → IsTold b → first_needer id (w.event ∷ front) ≡ (if b then Some (step_of front w.event) else None)
  tested b legal told =
      next ∙ ap (λ c. if c then Some (step_of front w.event) else None) (sym (told w u here first))

  -- one stored step more
  pub none_next : (b : Bool) → AreLegal entries → IsTold b → b ≡ false → first_needer id (history_of (take (later + 1) entries)) ≡ None
  none_next b legal told h =
      ap (first_needer id) (history_more entries later w within here) ∙ tested b legal told ∙ ap (λ c. if c then Some (step_of front w.event) else None) h

  -- the one that was found
  pub found_first : (b : Bool) → AreLegal entries → IsTold b → b ≡ true → step_at entries later ≡ first_needer id (history_of entries)
  found_first b legal told h =
      step_read entries later w within here
      ∙ sym (ap (first_needer id) (history_cut entries later w within here)
      ∙ needer_stays id (history_of (drop (suc later) entries)) (w.event ∷ front) (step_of front w.event) (tested b legal told ∙ ap (λ c. if c then Some (step_of front w.event) else None) h))
