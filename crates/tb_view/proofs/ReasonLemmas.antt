-- The lines of immediate needs.
use Rattle.std.proofs.Common.{◌≡◌, ◌<◌, ℕ, suc, List, [], ◌∷◌, ◌++◌, false, cond, map, reverse, length, take, drop, refl, sym, ap, ap₂, ◌∙◌, Some, get_or}
use Rattle.std.proofs.lemmas.Bool.{or_parts}
use Rattle.tb_model.specs.declared.action.Action.{Action}
use Rattle.tb_model.specs.declared.event.Event.{Event}
use Rattle.tb_model.specs.declared.step_id.StepId.{StepId}
use Rattle.tb_model.specs.Equivalent.{stands}
use Rattle.tb_model.specs.Facts.{History}
use Rattle.tb_model.specs.Names.{Name}
use Rattle.tb_model.specs.Needs.{is_step, step_of}
use Rattle.tb_model.specs.Program.{Program}
use Rattle.tb_model.proofs.LeastLemmas.{later_not_step}
use Rattle.tb_model.proofs.RemovalLemmas.{its_step}
use Rattle.tb_steps.specs.Entries.{Entry, departure}
use Rattle.tb_steps.specs.Scans.{history_of, step_at}
use Rattle.tb_core.specs.Seen.{Seen, history as events}
use Rattle.tb_steps.proofs.FirstLemmas.{some_same, step_read}
use Rattle.tb_core.proofs.RenumberLemmas.{some_entry}
use Rattle.tb_steps.proofs.ScanLemmas.{history_cut}
use Rattle.tb_live.specs.Session.{Session, history}
use Rattle.tb_races.specs.declared.cause.Cause.{Cause}
use Rattle.tb_races.specs.Immediate.{immediate_of}
use Rattle.tb_view.specs.Lines.{event_line}
use Rattle.tb_view.specs.Reasons.{line_of, causes_text}
use Rattle.tb_view.proofs.ShownLemmas.{entries_are}

line_here : (P : Program) (v : Event) (later front : History) → line_of P (step_of front v) (later ++ v ∷ front) ≡ event_line P (step_of front v) v
line_here P v [] front = ap (λ b. cond b (event_line P (step_of front v) v) (line_of P (step_of front v) front)) (its_step front v)
line_here P v (w ∷ later) front =
    ap (λ b. cond b (event_line P (step_of front v) w) (line_of P (step_of front v) (later ++ v ∷ front))) (later_not_step v front later w)
    ∙ line_here P v later front

-- the stored step at its index has its line
line_found : (P : Program) (entries : List Entry) (at : ℕ) (x : Entry) (i : StepId) → at < length entries → x ≡ get_or entries at x → step_at entries at ≡ Some i → line_of P i (history_of entries) ≡ event_line P i x.event
line_found P entries at x i within here is =
    let F = history_of (take at entries) in
    let same = some_same _ _ (sym (step_read entries at x within here) ∙ is) in
    ap₂ (line_of P) (sym same) (history_cut entries at x within here)
    ∙ line_here P x.event (history_of (drop (suc at) entries)) F
    ∙ ap (λ j. event_line P j x.event) same

-- the line of the step at an index, by the task and the action that are read there
pub line_read : (P : Program) (entries : List Entry) (at : ℕ) (i : StepId) (t : Name) (a : Action) → at < length entries → step_at entries at ≡ Some i
    → ((x : Entry) → x ≡ get_or entries at x → t ≡ x.event.task) → ((x : Entry) → x ≡ get_or entries at x → a ≡ x.event.action)
    → event_line P (record { task = t; k = i.k }) (record { task = t; action = a }) ≡ line_of P i (history_of entries)
line_read P entries at i t a within is task action =
    let w = some_entry entries at within in
    let x = w.0 in
    let mine = ap (λ (j : StepId). j.task) (some_same _ _ (sym (step_read entries at x within w.1) ∙ is)) in
    ap₂ (λ (u : Name) (b : Action). event_line P (record { task = u; k = i.k }) (record { task = u; action = b })) (task x w.1) (action x w.1)
    ∙ ap (λ (u : Name). event_line P (record { task = u; k = i.k }) x.event) mine
    ∙ sym (line_found P entries at x i within w.1 is)

-- a step that isn't there has none
pub line_missing : (P : Program) (i : StepId) (H : History) → stands i H ≡ false → line_of P i H ≡ []
line_missing P i [] h = refl
line_missing P i (v ∷ H) h =
    let o = or_parts (is_step i H v) (stands i H) h in
    ap (λ b. cond b (event_line P i v) (line_of P i H)) o.0 ∙ line_missing P i H o.1

-- what is written of the stored steps is what the session shows
module _ (s : Session) (run : Seen) (entries : List Entry) (leaves : events run ≡ history s) (shows : map departure (reverse entries) ≡ run.steps) (id : StepId) (items seen : List Cause)
    (are : items ≡ reverse (immediate_of id (events run))) (all : seen ≡ items) where
  pub causes_shown : (P : Program) → P ≡ s.program → causes_text P (history_of entries) seen ≡ causes_text s.program (history s) (reverse (immediate_of id (history s)))
  causes_shown P program =
      ap (λ (Q : Program). causes_text Q (history_of entries) seen) program
      ∙ ap₂ (λ H S. causes_text s.program H S) (entries_are s run entries leaves shows) (all ∙ are ∙ ap (λ H. reverse (immediate_of id H)) leaves)
