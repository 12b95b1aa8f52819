-- A rollback is prepared once all memory for it is taken, and returns the chosen step first.
use Rattle.std.proofs.Common.{◌≡◌, ◌≤◌, ◌+◌, ◌-◌, ℕ, List, [], ◌∷◌, ◌++◌, Bool, true, false, IsTrue, length, map, reverse, refl, sym, ap, ◌∙◌, arith}
use Rattle.std.specs.List.{All}
use Rattle.std.proofs.lemmas.List.{length-map, length-reverse, reverse-append, map-append}
use Rattle.std.proofs.lemmas.List.Elements.{All-weaker}
use Rattle.tb_model.specs.declared.action.Action.{Action}
use Rattle.tb_model.specs.declared.step_id.StepId.{StepId}
use Rattle.tb_model.specs.Equivalent.{stands}
use Rattle.tb_model.specs.Facts.{History, prepend_if}
use Rattle.tb_model.specs.Lines.{Departure}
use Rattle.tb_model.specs.Needs.{is_removed, step_of}
use Rattle.tb_steps.specs.Entries.{Entry, departure}
use Rattle.tb_core.specs.declared.removed.Removed.{Removed}
use Rattle.tb_core.specs.declared.rollback.Rollback.{Rollback}
use Rattle.tb_core.specs.Rolled.{removed_places, removed_steps, removals, IsOfHistory}
use Rattle.tb_steps.specs.Scans.{history_of}
use Rattle.tb_core.specs.Seen.{Seen, history}
use Rattle.tb_cause.specs.declared.cone.Cone.{Cone}
use Rattle.tb_cause.specs.Chains.{IsCone}
use Rattle.tb_cause.proofs.AnswerLemmas.{chosen_first}
use Rattle.tb_roll.specs.Outcomes.{TellsFirst}

count : (entries : List Entry) → length (history_of entries) ≡ length entries
count entries =
    length-map (map departure (reverse entries)) (λ (d : Departure). d.event) ∙ length-map (reverse entries) departure ∙ length-reverse entries

pub is_of_history : (entries : List Entry) (at : ℕ) (e : StepId) (c : Cone) (r : Rollback) → IsCone e (history_of entries) c
    → r.step ≡ e → r.places ≡ c.places → r.steps ≡ c.steps → r.count ≡ length entries → IsOfHistory (history_of entries) r
is_of_history entries at e c r cone step places steps counted = record {
  places = ap (λ v. v.items) places ∙ cone.places ∙ ap (λ i. reverse (removed_places i (history_of entries))) (sym step);
  steps = ap (λ v. v.items) steps ∙ cone.steps ∙ ap (λ i. reverse (removed_steps i (history_of entries))) (sym step);
  count = counted ∙ sym (count entries);
}

-- ---- the answer

names : (e : StepId) (H : History) → map (λ (m : Removed). m.id) (removals e H) ≡ removed_steps e H
names e [] = refl
names e (v ∷ H) = at (is_removed e H v) (names e H)
  where
    at : (b : Bool) → map (λ (m : Removed). m.id) (removals e H) ≡ removed_steps e H → map (λ (m : Removed). m.id) (prepend_if b (record { id = step_of H v; action = v.action }) (removals e H)) ≡ prepend_if b (step_of H v) (removed_steps e H)
    at true h = ap (λ l. step_of H v ∷ l) h
    at false h = h

names_reversed : (l : List Removed) → map (λ (m : Removed). m.id) (reverse l) ≡ reverse (map (λ (m : Removed). m.id) l)
names_reversed [] = refl
names_reversed (m ∷ l) =
    ap (map (λ (x : Removed). x.id)) (reverse-append (m ∷ []) l) ∙ map-append (λ (x : Removed). x.id) (reverse l) (m ∷ []) ∙ ap (λ is. is ++ m.id ∷ []) (names_reversed l)
    ∙ sym (reverse-append (m.id ∷ []) (map (λ (x : Removed). x.id) l))

led : (l : List Removed) (e : StepId) (is : List StepId) → map (λ (m : Removed). m.id) l ≡ e ∷ is → (a : Action) × (others : List Removed) × (l ≡ (record { id = e; action = a }) ∷ others)
led [] e is h = absurd (none h)
  where
    none : [] ≡ e ∷ is → ⊥
    none z = cc
led (m ∷ l) e is h = (m.action, l, ap (λ i. told i ∷ l) same)
  where
    told : StepId → Removed
    told i = record { id = i; action = m.action }

    same : m.id ≡ e
    same = cc

pub tells_first : (s : Seen) (e : StepId) (answer : List Removed) → IsTrue (stands e (history s)) → answer ≡ reverse (removals e (history s)) → TellsFirst s e answer
tells_first s e answer there gone =
    let first = led answer e _
    (ap (map (λ (m : Removed). m.id)) gone ∙ names_reversed (removals e (history s)) ∙ ap reverse (names e (history s)) ∙ chosen_first e (history s) there) in record {
      stood = there;
      action = first.0;
      others = first.1;
      first = first.2;
    }
