-- What is written of the stored steps of a core is what the session shows.
use Rattle.std.proofs.Common.{◌≡◌, ℕ, List, Bool, true, false, map, reverse, refl, sym, ap, ap₂, ◌∙◌, subst, cond, Result, Ok, Err, IfOk, Some, None}
use Rattle.std.proofs.lemmas.List.{reverse-reverse}
use Rattle.tb_model.specs.declared.step_id.StepId.{StepId}
use Rattle.tb_model.specs.Equivalent.{stands}
use Rattle.tb_model.specs.Facts.{History, is_spawned}
use Rattle.tb_model.specs.Lines.{events_of}
use Rattle.tb_model.specs.Names.{Name}
use Rattle.tb_model.specs.Program.{Program}
use Rattle.tb_steps.specs.Entries.{Entry, departure}
use Rattle.tb_steps.specs.Scans.{history_of}
use Rattle.tb_core.specs.Seen.{Seen, history as events}
use Rattle.tb_live.specs.Session.{Session, history}
use Rattle.tb_view.specs.Steps.{chosen_text, AreStepsOf}
use Rattle.tb_view.specs.declared.view_refusal.ViewRefusal.TheVariants.{NoSuchTask}
use Rattle.tb_view.specs.Views.{steps_text, unless_it_stands, unless_it_is_there}

pub ok_then : {A E : Type 0} (r : Result A E) (P Q : A → Type 0) → ((x : A) → P x → Q x) → IfOk r P → IfOk r Q
ok_then (Ok x) P Q f h = f x h
ok_then (Err e) P Q f h = h

pub not_err : {A E : Type 0} (x : A) (e : E) → ◌≡◌ {A = Result A E} (Ok x) (Err e) → ⊥
not_err x e z = cc

pub entries_are : (s : Session) (run : Seen) (entries : List Entry) → events run ≡ history s → map departure (reverse entries) ≡ run.steps → history_of entries ≡ history s
entries_are s run entries leaves shows = ap events_of shows ∙ leaves

module _ (s : Session) (run : Seen) (entries : List Entry) (leaves : events run ≡ history s) (shows : map departure (reverse entries) ≡ run.steps) (found : StepId → History → List StepId) (id : StepId) (items seen : List StepId)
    (are : items ≡ reverse (found id (events run))) (all : seen ≡ items) where
  seen_are : seen ≡ reverse (found id (history s))
  seen_are = all ∙ are ∙ ap (λ H. reverse (found id H)) leaves

  -- the steps that were found are steps of the stored steps
  pub steps_of : ((H : History) → AreStepsOf (found id H) H) → AreStepsOf (reverse seen) (history_of entries)
  steps_of each =
      subst (λ H. AreStepsOf (reverse seen) H) (sym (entries_are s run entries leaves shows))
      (subst (λ S. AreStepsOf S (history s)) (sym (ap reverse seen_are ∙ reverse-reverse (found id (history s)))) (each (history s)))

  pub steps_text_is : (word : List ℕ) (P : Program) → P ≡ s.program → chosen_text word P seen (history_of entries) ≡ steps_text word s (found id (history s))
  steps_text_is word P program =
      ap (λ (Q : Program). chosen_text word Q seen (history_of entries)) program
      ∙ ap₂ (λ S H. chosen_text word s.program S H) seen_are (entries_are s run entries leaves shows)

-- ---- a step is there

module _ (s : Session) (run : Seen) (id : StepId) (leaves : events run ≡ history s) where
  stands_then : (b : Bool) → (b ≡ false → ⊥) → b ≡ true
  stands_then true h = refl
  stands_then false h = absurd (h refl)

  pub it_stands : (stands id (events run) ≡ false → ⊥) → unless_it_stands s id ≡ None
  it_stands h = let there : stands id (history s) ≡ true = ap (stands id) (sym leaves) ∙ stands_then (stands id (events run)) h in rw there refl

-- ---- a task is there

module _ (s : Session) (run : Seen) (t : Name) (leaves : events run ≡ history s) where
  pub it_is_there : is_spawned (events run) t ≡ true → unless_it_is_there s t ≡ None
  it_is_there h = ap (λ b. cond b None (Some NoSuchTask)) (ap (λ H. is_spawned H t) (sym leaves) ∙ h)

  pub it_is_missing : is_spawned (events run) t ≡ false → unless_it_is_there s t ≡ Some NoSuchTask
  it_is_missing h = ap (λ b. cond b None (Some NoSuchTask)) (ap (λ H. is_spawned H t) (sym leaves) ∙ h)
