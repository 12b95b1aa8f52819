-- Histories that retain with each event the line at which it leaves its task. No program is asked
-- for one.
use Rattle.std.specs.Prelude.{◌≡◌, ℕ, List, [], ◌∷◌, not, map, ⊤, if◌then◌else◌}
use Rattle.tb_model.specs.declared.event.Event.{Event}
use Rattle.tb_model.specs.declared.step_id.StepId.{StepId}
use Rattle.tb_model.specs.Names.{Name}
use Rattle.tb_model.specs.Facts.{History, is_of, prepend_if}
use Rattle.tb_model.specs.Needs.{is_removed}
use Rattle.tb_model.specs.Program.{Program, situation}

-- an event, and the line at which it leaves its task
pub record Departure : Type 0 where
  pub event : Event
  pub to : ℕ

-- the history without the lines
abbrev pub events_of : List Departure → History
events_of D = map (λ (d : Departure). d.event) D

-- the line of t: that of its last event, else its body's
abbrev pub line_of : ℕ → Name → List Departure → ℕ
line_of body t [] = body
line_of body t (d ∷ D) = if is_of t d.event then d.to else line_of body t D

-- what is left without a step and all that need it, with its lines
abbrev pub without_lines : StepId → List Departure → List Departure
without_lines e [] = []
without_lines e (d ∷ D) = prepend_if (not (is_removed e (events_of D) d.event)) d (without_lines e D)

-- each event leaves its task at the line at which the program does
abbrev pub LinesFit : Program → List Departure → Type 0
LinesFit P [] = ⊤
LinesFit P (d ∷ D) = LinesFit P D × (d.to ≡ (situation P d.event.task (d.event ∷ events_of D)).line)
