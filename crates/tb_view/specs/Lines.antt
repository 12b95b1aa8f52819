-- Lines of a reply, and the line of a step.
use Rattle.std.specs.Prelude.{ℕ, List, [], ◌∷◌, ◌++◌, Option, Some, None}
use Rattle.tb_model.specs.declared.event.Event.{Event}
use Rattle.tb_model.specs.declared.step_id.StepId.{StepId}
use Rattle.tb_model.specs.Facts.{History}
use Rattle.tb_model.specs.Needs.{step_of}
use Rattle.tb_model.specs.Program.{Program}
use Rattle.tb_core.specs.declared.removed.Removed.{Removed}
use Rattle.tb_view.specs.Step.{step_text, spawned_name}

-- a text with its line feed
abbrev pub line : List ℕ → List ℕ
line text = text ++ 10 ∷ []

-- the line of an event of which this is the step
abbrev pub event_line : Program → StepId → Event → List ℕ
event_line P i v = line (step_text (spawned_name P v.action) v.task i.k v.action)

-- nothing where there is no event
abbrev pub line_if_any : Program → StepId → Option Event → List ℕ
line_if_any P i (Some v) = event_line P i v
line_if_any P i None = []

-- the line of an event that is after H
abbrev pub step_line : Program → History → Event → List ℕ
step_line P H v = event_line P (step_of H v) v

-- the line of a step that is gone
abbrev pub removal_line : Program → Removed → List ℕ
removal_line P r = event_line P r.id (record { task = r.id.task; action = r.action })
