-- The earliest step that needs a step.
use Rattle.std.specs.Prelude.{[], ◌∷◌, Bool, ◌&&◌, not, Option, Some, None, if◌then◌else◌}
use Rattle.std.specs.List.{list_any}
use Rattle.tb_model.specs.declared.event.Event.{Event}
use Rattle.tb_model.specs.declared.step_id.StepId.{StepId}
use Rattle.tb_model.specs.Facts.{History}
use Rattle.tb_model.specs.Needs.{needs, is_step, step_of, removed}

-- v, which is after H, isn't e and needs it
abbrev pub is_needer : StepId → History → Event → Bool
is_needer e H v = not (is_step e H v) && list_any (needs H v) (removed e H)

-- the first, or the second where there is no first and the test holds
abbrev pub first_or : Option StepId → Bool → StepId → Option StepId
first_or (Some i) b j = Some i
first_or None b j = if b then Some j else None

-- the earliest step that needs e
abbrev pub first_needer : StepId → History → Option StepId
first_needer e [] = None
first_needer e (v ∷ H) = first_or (first_needer e H) (is_needer e H v) (step_of H v)
