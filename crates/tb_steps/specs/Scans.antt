-- What a scan of the stored steps of a history finds. The stored steps are from the oldest to the
-- newest.
use Rattle.std.specs.Prelude.{ℕ, List, Option, Some, None, map, reverse, take, slice_get}
use Rattle.tb_model.specs.declared.step_id.StepId.{StepId}
use Rattle.tb_model.specs.Facts.{History}
use Rattle.tb_model.specs.Legal.{Cells, Legal}
use Rattle.tb_model.specs.Lines.{events_of}
use Rattle.tb_model.specs.Needs.{step_of}
use Rattle.tb_steps.specs.Entries.{Entry, departure}

-- the events of these stored steps, the newest first
abbrev pub history_of : List Entry → History
history_of entries = events_of (map departure (reverse entries))

-- the stored steps are a legal history, where the cells have these first values
pub record AreLegal (entries : List Entry) : Type 0 where
  pub cells : Cells
  pub legal : Legal cells (history_of entries)

-- the step that the stored step is after these
abbrev pub step_behind : List Entry → Option Entry → Option StepId
step_behind front None = None
step_behind front (Some e) = Some (step_of (history_of front) e.event)

-- the step at this index
abbrev pub step_at : List Entry → ℕ → Option StepId
step_at entries at = step_behind (take at entries) (slice_get entries at)

-- the step at the index that was found
abbrev pub found_step : List Entry → Option ℕ → Option StepId
found_step entries None = None
found_step entries (Some at) = step_at entries at
