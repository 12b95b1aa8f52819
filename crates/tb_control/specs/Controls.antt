-- What a step and a removal change besides the journal.
use Rattle.std.specs.Prelude.{ℕ, List, Some}
use Rattle.tb_model.specs.declared.event.Event.{Event}
use Rattle.tb_model.specs.Names.{Name, same_name}
use Rattle.tb_core.specs.declared.removed.Removed.{Removed}
use Rattle.tb_control.specs.declared.control.Control.{Control}
use Rattle.tb_control.specs.Claims.{with_claim, withdrawn, is_hit}
use Rattle.tb_control.specs.Breaks.{met}
use Rattle.tb_control.specs.Modes as modes

-- a step of a task that was at the line: the claim on the task ends, and the mode counts the step
abbrev pub behind_step : ℕ → Event → Control → Control
behind_step line v c = record {
  claims = withdrawn (same_name v.task) c.claims;
  breakpoints = c.breakpoints;
  mode = modes.behind (met line v c.breakpoints.standing) c.mode;
}

-- the seat claims the task
abbrev pub claimed_by : ℕ → Name → Control → Control
claimed_by seat t c = record { claims = with_claim c.claims seat (Some t); breakpoints = c.breakpoints; mode = c.mode }

-- the claims on tasks of which a step or the spawn was removed are withdrawn
abbrev pub behind_removal : List Removed → Control → Control
behind_removal removed c = record {
  claims = withdrawn (is_hit removed) c.claims;
  breakpoints = c.breakpoints;
  mode = c.mode;
}
