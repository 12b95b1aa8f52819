use Rattle.std.proofs.Common.{◌≡◌, ◌<◌, ◌≤◌, ◌-◌, None, Some, length, take}
use Rattle.tb_model.specs.declared.step_id.StepId.{StepId}
use Rattle.tb_model.specs.Needers.{first_needer}
use Rattle.tb_steps.specs.Scans.{AreLegal, history_of, step_at}
use Rattle.tb_core.proofs.needing.first_needer.Given as goal

-- none in front of the next needs the step
abbrev pub invariant-forth : goal.invariant-forth
invariant-forth l = record {
  behind : l.at < l.later;
  within : l.later ≤ length l.entries;
  none : (id : StepId) → AreLegal l.entries → step_at l.entries l.at ≡ Some id → first_needer id (history_of (take l.later l.entries)) ≡ None;
}

abbrev pub decreases-forth : goal.decreases-forth
decreases-forth l = length l.entries - l.later
