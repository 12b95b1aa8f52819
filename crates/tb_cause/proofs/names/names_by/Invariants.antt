use Rattle.std.proofs.Common.{◌≡◌, Some, map, take}
use Rattle.tb_model.specs.declared.step_id.StepId.{StepId}
use Rattle.tb_steps.specs.Scans.{step_at}
use Rattle.tb_cause.proofs.names.names_by.Given as goal

abbrev pub invariant-loop-place : goal.invariant-loop-place
invariant-loop-place l = map (λ (s : StepId). Some s) l.steps.items ≡ map (step_at l.entries) (take l.place-index l.places)
