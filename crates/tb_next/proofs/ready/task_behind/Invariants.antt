use Rattle.std.specs.Prelude.{Some}
use Rattle.tb_model.specs.Names.{Name}
use Rattle.tb_core.specs.Seen.{history}
use Rattle.tb_core.proofs.WalkLemmas.{tasks_behind}
use Rattle.tb_next.specs.Plans.{CanTake}
use Rattle.tb_ready.specs.Tasks.{IsBehind}
use Rattle.tb_next.proofs.ready.task_behind.Given as goal

abbrev pub invariant-tasks : goal.invariant-tasks
invariant-tasks l = (u : Name) → CanTake l.program (history l.core.run) l.claims l.seat u → IsBehind (Some l.after) u

abbrev pub decreases-tasks : goal.decreases-tasks
decreases-tasks l = tasks_behind (Some l.after) (history l.core.run)
