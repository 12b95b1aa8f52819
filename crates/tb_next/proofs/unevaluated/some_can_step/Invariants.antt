use Rattle.std.specs.Option.{option_copied}
use Rattle.tb_core.specs.Seen.{history}
use Rattle.tb_core.proofs.WalkLemmas.{tasks_behind}
use Rattle.tb_next.specs.Floor.{IsPassed}
use Rattle.tb_next.proofs.unevaluated.some_can_step.Given as goal

abbrev pub invariant-tasks : goal.invariant-tasks
invariant-tasks l = IsPassed l.program (history l.core.run) (option_copied l.after)

abbrev pub decreases-tasks : goal.decreases-tasks
decreases-tasks l = tasks_behind (option_copied l.after) (history l.core.run)
