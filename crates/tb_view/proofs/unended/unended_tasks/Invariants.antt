use Rattle.std.proofs.Common.{IsTrue}
use Rattle.std.specs.Option.{option_copied}
use Rattle.tb_model.specs.State.{is_unended}
use Rattle.tb_core.specs.Seen.{history}
use Rattle.tb_core.proofs.WalkLemmas.{Gathered, tasks_behind}
use Rattle.tb_view.proofs.unended.unended_tasks.Given as goal

abbrev pub invariant-tasks : goal.invariant-tasks
invariant-tasks l = Gathered (λ t. IsTrue (is_unended (history l.core.run) t)) (option_copied l.after) l.tasks.items

abbrev pub decreases-tasks : goal.decreases-tasks
decreases-tasks l = tasks_behind (option_copied l.after) (history l.core.run)
