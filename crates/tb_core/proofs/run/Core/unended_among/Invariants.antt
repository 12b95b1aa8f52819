use Rattle.std.proofs.Common.{IsTrue}
use Rattle.std.specs.Option.{option_copied}
use Rattle.tb_core.specs.Groups.{is_unended_among}
use Rattle.tb_core.specs.Seen.{history}
use Rattle.tb_core.proofs.WalkLemmas.{Gathered, tasks_behind}
use Rattle.tb_core.proofs.run.Core.unended_among.Given as goal

abbrev pub invariant-tasks : goal.invariant-tasks
invariant-tasks l = Gathered (λ u. IsTrue (is_unended_among (history l.self.run) l.task l.group u)) (option_copied l.after) l.found.items

abbrev pub decreases-tasks : goal.decreases-tasks
decreases-tasks l = tasks_behind (option_copied l.after) (history l.self.run)
