use Rattle.std.specs.Option.{option_copied}
use Rattle.tb_model.specs.Names.{Name}
use Rattle.tb_core.specs.Seen.{history}
use Rattle.tb_core.proofs.WalkLemmas.{tasks_behind}
use Rattle.tb_ready.specs.Tasks.{IsBehind}
use Rattle.tb_next.proofs.UnevaluatedLemmas.{IsWaitedFor}
use Rattle.tb_next.proofs.unevaluated.waits.Given as goal

-- no child that was asked is one for which the clauses wait
abbrev pub invariant-tasks : goal.invariant-tasks
invariant-tasks l = (u : Name) → IsWaitedFor l.program.cells (history l.core.run) l.task l.regs l.clauses u → IsBehind (option_copied l.after) u

abbrev pub decreases-tasks : goal.decreases-tasks
decreases-tasks l = tasks_behind (option_copied l.after) (history l.core.run)
