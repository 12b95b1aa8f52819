use Rattle.std.proofs.Common.{sym, ◌∙◌}
use Rattle.tb_core.specs.Seen.{history}
use Rattle.tb_next.proofs.FloorStepLemmas.{carried_same, carried_lowered}
use Rattle.tb_next.proofs.floor.Floor.step_taken.Goals as goal

pub returns-then-is_end : goal.returns-then-is_end
returns-then-is_end c =
    carried_lowered (history c.args.core.now.run) (record { task = c.in-Some.task.now; action = c.in-Some.action.now }) c.args.self.now c.task_ended.new.self c.in-Some.ensures.some c.task_ended.ensures

pub returns-else-is_end : goal.returns-else-is_end
returns-else-is_end c =
    carried_same (history c.args.core.now.run) (record { task = c.in-Some.task.now; action = c.in-Some.action.now }) c.args.self.now c.in-Some.ensures.some (sym c.is_end.ensures ∙ c.if-is_end.false)
