use Rattle.tb_undo.proofs.StateLemmas.{ahead_of_tasks, ahead_of_tasks_same, behind_tasks}
use Rattle.tb_undo.proofs.tables.Tables.apply_tasks.Goals as goal

pub reserve_tasks-requires : goal.reserve_tasks-requires
reserve_tasks-requires c = ahead_of_tasks c.args.self.now c.args.event.now c.requires

pub change_tasks-written_over-requires-clause-can : goal.change_tasks-written_over-requires-clause-can
change_tasks-written_over-requires-clause-can c = ahead_of_tasks_same c.args.self.now c.reserve_tasks.new.self c.args.event.now c.reserve_tasks.ensures.same c.requires

pub returns-clause-applied : goal.returns-clause-applied
returns-clause-applied c = behind_tasks c.args.self.now c.reserve_tasks.new.self c.change_tasks-written_over.new.self c.args.event.now c.args.to c.reserve_tasks.ensures.same c.change_tasks-written_over.ensures.changed
