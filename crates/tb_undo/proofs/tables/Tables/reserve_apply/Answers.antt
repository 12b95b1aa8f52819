use Rattle.tb_undo.proofs.RoomLemmas.{on_err, store_keeps, store_same}
use Rattle.tb_undo.proofs.StateLemmas.{ahead_can, room_by_tasks, tasks_room}
use Rattle.tb_undo.proofs.tables.Tables.reserve_apply.Goals as goal

pub reserve_tasks-requires : goal.reserve_tasks-requires
reserve_tasks-requires c = (ahead_can c.args.self.now c.args.event.now c.requires).of_tasks

pub returns-in-Print-clause-same : goal.returns-in-Print-clause-same
returns-in-Print-clause-same c = store_same _ _ c.self.view_is c.reserve_say.new.self c.reserve_say.ensures.cells c.reserve_say.ensures.output

pub returns-in-Print-clause-keeps : goal.returns-in-Print-clause-keeps
returns-in-Print-clause-keeps c = on_err _ _ (store_keeps _ _ c.self.view_is c.reserve_say.new.self c.reserve_say.ensures.keeps)
