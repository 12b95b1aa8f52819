use Rattle.std.proofs.Common.{sym, ap, ◌∙◌, subst}
use Rattle.tb_model.specs.declared.action.Action.TheVariants.{Spawn}
use Rattle.tb_undo.specs.Changes.{IsNextSpawn}
use Rattle.tb_undo.proofs.RoomLemmas.{on_err, waits_keep, waits_same}
use Rattle.tb_undo.proofs.tables.Tables.reserve_tasks.Goals as goal

pub reserve_start-requires : goal.reserve_start-requires
reserve_start-requires c = c.requires.linked

pub reserve_spawn-requires : goal.reserve_spawn-requires
reserve_spawn-requires c =
    let is = c.in-Spawn.is ∙ ap (λ x. Spawn x) (sym c.get-spawn.ensures) in
    (subst (IsNextSpawn c.args.self.now c.args.event.now.task) is c.requires.spawn).1

pub returns-in-Open-clause-same : goal.returns-in-Open-clause-same
returns-in-Open-clause-same c = waits_same _ _ c.self.view_is c.reserve_opened.new.self c.reserve_opened.ensures.tasks

pub returns-in-Open-clause-keeps : goal.returns-in-Open-clause-keeps
returns-in-Open-clause-keeps c = on_err _ _ (waits_keep _ _ c.self.view_is c.reserve_opened.new.self c.reserve_opened.ensures.room)
