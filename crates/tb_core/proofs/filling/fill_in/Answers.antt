use Rattle.std.proofs.Common.{◌∙◌, ap, to_z-of_z, w64, SFits, rules, ◌≡◌}
use Rattle.tb_model.specs.declared.action.Action.TheVariants.{Load}
use Rattle.tb_core.proofs.FillingLemmas.{load_filled, spawn_filled, spawn_there, other_filled}
use Rattle.tb_core.proofs.filling.fill_in.Goals as goal
use Rattle.tb_core.proofs.filling.fill_in.Goals.{in-Load, in-Spawn+in_ok-next_spawn-in-Spawn, in_default}

pub returns-in_err-next_spawn-in-Spawn-clause-room : goal.returns-in_err-next_spawn-in-Spawn-clause-room
returns-in_err-next_spawn-in-Spawn-clause-room c v fills none =
    absurd (spawn_there c.args.tables.now c.args.task c.args.action c.in-Spawn.spawned c.in-Spawn.is v c.requires.run fills none)

pub returns-clause-ok : goal.returns-clause-ok
returns-clause-ok c first root_line D k h =
    elim c.match-action.branch [
      | in-Load w ↦
          let fits : SFits w64 w.get.result = search rules in
          load_filled c.args.tables.now c.args.task c.args.action c.match-action.action w.in-Load.reg w.in-Load.cell w.in-Load.value w.get.result w.get.ensures w.in-Load.is
          (w.action-is ∙ ap (Load w.in-Load.reg w.in-Load.cell) (to_z-of_z fits)) first root_line D k h
      | in-Spawn+in_ok-next_spawn-in-Spawn w ↦
          spawn_filled c.args.tables.now c.args.task c.args.action w.in-Spawn.spawned w.in-Spawn.is c.match-action.action w.in_ok-next_spawn-in-Spawn.field-0 w.in_ok-next_spawn-in-Spawn.ensures w.action-is first root_line D k h
      | in_default w ↦
          let same : c.match-action.action ≡ c.args.action = cc in
          other_filled c.args.tables.now c.args.task c.args.action c.match-action.action w.in_default.not-Load w.in_default.not-Spawn same first root_line D k h
    ]
