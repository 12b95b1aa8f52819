-- Where a task is after a history that retains its lines.
use Rattle.tb_model.specs.Names.{Name}
use Rattle.tb_plan.specs.declared.config.Config.{Config}
use Rattle.tb_undo.specs.State.{known_task}
use Rattle.tb_core.specs.Seen.{Seen}

-- the situation of a task
abbrev pub config_of : Seen → Name → Config
config_of s t =
    let k = known_task s.root_line s.steps t in
    record { task = t; steps = k.steps; at = k.at; regs = k.regs }
