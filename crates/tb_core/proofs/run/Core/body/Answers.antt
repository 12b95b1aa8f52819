use Rattle.std.proofs.Common.{◌∙◌, ap, Some, None, if◌then◌else◌}
use Rattle.tb_model.specs.Facts.{is_spawned}
use Rattle.tb_model.specs.State.{called_by, spawn_of}
use Rattle.tb_core.specs.Seen.{Held, history}
use Rattle.tb_core.proofs.run.Core.body.Goals as goal

pub returns : goal.returns
returns c =
    let i = c.self.inside in
    c.body.ensures i.root_line _ c.self.invariant.0.state.of_tasks
    ∙ ap (λ (h : Held). if is_spawned (history h.run) c.args.task.now then Some (called_by h.run.root_line (spawn_of c.args.task.now (history h.run))).line else None) c.self.view_is
