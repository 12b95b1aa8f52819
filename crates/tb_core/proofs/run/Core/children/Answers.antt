use Rattle.std.proofs.Common.{◌∙◌, ap, Some, None, if◌then◌else◌}
use Rattle.tb_model.specs.Facts.{is_spawned, own}
use Rattle.tb_model.specs.Legal.{spawn_count}
use Rattle.tb_core.specs.Seen.{Held, history}
use Rattle.tb_core.proofs.run.Core.children.Goals as goal

pub returns : goal.returns
returns c =
    let i = c.self.inside in
    c.children.ensures i.root_line _ c.self.invariant.0.state.of_tasks
    ∙ ap (λ (h : Held). if is_spawned (history h.run) c.args.task.now then Some (spawn_count (own c.args.task.now (history h.run))) else None) c.self.view_is
