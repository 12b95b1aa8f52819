use Rattle.std.proofs.Common.{◌∙◌, ap}
use Rattle.tb_model.specs.Facts.{apart}
use Rattle.tb_undo.specs.Obstacles.{sibling}
use Rattle.tb_core.specs.Seen.{Held, history}
use Rattle.tb_core.proofs.run.Core.is_apart.Goals as goal

pub returns : goal.returns
returns c =
    let i = c.self.inside in
    let sound = c.self.invariant.0 in
    c.is_apart.ensures i.first.items i.root_line _ sound.legal sound.state.of_tasks ∙ ap (λ (h : Held). apart (history h.run) (sibling c.args.task.now c.args.number) c.args.task.now) c.self.view_is
