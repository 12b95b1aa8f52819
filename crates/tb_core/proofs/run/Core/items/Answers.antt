use Rattle.std.proofs.Common.{◌∙◌, ap}
use Rattle.tb_model.specs.Facts.{items_of}
use Rattle.tb_core.specs.Seen.{Held, history}
use Rattle.tb_core.proofs.run.Core.items.Goals as goal

pub returns : goal.returns
returns c =
    let i = c.self.inside in
    let sound = c.self.invariant.0 in
    c.items.ensures i.first.items i.root_line _ sound.legal sound.state.of_tasks ∙ ap (λ (h : Held). items_of c.args.task.now (history h.run)) c.self.view_is
