use Rattle.std.proofs.Common.{◌∙◌, ap, length}
use Rattle.tb_model.specs.Facts.{own}
use Rattle.tb_model.specs.State.{open_groups}
use Rattle.tb_core.specs.Seen.{Held, history}
use Rattle.tb_core.proofs.run.Core.groups.Goals as goal

pub returns : goal.returns
returns c =
    let i = c.self.inside in
    let sound = c.self.invariant.0 in
    c.groups.ensures i.first.items i.root_line _ sound.legal sound.state.of_tasks ∙ ap (λ (h : Held). length (open_groups (own c.args.task.now (history h.run)))) c.self.view_is
