use Rattle.std.proofs.Common.{subst}
use Rattle.std.specs.Option.{option_copied}
use Rattle.tb_model.specs.LeastNames.{IsLeastName}
use Rattle.tb_undo.specs.Readings.{IsUnendedBehind}
use Rattle.tb_core.specs.Seen.{Held, history}
use Rattle.tb_core.proofs.run.Core.walk_unended.Goals as goal

pub returns : goal.returns
returns c =
    let i = c.self.inside in
    subst (λ (h : Held). IsLeastName (IsUnendedBehind (history h.run) (option_copied c.args.after)) (option_copied c.walk_unended.result)) c.self.view_is
    (c.walk_unended.ensures i.root_line _ c.self.invariant.0.state.of_tasks)
