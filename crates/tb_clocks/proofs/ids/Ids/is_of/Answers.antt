use Rattle.std.proofs.Common.{sym, ap, ◌∙◌, Some, slice_get}
use Rattle.tb_model.specs.Names.{Name}
use Rattle.tb_model.proofs.TestLemmas.{same_true}
use Rattle.tb_clocks.proofs.ids.Ids.is_of.Goals as goal

pub returns-in-Some : goal.returns-in-Some
returns-in-Some c h cells H a =
    let own = same_true c.in-Some.other.now c.args.name.now (sym c.eq.ensures ∙ h) in
    ap (λ ns. slice_get ns c.args.id) (sym a.names) ∙ sym c.in-Some.ensures.key ∙ ap (λ (t : Name). Some t) own
