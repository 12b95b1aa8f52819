use Rattle.std.proofs.Common.{length, sym, subst, ap, ◌∙◌}
use Rattle.std.specs.Prelude.{max}
use Rattle.tb_depend.specs.Chains.{head, is_met, IsLast}
use Rattle.tb_depend.proofs.ChainLemmas.{meeting_cell, meeting_all}
use Rattle.tb_depend.proofs.chain.Chain.last_met.Goals as goal

pub returns-in-Cell : goal.returns-in-Cell
returns-in-Cell c =
    let i = c.self.inside in
    subst (λ t. IsLast (is_met c.args.new) t.items (length t.items) c.max.result) c.self.view_is
    (subst (IsLast (is_met c.args.new) i.items.items (length i.items.items))
    (sym (c.max.ensures ∙ ap (λ s. max s i.heads.all) (c.head.ensures ∙ ap (head i.heads) c.in-Cell.is)))
    (meeting_cell i.items.items i.links.items i.heads c.self.invariant c.args.new c.in-Cell.field-0 c.in-Cell.is))

pub returns-in-All : goal.returns-in-All
returns-in-All c =
    let i = c.self.inside in
    subst (λ t. IsLast (is_met c.args.new) t.items (length t.items) (length c.as_slice.result.now)) c.self.view_is
    (subst (IsLast (is_met c.args.new) i.items.items (length i.items.items)) (sym (ap length c.as_slice.ensures.value))
    (meeting_all i.items.items i.links.items i.heads c.self.invariant c.args.new c.in-All.is))
