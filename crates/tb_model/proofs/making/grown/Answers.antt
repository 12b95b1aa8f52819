use Rattle.std.proofs.Common.{◌∙◌, ◌≤◌, ◌++◌, ◌∷◌, [], ap, length, subst}
use Rattle.tb_model.proofs.BlockLemmas.{grown_full}
use Rattle.tb_model.proofs.making.grown.Goals as goal

pub returns : goal.returns
returns c =
    grown_full c.args.first c.rest.inside.near c.rest.inside.far.now c.in_ok-from_slice.field-0 c.push.new.self.items c.in_ok-from_slice-2.field-0.items c.args.rest.now
    c.rest.invariant c.rest.view_is (subst (λ n. 128 ≤ length n) c.as_slice-others.ensures c.if-others-lt-BLOCK.false) (c.in_ok-from_slice.ensures ∙ c.as_slice-others.ensures) (c.in_ok-push.ensures.items ∙ ap (λ x. x ++ c.in_ok-from_slice.field-0 ∷ []) c.in_ok-far.ensures) c.in_ok-from_slice-2.ensures.ok
