use Rattle.std.proofs.Common.{◌∙◌}
use Rattle.tb_model.proofs.BlockLemmas.{same_deep}
use Rattle.tb_model.proofs.making.shared.Goals as goal

pub returns : goal.returns
returns c =
    same_deep c.parts.inside.near c.parts.inside.far.now _ _ c.args.parts.now c.parts.invariant c.parts.view_is c.requires (c.in_ok-from_slice.ensures.ok ∙ c.as_slice.ensures) c.in_ok-far.ensures
