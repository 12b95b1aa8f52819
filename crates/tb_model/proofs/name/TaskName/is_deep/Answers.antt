use Rattle.std.proofs.Common.{◌∙◌, ap, nat_lt, length}
use Rattle.tb_model.proofs.BlockLemmas.{deep_or_not}
use Rattle.tb_model.proofs.name.TaskName.is_deep.Goals as goal

pub returns : goal.returns
returns c =
    let long = deep_or_not c.parts-2.inside.near c.parts-2.inside.far.now c.is_empty.result c.parts-2.invariant c.is_empty.ensures in
    long ∙ ap (λ t. nat_lt 128 (length t)) (c.parts-2.view_is ∙ c.parts.ensures ∙ c.self.view_is)
