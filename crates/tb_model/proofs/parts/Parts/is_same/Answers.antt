use Rattle.std.proofs.Common.{◌∙◌, ap, ap₂, sym, length, ◌&&◌}
use Rattle.tb_model.specs.Names.{same_name}
use Rattle.tb_model.specs.Blocks.{far_numbers}
use Rattle.tb_model.proofs.BlockLemmas.{other_parts, same_parts}
use Rattle.tb_model.proofs.parts.Parts.is_same.Goals.{then-near-others-via-then-near-others, then-near-others-via-else-near-others+then-self-other}
use Rattle.tb_model.proofs.parts.Parts.is_same.Goals as goal

pub returns-then-near-others : goal.returns-then-near-others
returns-then-near-others c =
    sym (other_parts c.self.invariant c.other.invariant
    (elim c.then-near-others.branch [
      | then-near-others-via-then-near-others w ↦ (λ near far. w.if-near-others.true (ap length c.as_slice-near.ensures ∙ near ∙ sym (ap length c.as_slice-others.ensures)))
      | then-near-others-via-else-near-others+then-self-other w ↦ (λ near far. w.if-self-other.true far)
    ]))
    ∙ ap₂ same_name c.self.view_is c.other.view_is

pub returns-then-are_same : goal.returns-then-are_same
returns-then-are_same c =
    let near = ap₂ same_name c.as_slice-near.ensures c.as_slice-others.ensures in
    let long = sym (ap length c.as_slice-near.ensures) ∙ c.if-near-others.false ∙ ap length c.as_slice-others.ensures in
    c.are_same_blocks.ensures ∙ ap (λ t. t && same_name (far_numbers c.self.inside.far.now) (far_numbers c.other.inside.far.now)) (c.if-are_same.ensures ∙ near)
    ∙ sym (same_parts c.self.invariant c.other.invariant long)
    ∙ ap₂ same_name c.self.view_is c.other.view_is

pub returns-else-are_same : goal.returns-else-are_same
returns-else-are_same c =
    let near = ap₂ same_name c.as_slice-near.ensures c.as_slice-others.ensures in
    let long = sym (ap length c.as_slice-near.ensures) ∙ c.if-near-others.false ∙ ap length c.as_slice-others.ensures in
    c.if-are_same.false ∙ ap (λ t. t && same_name (far_numbers c.self.inside.far.now) (far_numbers c.other.inside.far.now)) (c.if-are_same.ensures ∙ near)
    ∙ sym (same_parts c.self.invariant c.other.invariant long)
    ∙ ap₂ same_name c.self.view_is c.other.view_is
