use Rattle.std.proofs.Common.{◌∙◌, ap₂, sym}
use Rattle.tb_model.specs.Names.{same_name}
use Rattle.tb_model.proofs.BlockLemmas.{same_block, other_block, full_others, length_others}
use Rattle.tb_model.proofs.parts.are_same_blocks.Goals as goal

pub returns-then-not-is_same : goal.returns-then-not-is_same
returns-then-not-is_same c =
    let i = c.blocks-2.invariant in
    let tested = ap₂ same_name (sym c.x-item.is) (sym c.y-item.is) in
    sym (i.rest ∙ other_block c.blocks-2.left.now c.blocks-2.right.now _ _ c.in-len1-up.len_at_least i.long i.full.0 i.full.1
    (tested ∙ sym c.is_same.ensures ∙ c.if-not-is_same.true))

pub blocks-2-preserved : goal.blocks-2-preserved
blocks-2-preserved c =
    let i = c.blocks-2.invariant in
    let tested = ap₂ same_name (sym c.x-item.is) (sym c.y-item.is) in
    record {
      long = length_others c.blocks-2.left.now c.blocks-2.right.now i.long;
      full = (full_others c.blocks-2.left.now i.full.0, full_others c.blocks-2.right.now i.full.1);
      rest = i.rest ∙ same_block c.blocks-2.left.now c.blocks-2.right.now _ _ c.in-len1-up.len_at_least i.long i.full.0 i.full.1
          (tested ∙ sym c.is_same.ensures ∙ c.if-not-is_same.false);
    }
