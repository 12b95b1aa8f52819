use Rattle.std.proofs.Common.{◌≡◌, ◌∙◌, ap, ap₂, refl, sym, length, arith}
use Rattle.std.specs.Ordering.{ordering_then}
use Rattle.std.specs.declared.cmp.Ordering.TheVariants.{Less, Greater}
use Rattle.tb_model.specs.Names.{name_cmp, same_name}
use Rattle.tb_model.proofs.BlockLemmas.{fewer_others}
use Rattle.tb_model.proofs.BlockOrderLemmas.{same_blocks, more_is_greater, common_block, block_decides, fewer_is_less}
use Rattle.tb_model.proofs.name_order.by_parts.Goals as goal

pub blocks-2-init : goal.blocks-2-init
blocks-2-init c = record {
  order = ap₂ name_cmp (sym c.a.view_is) (sym c.b.view_is);
  own = c.a.invariant.some;
  others = c.b.invariant.some;
}

pub blocks-2-preserved : goal.blocks-2-preserved
blocks-2-preserved c =
    let i = c.blocks-2.invariant in
    record {
      order = common_block c.args.a.now c.args.b.now c.a.inside.near c.b.inside.near c.blocks-2.left.now c.blocks-2.right.now i.order
          c.x-item.result c.x-item.result c.in-len1-up.len_at_least c.x-item.is refl
          c.y-item.result c.y-item.result c.in-len1-up-right.len_at_least c.y-item.is refl
          (sym c.is_same.ensures ∙ c.if-not-is_same.false);
      own = λ some. i.own (fewer_others c.blocks-2.left.now some);
      others = λ some. i.others (fewer_others c.blocks-2.right.now some);
    }

pub returns-in_default-right : goal.returns-in_default-right
returns-in_default-right c =
    let i = c.blocks-2.invariant in
    let full : length c.as_slice.result.now ≡ 128 = ap length c.as_slice.ensures.is ∙ c.as_slice.ensures.full in
    c.then.ensures ∙ ap (λ o. ordering_then o Greater) (c.by_numbers.ensures ∙ ap (name_cmp c.as_slice.result.now) c.as_slice-in_default-right.ensures)
    ∙ more_is_greater c.args.a.now c.args.b.now c.a.inside.near c.b.inside.near c.blocks-2.left.now c.blocks-2.right.now i.order
    c.as_slice.result.now c.x-item.result c.in-len1-up.len_at_least c.x-item.is c.as_slice.ensures.is
    c.in_default-right.len_below (i.own c.in-len1-up.len_at_least) (omega (arith, full, c.b.invariant.short))

pub returns-then-not-is_same : goal.returns-then-not-is_same
returns-then-not-is_same c =
    let i = c.blocks-2.invariant in
    let full : length c.as_slice-then-not-is_same.result.now ≡ 128 = ap length c.as_slice-then-not-is_same.ensures.is ∙ c.as_slice-then-not-is_same.ensures.full in
    let full' : length c.as_slice-then-not-is_same-2.result.now ≡ 128 = ap length c.as_slice-then-not-is_same-2.ensures.is ∙ c.as_slice-then-not-is_same-2.ensures.full in
    let tested = ap₂ same_name c.as_slice-then-not-is_same.ensures.is c.as_slice-then-not-is_same-2.ensures.is in
    c.by_numbers-then-not-is_same.ensures
    ∙ block_decides c.args.a.now c.args.b.now c.a.inside.near c.b.inside.near c.blocks-2.left.now c.blocks-2.right.now i.order
    c.as_slice-then-not-is_same.result.now c.x-item.result c.in-len1-up.len_at_least c.x-item.is c.as_slice-then-not-is_same.ensures.is
    c.as_slice-then-not-is_same-2.result.now c.y-item.result c.in-len1-up-right.len_at_least c.y-item.is c.as_slice-then-not-is_same-2.ensures.is
    (full ∙ sym full') (tested ∙ sym c.is_same.ensures ∙ c.if-not-is_same.true)

pub returns-in-empty : goal.returns-in-empty
returns-in-empty c =
    c.by_numbers-in-empty.ensures ∙ ap₂ name_cmp c.as_slice-in-empty.ensures c.as_slice-in-empty-2.ensures
    ∙ same_blocks c.args.a.now c.args.b.now c.a.inside.near c.b.inside.near c.blocks-2.left.now c.blocks-2.right.now c.blocks-2.invariant.order
    c.in_default.len_below c.in-empty.len_below

pub returns-in-len1-up-right-2 : goal.returns-in-len1-up-right-2
returns-in-len1-up-right-2 c =
    let i = c.blocks-2.invariant in
    let full : length c.as_slice-in-len1-up-right-2-2.result.now ≡ 128 = ap length c.as_slice-in-len1-up-right-2-2.ensures.is ∙ c.as_slice-in-len1-up-right-2-2.ensures.full in
    c.then-in-len1-up-right-2.ensures ∙ ap (λ o. ordering_then o Less) (c.by_numbers-in-len1-up-right-2.ensures ∙ ap (λ n. name_cmp n c.as_slice-in-len1-up-right-2-2.result.now) c.as_slice-in-len1-up-right-2.ensures)
    ∙ fewer_is_less c.args.a.now c.args.b.now c.a.inside.near c.b.inside.near c.blocks-2.left.now c.blocks-2.right.now i.order
    c.as_slice-in-len1-up-right-2-2.result.now c.y-item-2.result c.in-len1-up-right-2.len_at_least c.y-item-2.is c.as_slice-in-len1-up-right-2-2.ensures.is
    c.in_default.len_below (i.others c.in-len1-up-right-2.len_at_least) (omega (arith, full, c.a.invariant.short))
