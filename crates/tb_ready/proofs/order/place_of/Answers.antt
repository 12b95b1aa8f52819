use Rattle.std.proofs.Common.{◌<◌, length, arith, ap, ◌∙◌, sym}
use Rattle.std.specs.Ordering.{is_lt}
use Rattle.tb_model.specs.Names.{name_cmp}
use Rattle.tb_ready.proofs.OrderLemmas.{below_half, above_half, less_from_test}
use Rattle.tb_ready.proofs.order.place_of.Goals as goal

pub halves-preserved-then-is_lt : goal.halves-preserved-then-is_lt
halves-preserved-then-is_lt c =
    let within : c.probe-middle.result < length c.args.order.now.items = omega (arith, c.probe-middle.ensures.below, c.halves.invariant.high) in
    let less = ap (λ n. name_cmp n c.args.name.now) (sym c.marked.ensures.name) ∙ sym c.cmp.ensures ∙ less_from_test c.cmp.result (sym c.is_lt.ensures ∙ c.if-is_lt.true) in
    record {
      low = omega arith;
      high = c.halves.invariant.high;
      below = below_half c.args.names.now.tasks c.args.order.now.items c.requires c.args.name.now c.probe-middle.result within less;
      above = c.halves.invariant.above;
    }

pub halves-preserved : goal.halves-preserved
halves-preserved c =
    let within : c.probe-middle.result < length c.args.order.now.items = omega (arith, c.probe-middle.ensures.below, c.halves.invariant.high) in
    let more = ap (λ n. is_lt (name_cmp n c.args.name.now)) (sym c.marked.ensures.name) ∙ ap is_lt (sym c.cmp.ensures) ∙ (sym c.is_lt.ensures ∙ c.if-is_lt.false) in
    record {
      low = omega arith;
      high = omega arith;
      below = c.halves.invariant.below;
      above = above_half c.args.names.now.tasks c.args.order.now.items c.requires c.args.name.now c.probe-middle.result within more;
    }
