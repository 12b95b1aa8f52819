use Rattle.std.proofs.Common.{length, ◌<◌}
use Rattle.tb_model.proofs.BlockOrderLemmas.{AreOrdered}
use Rattle.tb_model.proofs.name_order.by_parts.Given as goal

-- what is left of both says their order
abbrev pub invariant-blocks-2 : goal.invariant-blocks-2
invariant-blocks-2 l = record {
  order : AreOrdered l.a l.b l.a-inside.near l.b-inside.near l.left l.right;
  own : 0 < length l.left → 0 < length l.a-inside.near;
  others : 0 < length l.right → 0 < length l.b-inside.near;
}

abbrev pub decreases-blocks-2 : goal.decreases-blocks-2
decreases-blocks-2 l = length l.left
