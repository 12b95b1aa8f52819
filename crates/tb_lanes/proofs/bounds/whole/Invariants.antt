use Rattle.std.proofs.Common.{◌≡◌, ℕ, length, max}
use Rattle.tb_lanes.specs.Bounds.{AreRising, IsRising, bound_in, bound_among}
use Rattle.tb_lanes.proofs.bounds.whole.Given as goal

abbrev pub invariant-join : goal.invariant-join
invariant-join l = record {
  bounds : (k : ℕ) → max (bound_among l.left.items k) (bound_in l.whole.items k) ≡ bound_among l.fn.rows.items k;
  rising : AreRising l.fn.rows.items → AreRising l.left.items;
  whole : AreRising l.fn.rows.items → IsRising l.whole.items;
}

abbrev pub decreases-join : goal.decreases-join
decreases-join l = length l.left.items
