use Rattle.std.proofs.Common.{◌≡◌, ℕ, length, max}
use Rattle.tb_lanes.specs.Bounds.{AreRising, IsRising, bound_in, bound_among}
use Rattle.tb_lanes.proofs.bounds.add_row.Given as goal

abbrev pub invariant-halve : goal.invariant-halve
invariant-halve l = record {
  bounds : (k : ℕ) → max (bound_among l.rows.items k) (bound_in l.whole.items k) ≡ max (bound_among l.fn.rows.items k) (bound_in l.fn.row.items k);
  rising : AreRising l.fn.rows.items → IsRising l.fn.row.items → AreRising l.rows.items;
  whole : AreRising l.fn.rows.items → IsRising l.fn.row.items → IsRising l.whole.items;
}

abbrev pub decreases-halve : goal.decreases-halve
decreases-halve l = length l.rows.items
