use Rattle.std.proofs.Common.{◌≡◌, ◌<◌, ◌≤◌, ◌-◌, ◌+◌, ℕ, length, get_or, max, take}
use Rattle.tb_lanes.specs.declared.lane_bound.LaneBound.{LaneBound}
use Rattle.tb_lanes.specs.Bounds.{IsRising, IsUnder, bound_in}
use Rattle.tb_lanes.proofs.bounds.merged.Given as goal

-- what was merged says as much as the parts so far, and the lanes that follow are after it
abbrev pub invariant-merge : goal.invariant-merge
invariant-merge l = record {
  left_in : l.i ≤ length l.left;
  right_in : l.j ≤ length l.right;
  bounds : (k : ℕ) → bound_in l.row.items k ≡ max (bound_in (take l.i l.left) k) (bound_in (take l.j l.right) k);
  rising : IsRising l.left → IsRising l.right → IsRising l.row.items;
  left_on : IsRising l.left → IsRising l.right → (x : LaneBound) → l.i < length l.left → x ≡ get_or l.left l.i x → IsUnder l.row.items x.lane;
  right_on : IsRising l.left → IsRising l.right → (x : LaneBound) → l.j < length l.right → x ≡ get_or l.right l.j x → IsUnder l.row.items x.lane;
}

abbrev pub decreases-merge : goal.decreases-merge
decreases-merge l = (length l.left + length l.right) - (l.i + l.j)
