use Rattle.std.proofs.Common.{◌≡◌, ◌<◌, ◌≤◌, ◌-◌, ℕ, length, get_or}
use Rattle.tb_lanes.specs.declared.lane_bound.LaneBound.{LaneBound}
use Rattle.tb_lanes.specs.Bounds.{IsRising}
use Rattle.tb_lanes.proofs.bounds.bound.Given as goal

-- those on the left are of lanes in front, those on the right of lanes after
abbrev pub invariant-halve : goal.invariant-halve
invariant-halve l = record {
  within : l.high ≤ length l.row;
  left : IsRising l.row → (i : ℕ) (x : LaneBound) → i < l.low → x ≡ get_or l.row i x → x.lane < l.lane;
  right : IsRising l.row → (i : ℕ) (x : LaneBound) → l.high ≤ i → i < length l.row → x ≡ get_or l.row i x → l.lane < x.lane;
}

abbrev pub decreases-halve : goal.decreases-halve
decreases-halve l = l.high - l.low
