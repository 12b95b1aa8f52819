use Rattle.std.proofs.Common.{◌≡◌, take}
use Rattle.tb_lanes.specs.Bounds.{AreRising, bound_among}
use Rattle.tb_lanes.proofs.bounds.bound_among.Given as goal

-- how far those so far reach
abbrev pub invariant-loop-row : goal.invariant-loop-row
invariant-loop-row l = AreRising l.rows → l.most ≡ bound_among (take l.row-index l.rows) l.lane
