use Rattle.std.proofs.Common.{◌≤◌, ◌+◌, ◌-◌, length}
use Rattle.tb_places.specs.Renumbering.{below}
use Rattle.tb_places.proofs.gaps.leap.Given as goal

-- so many are in front, and each leap is as wide as all before it
abbrev pub invariant-ahead : goal.invariant-ahead
invariant-ahead l = record {
  passed : l.from ≤ below l.going l.place;
  within : l.from ≤ length l.going;
  some : 1 ≤ l.width;
  narrow : l.width ≤ l.from + 1;
}

abbrev pub decreases-ahead : goal.decreases-ahead
decreases-ahead l = length l.going - l.from
