use Rattle.std.proofs.Common.{◌≡◌, ◌≤◌, drop, length}
use Rattle.std.specs.Map.{keys_of}
use Rattle.tb_excl.specs.Search.{least_held}
use Rattle.tb_excl.proofs.holders.Holders.least_held.Given as goal

abbrev pub invariant-cells : goal.invariant-cells
invariant-cells l = record {
  within : l.i ≤ length l.self.cells;
  least : l.least ≡ least_held l.self (drop l.i (keys_of l.self.cells));
}

abbrev pub decreases-cells : goal.decreases-cells
decreases-cells l = l.i
