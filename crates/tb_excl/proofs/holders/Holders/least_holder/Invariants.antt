use Rattle.std.proofs.Common.{◌≡◌, ◌≤◌, drop, length}
use Rattle.std.specs.Map.{keys_of}
use Rattle.tb_excl.specs.Search.{least_holder}
use Rattle.tb_excl.proofs.holders.Holders.least_holder.Given as goal

abbrev pub invariant-loop-i : goal.invariant-loop-i
invariant-loop-i l = record {
  within : l.i ≤ length l.items;
  least : l.least ≡ least_holder l.self (keys_of l.self.cells) (drop l.i l.items);
}

abbrev pub decreases-loop-i : goal.decreases-loop-i
decreases-loop-i l = l.i
