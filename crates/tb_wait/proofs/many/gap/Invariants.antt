use Rattle.std.proofs.Common.{◌≤◌, ◌-◌, length}
use Rattle.tb_wait.specs.Numbers.{below}
use Rattle.tb_wait.proofs.many.gap.Given as goal

abbrev pub invariant-loop-low : goal.invariant-loop-low
invariant-loop-low l = record {
  low : l.low ≤ below l.n l.items.items;
  high : below l.n l.items.items ≤ l.high;
  within : l.high ≤ length l.items.items;
}

abbrev pub decreases-loop-low : goal.decreases-loop-low
decreases-loop-low l = l.high - l.low
