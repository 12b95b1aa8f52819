use Rattle.std.proofs.Common.{◌+◌, ◌<◌, ◌≤◌, ℕ, List, length, IsTrue}
use Rattle.tb_steps.specs.Entries.{Entry}
use Rattle.tb_races.specs.Orders.{Order}
use Rattle.tb_lanes.specs.Clocks.{AreTasks, AreClocks, AreTied, end_at, reaches}
use Rattle.tb_lanes.proofs.ends.first_skipped.Given as goal

-- those that were passed come before
abbrev pub invariant-back : goal.invariant-back
invariant-back l = record {
  within : l.from ≤ length l.ends.places.items;
  passed : (o : Order) (entries : List Entry) → AreTasks entries l.tasks → AreClocks o entries l.tasks (l.at + 1) l.clocks → AreTied o entries l.ends
      → (j : ℕ) → l.from ≤ j → j < length l.ends.places.items → IsTrue (reaches o entries l.at (end_at l.ends j));
}

abbrev pub decreases-back : goal.decreases-back
decreases-back l = l.from
