use Rattle.std.proofs.Common.{◌≡◌, ◌<◌, ◌≤◌, ℕ, List, Bool}
use Rattle.tb_steps.specs.Entries.{Entry}
use Rattle.tb_races.specs.Orders.{Order}
use Rattle.tb_lanes.specs.Bounds.{AreRising, IsRising, bound_among}
use Rattle.tb_lanes.specs.Clocks.{AreTasks, row_of_step}
use Rattle.tb_lanes.specs.Fewer.{AreFewer}
use Rattle.tb_order.specs.Gathered.{IsGathered}
use Rattle.tb_order.proofs.joining.join.Given as goal

-- what was gathered, and what the way up adds, is what the step reaches
abbrev pub invariant-up : goal.invariant-up
invariant-up l = record {
  front : l.at ≤ l.place;
  rows : l.rows.items ≡ l.fn.rows.items;
  rising : ((p : ℕ) → p < l.waiter.at → IsRising (row_of_step l.clocks p)) → AreRising l.more.items;
  gathered : (asked : ℕ → Bool) (o : Order) (entries : List Entry) → AreTasks entries l.tasks → AreFewer asked o entries l.tasks l.waiter.at l.clocks
      → IsGathered asked o entries l.tasks l.clocks l.waiter.at l.place l.at (bound_among l.more.items);
}

abbrev pub decreases-up : goal.decreases-up
decreases-up l = l.at
