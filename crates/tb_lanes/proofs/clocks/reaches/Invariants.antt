use Rattle.std.proofs.Common.{◌≡◌, ◌<◌, ℕ, List, Bool, true, length}
use Rattle.tb_steps.specs.Entries.{Entry}
use Rattle.tb_races.specs.Orders.{Order}
use Rattle.tb_lanes.specs.Clocks as is
use Rattle.tb_lanes.specs.Clocks.{AreTasks}
use Rattle.tb_lanes.specs.Fewer.{AreFewer}
use Rattle.tb_lanes.proofs.clocks.reaches.Given as goal

-- what is reached from the one on the way up is reached, and what is asked for only so
abbrev pub invariant-up : goal.invariant-up
invariant-up l = record {
  listed : l.at < length l.clocks.of.items;
  so : (asked : ℕ → Bool) (o : Order) (entries : List Entry) (n : ℕ) → AreTasks entries l.tasks → AreFewer asked o entries l.tasks n l.clocks → l.late < n
      → (l.at < n) × (is.reaches o entries l.at l.early ≡ true → is.reaches o entries l.late l.early ≡ true) × (asked l.early ≡ true → is.reaches o entries l.late l.early ≡ true → is.reaches o entries l.at l.early ≡ true);
}

abbrev pub decreases-up : goal.decreases-up
decreases-up l = l.at
