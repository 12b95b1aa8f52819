use Rattle.std.proofs.Common.{◌<◌, ◌≤◌, ℕ, length, IsTrue}
use Rattle.tb_lanes.specs.Clocks.{end_at, links_at}
use Rattle.tb_lanes.specs.Linking.{order_of}
use Rattle.tb_lanes.specs.Rows.{IsTold, JoinsMore}
use Rattle.tb_order.proofs.merging.merge.Given as goal

-- the ends that were looked at, and those that were skipped, are listed
abbrev pub invariant-back : goal.invariant-back
invariant-back l = record {
  within : l.left ≤ length l.ends.places.items;
  more : JoinsMore l.entries l.tasks l.past l.waiter.lane l.waiter.at l.initial.joined l.joined;
  seen : (i : ℕ) → l.left ≤ i → i < length l.ends.places.items → IsTrue (links_at (order_of l.past.exclusion) l.entries l.waiter.at (end_at l.ends i))
      → IsTold l.entries l.tasks l.past l.waiter.lane l.waiter.at l.joined (end_at l.ends i);
}

abbrev pub decreases-back : goal.decreases-back
decreases-back l = l.left
