use Rattle.std.proofs.Common.{◌≡◌, ◌<◌, ◌≤◌, ℕ, length}
use Rattle.tb_races.specs.Orders.{AllNeeds}
use Rattle.tb_lanes.specs.Needing.{IsBelow, place_at}
use Rattle.tb_order.specs.Walked.{IsSoFar}
use Rattle.tb_order.proofs.needing.needed_among.Given as goal

-- what was walked is found, or reached by what was
abbrev pub invariant-back : goal.invariant-back
invariant-back l = record {
  within : l.left ≤ length l.order.items;
  so_far : IsSoFar l.entries l.tasks l.clocks l.step l.needed;
  each : (i : ℕ) → i < length l.needed.places.items
      → (j : ℕ) × (l.left ≤ j) × (j < length l.order.items) × (place_at l.order.items j ≡ place_at l.needed.places.items i);
  covered : (j : ℕ) → l.left ≤ j → j < length l.order.items → IsBelow AllNeeds l.entries l.needed.places.items (place_at l.order.items j);
}

abbrev pub decreases-back : goal.decreases-back
decreases-back l = l.left
