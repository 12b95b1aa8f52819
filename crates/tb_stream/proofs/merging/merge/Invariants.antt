use Rattle.std.proofs.Common.{◌≤◌, ℕ, Option, length}
use Rattle.tb_lanes.specs.Clocks.{Lanes}
use Rattle.tb_lanes.specs.Rows.{Key}
use Rattle.tb_stream.specs.Ends.{AreStored, IsLater, IsOfRow}
use Rattle.tb_stream.specs.Joins.{AreJoined, IsWaiting, Merges}
use Rattle.tb_stream.specs.Seen.{Run}
use Rattle.tb_stream.proofs.merging.merge.Given as goal

-- the ends that were looked at, and those that were skipped, are listed
abbrev pub invariant-back : goal.invariant-back
invariant-back l = record {
  within : l.left ≤ length l.ends.items;
  met : (r : Run) (n : ℕ) (lanes : Lanes) (key : Option Key) → IsWaiting r n lanes l.order l.waiter → AreJoined r n lanes l.order.clocks.rows.items l.waiter.step.lane l.initial.joined
      → AreStored r n lanes l.order.clocks.rows.items (IsOfRow r n key) l.ends → Merges r n lanes l.order.clocks.rows.items l.waiter.step.lane (IsLater l.ends (IsOfRow r n key) l.left) l.initial.joined l.joined;
}

abbrev pub decreases-back : goal.decreases-back
decreases-back l = l.left
