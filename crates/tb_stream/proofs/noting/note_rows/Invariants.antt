use Rattle.std.proofs.Common.{◌≡◌, ◌+◌, ℕ}
use Rattle.tb_lanes.specs.Clocks.{Lanes}
use Rattle.tb_lanes.specs.Rows.{items_at}
use Rattle.tb_stream.specs.Ends.{AreRows, IsNoted, SoFar}
use Rattle.tb_stream.specs.Seen.{IsAdded, Run}
use Rattle.tb_stream.proofs.noting.note_rows.Given as goal

-- the end is in the rows of the items so far
abbrev pub invariant-loop-item : goal.invariant-loop-item
invariant-loop-item l = record {
  rows : (r : Run) (n : ℕ) (lanes : Lanes) → IsAdded r n lanes l.clocks l.mark → l.items ≡ items_at r.entries n → AreRows r (n + 1) lanes l.clocks.rows.items (IsNoted r n) l.fn.rows.entries
      → AreRows r (n + 1) lanes l.clocks.rows.items (SoFar r n l.parent l.item-index) l.rows.entries;
}
