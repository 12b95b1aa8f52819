use Rattle.std.proofs.Common.{◌+◌, ◌<◌, ◌≤◌, ℕ, Option, length, IsTrue}
use Rattle.tb_lanes.specs.Clocks.{Lanes, end_at, reaches}
use Rattle.tb_lanes.specs.Rows.{Key}
use Rattle.tb_stream.specs.Ends.{AreStored, IsMeant, ends_of}
use Rattle.tb_stream.specs.Seen.{IsAdded, Run, order}
use Rattle.tb_stream.proofs.noting.first_skipped.Given as goal

-- those that were passed come before
abbrev pub invariant-back : goal.invariant-back
invariant-back l = record {
  within : l.from ≤ length l.ends.items;
  passed : (r : Run) (n : ℕ) (lanes : Lanes) (meant : Option (Option (ℕ × ℕ) × Key)) → IsAdded r n lanes l.clocks l.mark → AreStored r (n + 1) lanes l.clocks.rows.items (IsMeant r n meant) l.ends
      → (j : ℕ) → l.from ≤ j → j < length l.ends.items → IsTrue (reaches (order r) r.entries n (end_at (ends_of l.ends) j));
}

abbrev pub decreases-back : goal.decreases-back
decreases-back l = l.from
