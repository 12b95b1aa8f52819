use Rattle.std.proofs.Common.{◌≡◌, ◌<◌, ◌||◌, ℕ}
use Rattle.tb_lanes.specs.Bounds.{AreRising, bound_among}
use Rattle.tb_lanes.specs.Clocks.{IsLow, Lanes, origin, origin_reaches, reaches, says}
use Rattle.tb_stream.specs.Seen.{AreClocks, IsFull, Run, order}
use Rattle.tb_stream.proofs.joining.join.Given as goal

-- what was gathered, and what the way up adds, is what the end reaches
abbrev pub invariant-up : goal.invariant-up
invariant-up l = record {
  rows : l.rows.items ≡ l.fn.rows.items;
  full : (r : Run) (n : ℕ) (lanes : Lanes) → AreClocks r n lanes l.clocks → IsFull r n lanes l.clocks.rows.items l.fn.end → IsFull r n lanes l.clocks.rows.items l.mark;
  rising : (r : Run) (n : ℕ) (lanes : Lanes) → AreClocks r n lanes l.clocks → IsFull r n lanes l.clocks.rows.items l.fn.end → AreRising l.more.items;
  same : (r : Run) (n : ℕ) (lanes : Lanes) → AreClocks r n lanes l.clocks → IsFull r n lanes l.clocks.rows.items l.fn.end
      → (q : ℕ) → q < n → (says (bound_among l.more.items) (lanes.lane q) q || origin_reaches (order r) r.entries (origin r.tasks l.mark.at) q) ≡ reaches (order r) r.entries l.fn.end.at q;
  low : (r : Run) (n : ℕ) (lanes : Lanes) → AreClocks r n lanes l.clocks → IsFull r n lanes l.clocks.rows.items l.fn.end → IsLow (bound_among l.more.items) n;
}

abbrev pub decreases-up : goal.decreases-up
decreases-up l = l.mark.at
