use Rattle.std.proofs.Common.{◌≡◌, ℕ}
use Rattle.tb_lanes.specs.Clocks as is
use Rattle.tb_lanes.specs.Clocks.{Lanes}
use Rattle.tb_stream.specs.Seen.{AreClocks, IsFull, IsMark, Run, order}
use Rattle.tb_stream.proofs.reaching.reaches.Given as goal

-- the step is reached exactly where it is from the one on the way up
abbrev pub invariant-up : goal.invariant-up
invariant-up l = record {
  same : (r : Run) (n : ℕ) (lanes : Lanes) → AreClocks r n lanes l.clocks → IsFull r n lanes l.clocks.rows.items l.fn.late → IsMark n lanes l.early
      → IsFull r n lanes l.clocks.rows.items l.mark × (is.reaches (order r) r.entries l.fn.late.at l.early.at ≡ is.reaches (order r) r.entries l.mark.at l.early.at);
}

abbrev pub decreases-up : goal.decreases-up
decreases-up l = l.mark.at
