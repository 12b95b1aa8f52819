use Rattle.std.proofs.Common.{◌≡◌, ◌+◌, ◌<◌, ◌≤◌, ℕ, Some, length, slice_get, IsTrue}
use Rattle.std.specs.Prelude.{slice_index_or}
use Rattle.tb_lanes.specs.Clocks.{Lanes, reaches}
use Rattle.tb_stream.specs.declared.access.Access.{Access}
use Rattle.tb_stream.specs.Keeping.{places}
use Rattle.tb_stream.specs.Seen.{IsAdded, IsMark, Run, order}
use Rattle.tb_stream.proofs.kept.unordered.Given as goal

-- those that were passed come before
abbrev pub invariant-back : goal.invariant-back
invariant-back l = record {
  within : l.left ≤ length l.row;
  passed : (r : Run) (n : ℕ) (lanes : Lanes) → IsAdded r n lanes l.clocks l.mark → ((j : ℕ) (a : Access) → slice_get l.row j ≡ Some a → IsMark (n + 1) lanes a.mark)
      → (j : ℕ) → l.left ≤ j → j < length (places l.row) → IsTrue (reaches (order r) r.entries n (slice_index_or (places l.row) j 0));
}

abbrev pub decreases-back : goal.decreases-back
decreases-back l = l.left
