use Rattle.std.proofs.Common.{◌≡◌, ◌<◌, ◌≤◌, ◌+◌, ℕ, length}
use Rattle.std.specs.Prelude.{slice_index_or}
use Rattle.tb_lanes.specs.Clocks.{AreOrdinals}
use Rattle.tb_order.proofs.ordinals.ordinals_of.Given as goal

-- those of the stored steps so far
abbrev pub invariant-loop-at : goal.invariant-loop-at
invariant-loop-at l = record {
  listed : length l.ordinals.items ≡ l.at;
  low : (p : ℕ) → p < l.at → slice_index_or l.ordinals.items p 0 ≤ p + 1;
  told : AreOrdinals l.entries l.at l.ordinals.items;
}
