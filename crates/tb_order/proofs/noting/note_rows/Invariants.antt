use Rattle.std.proofs.Common.{◌+◌}
use Rattle.tb_races.specs.Orders.{Order}
use Rattle.tb_lanes.specs.Clocks.{AreClocks}
use Rattle.tb_lanes.specs.Rows.{AreFit, AreRows, IsNoted}
use Rattle.tb_lanes.proofs.RowLemmas.{SoFar}
use Rattle.tb_order.proofs.noting.note_rows.Given as goal

-- the end is in the rows of the items so far
abbrev pub invariant-loop-item : goal.invariant-loop-item
invariant-loop-item l = record {
  fit : AreFit l.at l.rows.entries;
  rows : (o : Order) → AreClocks o l.entries l.tasks (l.at + 1) l.clocks → AreRows o l.entries (IsNoted l.entries l.tasks l.at) l.fn.rows.entries
      → AreRows o l.entries (SoFar l.entries l.tasks l.at l.item-index) l.rows.entries;
}
