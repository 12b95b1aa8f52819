use Rattle.std.proofs.Common.{◌≡◌, ◌<◌, ℕ, Some, slice_get, IsTrue}
use Rattle.std.specs.List.{list_any}
use Rattle.tb_model.specs.declared.item.Item.{Item}
use Rattle.tb_lanes.specs.Clocks.{Lanes}
use Rattle.tb_lanes.specs.Rows.{items_at, may_meet}
use Rattle.tb_stream.specs.Joins.{AreJoined, IsChildEnd, IsWaiting, Merges}
use Rattle.tb_stream.specs.Seen.{Run}
use Rattle.tb_stream.proofs.asked.merge_items.Given as goal

-- those that the items so far may meet are listed
abbrev pub invariant-loop-item : goal.invariant-loop-item
invariant-loop-item l = record {
  met : (r : Run) (n : ℕ) (lanes : Lanes) → IsWaiting r n lanes l.order l.waiter → AreJoined r n lanes l.order.clocks.rows.items l.waiter.step.lane l.initial.joined
      → Merges r n lanes l.order.clocks.rows.items l.waiter.step.lane
      (λ x. IsChildEnd r n l.waiter.parent x × ((i : ℕ) × (j : Item) × (i < l.item-index) × (slice_get l.items i ≡ Some j) × IsTrue (list_any (may_meet r.exclusion j) (items_at r.entries x))))
      l.initial.joined l.joined;
}
