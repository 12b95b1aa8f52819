use Rattle.std.proofs.Common.{◌≡◌, ◌<◌, ℕ, Some, slice_get, IsTrue}
use Rattle.std.specs.List.{list_any}
use Rattle.tb_model.specs.declared.item.Item.{Item}
use Rattle.tb_lanes.specs.Linking.{order_of}
use Rattle.tb_lanes.specs.Rows.{IsAsked, IsTold, JoinsMore, items_at, may_meet}
use Rattle.tb_order.proofs.asked.merge_items.Given as goal

-- those that the items so far may meet are listed
abbrev pub invariant-loop-item : goal.invariant-loop-item
invariant-loop-item l = record {
  more : JoinsMore l.entries l.tasks l.past l.waiter.lane l.waiter.at l.initial.joined l.joined;
  told : (x i : ℕ) (item : Item) → IsAsked (order_of l.past.exclusion) l.entries l.tasks l.waiter.at l.waiter.parent x → i < l.item-index
      → slice_get l.items i ≡ Some item
      → IsTrue (list_any (may_meet l.past.exclusion item) (items_at l.entries x)) → IsTold l.entries l.tasks l.past l.waiter.lane l.waiter.at l.joined x;
}
