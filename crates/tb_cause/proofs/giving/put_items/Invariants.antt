use Rattle.std.proofs.Common.{◌≡◌, ◌||◌, ◌&&◌, ℕ, take}
use Rattle.std.specs.List.{list_any}
use Rattle.indexmap.specs.IndexSet.{contains}
use Rattle.tb_model.specs.Names.{Name, same_name}
use Rattle.tb_cause.specs.Keys.{item_key, same_item_key}
use Rattle.tb_cause.proofs.giving.put_items.Given as goal

abbrev pub invariant-loop-item : goal.invariant-loop-item
invariant-loop-item l = (p : Name) (n c : ℕ) → contains same_item_key l.set (p, n, c)
    ≡ ((same_name l.parent p && list_any (item_key n c) (take l.item-index l.items)) || contains same_item_key l.initial.set (p, n, c))
