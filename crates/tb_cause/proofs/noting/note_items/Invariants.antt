use Rattle.std.proofs.Common.{◌≡◌, ◌||◌, ℕ, take}
use Rattle.std.specs.List.{list_any}
use Rattle.indexmap.specs.IndexSet.{contains}
use Rattle.tb_model.specs.Names.{Name}
use Rattle.tb_cause.specs.Asked.{same_key}
use Rattle.tb_cause.specs.Keys.{Item, item_any, same_item_key}
use Rattle.tb_cause.proofs.noting.note_items.Given as goal

abbrev pub invariant-loop-item : goal.invariant-loop-item
invariant-loop-item l = (p : Name) (n c : ℕ) → contains same_item_key l.set (p, n, c)
    ≡ (list_any (item_any (λ a. same_key a (Item p n c)) l.parent l.starts) (take l.item-index l.items) || contains same_item_key l.initial.set (p, n, c))
