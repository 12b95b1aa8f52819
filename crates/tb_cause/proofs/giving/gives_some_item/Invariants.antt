use Rattle.std.proofs.Common.{◌≡◌, false, take}
use Rattle.std.specs.List.{list_any}
use Rattle.tb_cause.specs.Asked.{item_gives}
use Rattle.tb_cause.specs.Keys.{has}
use Rattle.tb_cause.proofs.giving.gives_some_item.Given as goal

abbrev pub invariant-loop-item : goal.invariant-loop-item
invariant-loop-item l = list_any (item_gives (has l.keys) l.parent) (take l.item-index l.items) ≡ false
