use Rattle.std.proofs.Common.{◌≡◌, false, take}
use Rattle.std.specs.List.{list_any}
use Rattle.tb_cause.specs.Keys.{has, item_any}
use Rattle.tb_cause.proofs.taking.takes_some_item.Given as goal

abbrev pub invariant-loop-item : goal.invariant-loop-item
invariant-loop-item l = list_any (item_any (has l.keys) l.parent l.starts) (take l.item-index l.items) ≡ false
