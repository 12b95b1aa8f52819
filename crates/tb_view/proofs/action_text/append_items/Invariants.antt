use Rattle.std.proofs.Common.{◌≡◌, ◌++◌, drop}
use Rattle.tb_view.specs.Step.{items_text}
use Rattle.tb_view.proofs.action_text.append_items.Given as goal

-- the text so far, then the items that are left, is the whole
abbrev pub invariant-each : goal.invariant-each
invariant-each l = l.text ++ items_text (drop l.item-index l.items) ≡ l.fn.text ++ items_text l.items
