use Rattle.std.proofs.Common.{◌≡◌, ◌++◌, drop, codes}
use Rattle.tb_view.specs.Listing.{joined, listed, lines_of}
use Rattle.tb_view.specs.Tasks.{item_line}
use Rattle.tb_view.proofs.task_text.append_items.Given as goal

-- the text so far, and the lines of the items that are left, are the whole
abbrev pub invariant-items : goal.invariant-items
invariant-items l = l.text ++ joined (lines_of item_line (drop l.item-index l.items)) ≡ l.fn.text ++ listed (codes "items") (lines_of item_line l.items)
