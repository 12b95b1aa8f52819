use Rattle.std.proofs.Common.{◌≡◌, ◌≤◌, ◌++◌, length}
use Rattle.tb_view.specs.Step.{items_text}
use Rattle.tb_view.proofs.short_line.put_items.Given as goal

-- the items that are left, then the text so far, is the whole
abbrev pub invariant-each : goal.invariant-each
invariant-each l = record {
  few : length l.rest ≤ length l.items;
  whole : items_text l.rest ++ l.text ≡ items_text l.items ++ l.fn.text;
}

abbrev pub decreases-each : goal.decreases-each
decreases-each l = length l.rest
