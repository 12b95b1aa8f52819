use Rattle.std.proofs.Common.{◌≡◌, ◌≤◌, true, take}
use Rattle.std.specs.List.{list_any}
use Rattle.tb_model.specs.Names.{Name, is_child, same_name}
use Rattle.tb_model.specs.Facts.{is_of}
use Rattle.tb_core.specs.Lending.{IsNoneBetween}
use Rattle.tb_cause.proofs.skipping.next_of_parents.Given as goal

-- the tasks that were asked
abbrev pub invariant-loop-n : goal.invariant-loop-n
invariant-loop-n l = record {
  low : l.from ≤ l.next;
  high : l.next ≤ l.end;
  none : (p u : Name) → list_any (same_name u) (take l.n l.set.keys) ≡ true → is_child p u ≡ true → IsNoneBetween (is_of p) l.indexed l.from l.next;
}
