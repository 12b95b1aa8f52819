use Rattle.std.proofs.Common.{◌≡◌, ◌≤◌, true, take}
use Rattle.std.specs.List.{list_any}
use Rattle.tb_model.specs.Names.{Name, same_name}
use Rattle.tb_model.specs.Facts.{is_of}
use Rattle.tb_core.specs.Lending.{IsNoneBetween}
use Rattle.tb_cause.proofs.skipping.next_of.Given as goal

-- the tasks that were asked
abbrev pub invariant-loop-n : goal.invariant-loop-n
invariant-loop-n l = record {
  low : l.from ≤ l.next;
  high : l.next ≤ l.end;
  none : (t : Name) → list_any (same_name t) (take l.n l.set.keys) ≡ true → IsNoneBetween (is_of t) l.indexed l.from l.next;
}
