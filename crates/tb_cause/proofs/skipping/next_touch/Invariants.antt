use Rattle.std.proofs.Common.{◌≡◌, ◌≤◌, ℕ, true, nat_eq, take}
use Rattle.std.specs.List.{list_any}
use Rattle.tb_model.specs.Facts.{touches}
use Rattle.tb_core.specs.Lending.{IsNoneBetween}
use Rattle.tb_cause.proofs.skipping.next_touch.Given as goal

-- the cells that were asked
abbrev pub invariant-loop-n : goal.invariant-loop-n
invariant-loop-n l = record {
  low : l.from ≤ l.next;
  high : l.next ≤ l.end;
  none : (c : ℕ) → list_any (nat_eq c) (take l.n l.set.keys) ≡ true → IsNoneBetween (λ v. touches c v.action) l.indexed l.from l.next;
}
