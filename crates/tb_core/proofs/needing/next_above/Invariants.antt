use Rattle.std.proofs.Common.{◌≤◌, ℕ, suc, Option, Some, None, length}
use Rattle.tb_model.specs.Names.{Name}
use Rattle.tb_core.specs.Needing.{OnlyAbove}
use Rattle.tb_core.proofs.needing.next_above.Given as goal

-- how many tasks are left
abbrev left : Option Name → ℕ
left None = 0
left (Some t) = suc (length t)

abbrev pub invariant-up : goal.invariant-up
invariant-up l = record {
  from : l.from ≤ l.next;
  within : l.next ≤ length l.entries;
  only : OnlyAbove l.above l.entries l.at l.from l.next;
}

abbrev pub decreases-up : goal.decreases-up
decreases-up l = left l.above
