use Rattle.std.proofs.Common.{◌≤◌, ◌-◌, length}
use Rattle.tb_core.specs.Needing.{NoneNeeds}
use Rattle.tb_core.proofs.needing.scanned_wait.Given as goal

abbrev pub invariant-past : goal.invariant-past
invariant-past l = record {
  from : l.from ≤ l.next;
  within : l.next ≤ length l.entries;
  none : NoneNeeds l.entries l.at l.from l.next;
}

abbrev pub decreases-past : goal.decreases-past
decreases-past l = length l.entries - l.next
