use Rattle.std.proofs.Common.{◌≤◌, ◌-◌}
use Rattle.tb_core.specs.Needing.{NoneOf}
use Rattle.tb_core.proofs.needing.next_needer_of.Given as goal

abbrev pub invariant-own : goal.invariant-own
invariant-own l = record {
  from : l.from ≤ l.next;
  to : l.next ≤ l.to;
  none : NoneOf l.task l.entries l.at l.from l.next;
}

abbrev pub decreases-own : goal.decreases-own
decreases-own l = l.to - l.next
