use Rattle.tb_lanes.specs.Numbering.{AreNewest, AreNumbered}
use Rattle.tb_order.proofs.numbering.tasks_of.Given as goal

-- those of the stored steps so far
abbrev pub invariant-loop-at : goal.invariant-loop-at
invariant-loop-at l = record {
  newest : AreNewest l.entries l.at l.newest.entries;
  numbered : AreNumbered l.entries l.at l.count l.tasks;
}
