use Rattle.std.proofs.Common.{◌≡◌, ◌≤◌, ◌*◌, length, take}
use Rattle.tb_steps.specs.Scans.{history_of}
use Rattle.tb_order.specs.Edges
use Rattle.tb_order.specs.Walks.{HasNeedsTo}
use Rattle.tb_order.proofs.all_edges.count_edges.Given as goal

-- as many as the stored steps so far have; no step has more than there are in front of it
abbrev pub invariant-loop-at : goal.invariant-loop-at
invariant-loop-at l = record {
  walk : HasNeedsTo l.entries l.at l.walk;
  count : l.count ≡ length (Edges.edges (history_of (take l.at l.entries)));
  few : l.count ≤ l.at * 1000000;
}
