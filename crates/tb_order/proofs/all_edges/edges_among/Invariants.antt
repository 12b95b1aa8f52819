use Rattle.std.proofs.Common.{◌≡◌, take, reverse}
use Rattle.tb_steps.specs.Scans.{history_of}
use Rattle.tb_order.specs.Edges
use Rattle.tb_order.specs.Walks.{HasNeedsTo}
use Rattle.tb_order.proofs.all_edges.edges_among.Given as goal

-- those of the stored steps so far
abbrev pub invariant-loop-at : goal.invariant-loop-at
invariant-loop-at l = record {
  walk : HasNeedsTo l.entries l.at l.walk;
  edges : l.edges.items ≡ reverse (Edges.edges (history_of (take l.at l.entries)));
}
