use Rattle.std.proofs.Common.{◌≡◌, map, take}
use Rattle.tb_order.specs.Edges.{as_edge}
use Rattle.tb_order.proofs.immediate_all.edges_of.Given as goal

-- those of the causes so far
abbrev pub invariant-loop-cause : goal.invariant-loop-cause
invariant-loop-cause l = l.edges.items ≡ map (as_edge l.later) (take l.cause-index l.causes)
