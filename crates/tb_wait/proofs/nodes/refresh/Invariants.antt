use Rattle.std.proofs.Common.{◌≡◌, ◌<◌, length, vec_capacity}
use Rattle.tb_wait.specs.Tree.{IsLinked, AreChildren, KnowsLiveBut, SameButLive}
use Rattle.tb_wait.proofs.nodes.refresh.Given as goal

abbrev pub invariant-loop-at : goal.invariant-loop-at
invariant-loop-at l = record {
  capacity : vec_capacity l.nodes ≡ vec_capacity l.fn.nodes;
  same : SameButLive l.fn.nodes.items l.nodes.items;
  linked : IsLinked l.nodes.items;
  children : AreChildren l.nodes.items;
  within : l.at < length l.nodes.items;
  live : KnowsLiveBut l.nodes.items l.at;
}

abbrev pub decreases-loop-at : goal.decreases-loop-at
decreases-loop-at l = l.at
