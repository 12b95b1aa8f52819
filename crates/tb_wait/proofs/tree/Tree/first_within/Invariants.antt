use Rattle.std.proofs.Common.{◌≡◌, ◌<◌, ◌-◌, ◌++◌, true, List, length}
use Rattle.tb_model.specs.Names.{Name}
use Rattle.tb_wait.specs.Kin.{Slot}
use Rattle.tb_wait.specs.Rows.{Fits, key}
use Rattle.tb_wait.specs.Tree.{node, is_live}
use Rattle.tb_wait.proofs.SearchLemmas.{IsSoFar}
use Rattle.tb_wait.proofs.tree.Tree.first_within.Given as goal

abbrev pub invariant-loop-nodes : goal.invariant-loop-nodes
invariant-loop-nodes l = record {
  within : l.at < length l.self.nodes;
  live : is_live (node l.self.nodes l.at) ≡ true;
  below : (names : List Name) (slots : List Slot) → Fits names slots l.self.nodes → (x : Name) × (key names l.at ≡ x ++ key names l.start);
  so_far : (names : List Name) (slots : List Slot) (f : Fits names slots l.self.nodes) → IsSoFar names slots l.self.nodes f l.start l.at;
}

abbrev pub decreases-loop-nodes : goal.decreases-loop-nodes
decreases-loop-nodes l = length l.self.nodes - l.at
