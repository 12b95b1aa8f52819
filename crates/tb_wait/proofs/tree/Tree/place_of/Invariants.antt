use Rattle.std.proofs.Common.{◌≡◌, ◌<◌, ◌+◌, ◌++◌, List, [], length}
use Rattle.tb_model.specs.Names.{Name}
use Rattle.tb_wait.specs.Kin.{Slot}
use Rattle.tb_wait.specs.Rows.{Fits, key}
use Rattle.tb_wait.proofs.tree.Tree.place_of.Given as goal

abbrev pub invariant-runs : goal.invariant-runs
invariant-runs l = record {
  last : l.run ≡ [] → l.parts ≡ [];
  here : (names : List Name) (slots : List Slot) → Fits names slots l.self.nodes → (l.at < length names) × (l.name ≡ (l.parts ++ l.run) ++ key names l.at);
}

abbrev pub decreases-runs : goal.decreases-runs
decreases-runs l = length l.parts + length l.run
