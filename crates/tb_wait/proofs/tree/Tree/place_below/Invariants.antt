use Rattle.std.proofs.Common.{◌<◌, ◌≤◌, List, length}
use Rattle.tb_model.specs.Names.{Name}
use Rattle.tb_wait.specs.Kin.{Slot}
use Rattle.tb_wait.specs.Rows.{Fits}
use Rattle.tb_wait.proofs.FindingLemmas.{IsReached}
use Rattle.tb_wait.proofs.tree.Tree.place_below.Given as goal

abbrev pub invariant-loop-left : goal.invariant-loop-left
invariant-loop-left l = record {
  few : l.left ≤ length l.numbers;
  reached : (names : List Name) (slots : List Slot) → Fits names slots l.self.nodes → l.start < length names → IsReached names l.start l.numbers l.left l.at;
}

abbrev pub decreases-loop-left : goal.decreases-loop-left
decreases-loop-left l = l.left
