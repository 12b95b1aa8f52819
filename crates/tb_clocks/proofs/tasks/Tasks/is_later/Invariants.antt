use Rattle.std.proofs.Common.{◌≡◌}
use Rattle.tb_model.specs.Facts.{History}
use Rattle.tb_model.specs.Legal.{Cells}
use Rattle.tb_model.specs.Names.{Name}
use Rattle.tb_model.specs.Siblings.{is_later}
use Rattle.tb_clocks.specs.Known.{AreTasks, HasId}
use Rattle.tb_clocks.proofs.tasks.Tasks.is_later.Given as goal

-- the walk is at the task or at an ancestor of it, of which the answer is the same
abbrev pub invariant-up : goal.invariant-up
invariant-up l = record {
  led : (cells : Cells) (H : History) (t m : Name) → AreTasks cells H l.self → HasId H l.task t → HasId H l.member m → (u : Name) × HasId H l.at u × (is_later t l.low m ≡ is_later t l.low u);
}

abbrev pub decreases-up : goal.decreases-up
decreases-up l = l.at
