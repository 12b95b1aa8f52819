use Rattle.std.proofs.Common.{◌≡◌, ◌≤◌, take}
use Rattle.tb_model.specs.Facts.{own}
use Rattle.tb_steps.specs.Scans.{history_of}
use Rattle.tb_roll.proofs.matching.behind_last.Given as goal

-- those after what is left are of other tasks
abbrev pub invariant-back : goal.invariant-back
invariant-back l = record {
  within : l.left ≤ l.at;
  same : own l.task (history_of (take l.left l.entries)) ≡ own l.task (history_of (take l.at l.entries));
}

abbrev pub decreases-back : goal.decreases-back
decreases-back l = l.left
