use Rattle.std.proofs.Common.{◌≡◌, ◌≤◌, length, take}
use Rattle.tb_model.specs.State.{spawn_of}
use Rattle.tb_steps.specs.Scans.{history_of}
use Rattle.tb_cause.proofs.indexed.Indexed.spawn_of.Given as goal

-- none of those that were asked generates the task
abbrev pub invariant-back : goal.invariant-back
invariant-back l = record {
  same : spawn_of l.task (history_of (take l.left l.self)) ≡ spawn_of l.task (history_of l.self);
  within : l.left ≤ length l.self;
}

abbrev pub decreases-back : goal.decreases-back
decreases-back l = l.left
