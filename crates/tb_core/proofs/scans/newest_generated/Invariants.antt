use Rattle.std.proofs.Common.{◌≡◌, ◌≤◌, length}
use Rattle.tb_model.specs.Facts.{own}
use Rattle.tb_steps.specs.Scans.{history_of}
use Rattle.tb_core.proofs.scans.newest_generated.Given as goal

abbrev pub invariant-back : goal.invariant-back
invariant-back l = record {
  same : own l.t (history_of l.rest) ≡ own l.t (history_of l.front);
  within : length l.rest ≤ length l.front;
}

abbrev pub decreases-back : goal.decreases-back
decreases-back l = length l.rest
