use Rattle.std.proofs.Common.{◌≡◌, ◌≤◌, ◌+◌, length}
use Rattle.tb_model.specs.Facts.{own}
use Rattle.tb_steps.specs.Scans.{history_of}
use Rattle.tb_core.proofs.places.steps_of.Given as goal

-- those that were counted, and those of the rest, are all
abbrev pub invariant-back : goal.invariant-back
invariant-back l = record {
  counted : l.count + length (own l.t (history_of l.rest)) ≡ length (own l.t (history_of l.entries));
  within : l.count + length l.rest ≤ length l.entries;
}

abbrev pub decreases-back : goal.decreases-back
decreases-back l = length l.rest
