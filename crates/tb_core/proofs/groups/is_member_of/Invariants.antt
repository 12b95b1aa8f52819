use Rattle.std.proofs.Common.{◌≡◌, ◌≤◌, length}
use Rattle.tb_model.specs.Facts.{own}
use Rattle.tb_model.specs.State.{is_member_of}
use Rattle.tb_steps.specs.Scans.{history_of}
use Rattle.tb_core.proofs.groups.is_member_of.Given as goal

-- the newer steps of the task make it no member
abbrev pub invariant-back : goal.invariant-back
invariant-back l = record {
  same : is_member_of l.k (own l.t (history_of l.rest)) l.m ≡ is_member_of l.k (own l.t (history_of l.entries)) l.m;
  counted : l.left ≡ length (own l.t (history_of l.rest));
  within : length l.rest ≤ length l.entries;
}

abbrev pub decreases-back : goal.decreases-back
decreases-back l = length l.rest
