use Rattle.std.proofs.Common.{◌≡◌, ◌≤◌, ◌+◌, ◌++◌, length}
use Rattle.tb_model.specs.Facts.{own}
use Rattle.tb_model.specs.State.{open_groups_of}
use Rattle.tb_steps.specs.Scans.{history_of}
use Rattle.tb_core.proofs.GroupLemmas.{open_behind}
use Rattle.tb_core.proofs.groups.open_groups.Given as goal

-- what is found so far, and what the rest gives, are all open groups
abbrev pub invariant-back : goal.invariant-back
invariant-back l = record {
  found : l.ids.items ++ open_behind l.t l.closed (own l.t (history_of l.rest)) ≡ open_groups_of l.t (history_of l.entries);
  counted : l.left ≡ length (own l.t (history_of l.rest));
  fits : l.closed + length l.rest ≤ length l.entries;
  few : l.left ≤ length l.entries;
}

abbrev pub decreases-back : goal.decreases-back
decreases-back l = length l.rest
