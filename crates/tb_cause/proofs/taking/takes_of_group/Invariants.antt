use Rattle.std.proofs.Common.{◌≡◌, ◌≤◌, ◌+◌, length}
use Rattle.std.specs.List.{list_any}
use Rattle.indexmap.specs.IndexSet.{contains}
use Rattle.tb_model.specs.Names.{same_name}
use Rattle.tb_model.specs.Facts.{own, groups, innermost}
use Rattle.tb_steps.specs.Scans.{history_of}
use Rattle.tb_cause.proofs.GroupLemmas.{member_behind}
use Rattle.tb_cause.proofs.taking.takes_of_group.Given as goal

-- what is found so far, and what the rest gives, is what all gives
abbrev pub invariant-back : goal.invariant-back
invariant-back l = record {
  found : member_behind l.closed l.found (own l.task (history_of l.rest)) (contains same_name l.set) ≡ list_any (contains same_name l.set) (innermost (groups (own l.task (history_of l.front))));
  fits : l.closed + length l.rest ≤ length l.front;
}

abbrev pub decreases-back : goal.decreases-back
decreases-back l = length l.rest
