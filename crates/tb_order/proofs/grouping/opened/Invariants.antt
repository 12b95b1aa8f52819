use Rattle.std.proofs.Common.{◌≡◌, ◌≤◌, ◌+◌, take, slice_get, Some, false}
use Rattle.tb_steps.specs.Entries.{Entry}
use Rattle.tb_steps.specs.Scans.{history_of}
use Rattle.tb_steps.proofs.MemberLemmas.{member_behind}
use Rattle.tb_model.specs.Facts.{IsSpawned, is_member, own}
use Rattle.tb_model.specs.Names.{Name}
use Rattle.tb_lanes.specs.Clocks.{number}
use Rattle.tb_order.proofs.grouping.opened.Given as goal

-- of who was generated so far, the actions so far say who is a member
abbrev pub invariant-back : goal.invariant-back
invariant-back l = record {
  fits : l.closed + l.place ≤ l.at;
  same : number l.tasks l.place ≡ number l.tasks l.at;
  rest : (v : Entry) → slice_get l.entries l.at ≡ Some v → (m : Name) → IsSpawned (history_of (take l.place l.entries)) m
      → is_member (own v.event.task (history_of (take l.at l.entries))) m ≡ member_behind l.closed false (own v.event.task (history_of (take l.place l.entries))) m;
}

abbrev pub decreases-back : goal.decreases-back
decreases-back l = l.place
