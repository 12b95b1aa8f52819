use Rattle.std.proofs.Common.{◌≡◌, ◌≤◌, ◌+◌, ◌++◌, reverse, vec_len, vec_capacity}
use Rattle.tb_view.proofs.named_tasks.close.Given as goal

-- all tasks are on one of the two sides of the gap, and there is capacity for all in front of it
abbrev pub invariant-back : goal.invariant-back
invariant-back l = record {
  all : l.front.items ++ reverse l.back.items ≡ l.fn.front.items ++ reverse l.fn.back.items;
  room : vec_len l.front + vec_len l.back ≤ vec_capacity l.front;
}

abbrev pub decreases-back : goal.decreases-back
decreases-back l = goal.left-back l
