use Rattle.std.proofs.Common.{◌≡◌, ◌++◌, reverse}
use Rattle.tb_view.proofs.named_tasks.turn_to.Given as goal

-- all tasks are on one of the two sides of the gap
abbrev pub invariant-back : goal.invariant-back
invariant-back l = l.front.items ++ reverse l.back.items ≡ l.fn.front.items ++ reverse l.fn.back.items

abbrev pub decreases-back : goal.decreases-back
decreases-back l = l.left

abbrev pub invariant-on : goal.invariant-on
invariant-on l = l.front.items ++ reverse l.back.items ≡ l.fn.front.items ++ reverse l.fn.back.items

abbrev pub decreases-on : goal.decreases-on
decreases-on l = l.left
