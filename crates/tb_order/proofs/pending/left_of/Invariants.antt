use Rattle.std.proofs.Common.{◌≡◌, filter, take}
use Rattle.tb_order.specs.Pending.{is_left}
use Rattle.tb_order.proofs.pending.left_of.Given as goal

-- those among the bounds so far
abbrev pub invariant-loop-bound : goal.invariant-loop-bound
invariant-loop-bound l = l.left.items ≡ filter (is_left l.firsts) (take l.bound-index l.row)
