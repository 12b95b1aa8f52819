use Rattle.std.proofs.Common.{◌≡◌, filter, not, take}
use Rattle.tb_order.specs.Needed.{is_known}
use Rattle.tb_order.proofs.needing.untold.Given as goal

-- those among the indexes so far
abbrev pub invariant-loop-place : goal.invariant-loop-place
invariant-loop-place l = l.found.items ≡ filter (λ q. not (is_known l.entries l.tasks l.clocks l.step q)) (take l.place-index l.places)
