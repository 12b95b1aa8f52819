use Rattle.std.proofs.Common.{◌≤◌, ◌-◌, length}
use Rattle.tb_order.proofs.merging.first_free.Given as goal

-- those that are passed are in front
abbrev pub invariant-pass : goal.invariant-pass
invariant-pass l = l.from ≤ l.free

abbrev pub decreases-pass : goal.decreases-pass
decreases-pass l = length l.ends.places.items - l.free
