use Rattle.std.proofs.Common.{◌≤◌, ◌-◌}
use Rattle.tb_stream.proofs.placing.first_free.Given as goal

-- it goes on
abbrev pub invariant-pass : goal.invariant-pass
invariant-pass l = l.initial.free ≤ l.free

abbrev pub decreases-pass : goal.decreases-pass
decreases-pass l = l.order.ends.len - l.free
