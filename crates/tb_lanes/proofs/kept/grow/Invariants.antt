use Rattle.std.proofs.Common.{◌≡◌, ◌+◌, ◌-◌, ℕ}
use Rattle.tb_lanes.specs.Clocks.{kept_in}
use Rattle.tb_lanes.proofs.kept.grow.Given as goal

-- what is added is empty
abbrev pub invariant-loop-alloc : goal.invariant-loop-alloc
invariant-loop-alloc l = (j : ℕ) → kept_in l.rows.items j ≡ kept_in l.initial.rows.items j

abbrev pub decreases-loop-alloc : goal.decreases-loop-alloc
decreases-loop-alloc l = (l.i + 1) - l.rows.len
