use Rattle.std.proofs.Common.{◌≡◌, drop}
use Rattle.tb_control.specs.Breaks.{met}
use Rattle.tb_control.proofs.breakpoints.first_met.Given as goal

abbrev pub invariant-loop-breakpoint : goal.invariant-loop-breakpoint
invariant-loop-breakpoint l =
    met l.line (record { task = l.task; action = l.action }) (drop l.breakpoint-index l.breakpoints)
    ≡ met l.line (record { task = l.task; action = l.action }) l.breakpoints
