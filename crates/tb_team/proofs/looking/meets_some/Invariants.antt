use Rattle.std.proofs.Common.{◌≡◌, drop}
use Rattle.std.specs.Prelude.{is_some}
use Rattle.tb_live.specs.Breaks.{met}
use Rattle.tb_team.proofs.looking.meets_some.Given as goal

-- what is left says what the whole says
abbrev pub invariant-loop-point : goal.invariant-loop-point
invariant-loop-point l =
    is_some (met l.line (record { task = l.task; action = l.action }) (drop l.point-index l.points))
    ≡ is_some (met l.line (record { task = l.task; action = l.action }) l.points)
