use Rattle.std.proofs.Common.{◌≡◌}
use Rattle.tb_team.proofs.Records.{none_between}
use Rattle.tb_team.proofs.looking.none_met.Given as goal

-- what is left says what the whole says
abbrev pub invariant-loop-at : goal.invariant-loop-at
invariant-loop-at l = none_between l.points l.steps l.at l.to ≡ none_between l.points l.steps l.from l.to
