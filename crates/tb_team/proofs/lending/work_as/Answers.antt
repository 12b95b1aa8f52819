use Rattle.std.proofs.Common.{rules, ap}
use Rattle.std.specs.Prelude.{Err}
use Rattle.tb_work.specs.declared.go_refusal.GoRefusal.{GoRefusal}
use Rattle.tb_team.proofs.Losses.{has_met}
use Rattle.tb_team.proofs.lending.work_as.Goals as goal

pub returns-in-Err-CellTaken : goal.returns-in-Err-CellTaken
returns-in-Err-CellTaken g c =
    has_met g.N.Team.program g.N.Team.limit g.N.Team.breakpoints g.N.Team.seats g.N.Team.begun c.args.team.now c.go.new.seats c.requires.numbers
    c.in-Err-CellTaken.ensures.grew (search rules) (c.in-Err-CellTaken.ensures.taken (ap (λ (r : GoRefusal). Err r) c.in-Err-CellTaken.field-0-is))
