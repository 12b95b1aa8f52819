use Rattle.std.proofs.Common.{rules, ◌≡◌, Some, sym}
use Rattle.tb_work.proofs.Bursting.{grew_burst}
use Rattle.tb_work.proofs.Endings.{ends_behind}
use Rattle.tb_work.proofs.shared.Shared.turn.Goals as goal

pub returns-in-None-clause-grew : goal.returns-in-None-clause-grew
returns-in-None-clause-grew g c = grew_burst g.N.Team.program c.in-Ok.plans.items c.args.seat.now c.commit_burst-burst.new.seat c.commit_burst-burst.result c.commit_burst-burst.ensures.seat

pub returns-clause-grew : goal.returns-clause-grew
returns-clause-grew g c = grew_burst g.N.Team.program c.in-Ok.plans.items c.args.seat.now c.commit_burst-burst.new.seat c.commit_burst-burst.result c.commit_burst-burst.ensures.seat

pub returns-clause-told : goal.returns-clause-told
returns-clause-told g c =
    let refused : c.commit_burst-burst.result.refusal ≡ Some c.in-Some.refusal = search rules in
    let a = c.commit_burst-burst.ensures.answer in
    ends_behind g.N.Team.program g.N.Team.limit g.N.Team.breakpoints g.N.Team.seats g.N.Team.begun c.args.seat.now.number c.in-Ok.plans.items c.commit_burst-burst.result
    c.in-Some.refusal c.turn_behind.result (record { old = a.old; new = a.new; team = a.team; right = a.right.takes }) refused (sym c.turn_behind.ensures)
