use Rattle.std.proofs.Common.{rules}
use Rattle.tb_work.proofs.Desks.{agrees_more}
use Rattle.tb_work.proofs.Refusals.{committed_now, taken_now, short_now, run_refuses}
use Rattle.tb_work.proofs.desk.Desk.commit_now.Goals as goal

pub invariant_of-self-2 : goal.invariant_of-self-2
invariant_of-self-2 g c =
    let d = c.args.self.now in
    let e = c.in-Ok-enter.ensures in
    let prepared = c.in-Ok.ensures.prepared in
    let a = agrees_more g.N.Team.program g.N.Team.limit g.N.Team.breakpoints g.N.Team.seats g.N.Team.slots g.N.Team.begun d.live.session c.prepare.new.self.session c.take_step.new.live.session c.in-Ok.entry
    d.book.total c.enter.new.book.total _ _ _ _ c.next_place-place.result
    (record { program = d.program; limited = d.limit; breakpoints = d.breakpoints; seated = d.seats; begins = d.begins; counted = d.counted; named = d.cells; noted = d.known })
    c.in-Ok.ensures.session (search rules) (search rules) (search rules) e.total (search rules) (search rules) in
    record {
      program = a.program;
      limit = a.limited;
      breakpoints = a.breakpoints;
      seats = a.seated;
      begins = a.begins;
      none_spare = d.none_spare;
      room_for_all = (d.room_for_all.0, search rules, d.room_for_all.2);
      some = d.some;
      counted = a.counted;
      cells = a.named;
      known = a.noted;
    }

pub returns-in-Err-clause-run : goal.returns-in-Err-clause-run
returns-in-Err-clause-run g c =
    run_refuses c.args.self.now.live.session c.prepare.new.self.session c.number.result c.args.plan c.in-Err.refusal c.args.seat.now c.in-Err.ensures.session (search rules) c.in-Err.ensures.refused

pub returns-in-Err-CellTaken-clause-run : goal.returns-in-Err-CellTaken-clause-run
returns-in-Err-CellTaken-clause-run g c =
    taken_now c.args.self.now.live.session c.prepare.new.self.session c.number.result c.args.plan c.args.seat.now c.enter.new.seat c.in-Ok.ensures.session (search rules) (search rules) c.in-Ok.ensures.prepared.may

pub returns-in-Err-Memory-clause-run : goal.returns-in-Err-Memory-clause-run
returns-in-Err-Memory-clause-run g c =
    short_now c.args.self.now.live.session c.prepare.new.self.session c.number.result c.args.plan c.args.seat.now c.enter.new.seat c.in-Ok.ensures.session (search rules) (search rules) c.in-Ok.ensures.prepared.may

pub returns-clause-run : goal.returns-clause-run
returns-clause-run g c =
    committed_now c.args.self.now.live.session c.prepare.new.self.session c.take_step.new.live.session c.number.result c.number-2.result c.take_step.result c.next_place-place.result c.args.plan c.in-Ok.entry
    c.args.seat.now c.enter.new.seat c.in-Ok.ensures.session (search rules) (search rules) c.in-Ok.ensures.prepared.may c.take_step.ensures.place c.take_step.ensures.session
    c.next_place-place.ensures c.in-Ok.ensures.prepared.entry c.in-Ok-enter.ensures.grew
