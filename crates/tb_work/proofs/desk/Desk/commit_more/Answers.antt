use Rattle.std.proofs.Common.{rules, ℕ, ◌≡◌, refl, ap, sym, ◌∙◌, Some}
use Rattle.tb_model.specs.declared.entry.Entry.{Entry}
use Rattle.tb_live.specs.Commits.{entry_to_come}
use Rattle.tb_live.specs.Session.{with_entry, with_seat}
use Rattle.tb_work.specs.declared.refused.Refused.TheVariants.{Run, CellTaken}
use Rattle.tb_core.specs.declared.step_refusal.StepRefusal.TheVariants.{Memory}
use Rattle.tb_live.specs.declared.commit_refusal.CommitRefusal.TheVariants.{Step}
use Rattle.tb_work.proofs.Desks.{agrees_more, agrees_claimed}
use Rattle.tb_work.proofs.Refusals.{plan_kept, short_of_memory, stepped_now}
use Rattle.tb_work.proofs.desk.Desk.commit_more.Goals as goal

pub invariant_of-self-2 : goal.invariant_of-self-2
invariant_of-self-2 g c =
    let d = c.args.self.now in
    let e = c.in-Ok-enter.ensures in
    let prepared = c.in-Ok.ensures.prepared in
    let s = with_entry c.prepare.new.self.session c.in-Ok.entry in
    let a = agrees_more g.N.Team.program g.N.Team.limit g.N.Team.breakpoints g.N.Team.seats g.N.Team.slots g.N.Team.begun d.live.session c.prepare.new.self.session s c.in-Ok.entry
    d.book.total c.enter.new.book.total _ _ _ _ c.next_place-place.result
    (record { program = d.program; limited = d.limit; breakpoints = d.breakpoints; seated = d.seats; begins = d.begins; counted = d.counted; named = d.cells; noted = d.known })
    c.in-Ok.ensures.session refl (search rules) (search rules) e.total (search rules) (search rules) in
    let same : c.number-2.result ≡ c.number.result = search rules in
    let claims : c.commit_prepared.new.self.session ≡ with_seat s c.number-2.result (Some c.args.plan.config.task) =
    c.commit_prepared.ensures.session ∙ ap (λ (n : ℕ). with_seat (with_entry c.prepare.new.self.session (entry_to_come n c.prepare.new.self.session c.args.plan)) c.number-2.result (Some c.args.plan.config.task)) same
    ∙ ap (λ (x : Entry). with_seat (with_entry c.prepare.new.self.session x) c.number-2.result (Some c.args.plan.config.task)) (sym prepared.entry) in
    let k = agrees_claimed g.N.Team.program g.N.Team.limit g.N.Team.breakpoints g.N.Team.seats g.N.Team.slots g.N.Team.begun s c.commit_prepared.new.self.session _ _ _ _ _ a claims in
    record {
      program = k.program;
      limit = k.limited;
      breakpoints = k.breakpoints;
      seats = k.seated;
      begins = k.begins;
      none_spare = d.none_spare;
      room_for_all = (d.room_for_all.0, search rules, d.room_for_all.2);
      some = d.some;
      counted = k.counted;
      cells = k.named;
      known = k.noted;
    }

pub returns-in-Err-clause-refused : goal.returns-in-Err-clause-refused
returns-in-Err-clause-refused g c =
    plan_kept c.args.self.now.live.session c.args.self.now.live.session c.number.result c.args.seat.now.number c.args.plan (Run c.in-Err.refusal) refl (search rules) c.in-Err.ensures.refused

pub returns-in-Err-CellTaken-clause-refused : goal.returns-in-Err-CellTaken-clause-refused
returns-in-Err-CellTaken-clause-refused g c =
    plan_kept c.args.self.now.live.session c.prepare.new.self.session c.number.result c.args.seat.now.number c.args.plan CellTaken c.in-Ok.ensures.session (search rules) c.in-Ok.ensures.prepared.may

pub returns-in-Err-Memory-clause-refused : goal.returns-in-Err-Memory-clause-refused
returns-in-Err-Memory-clause-refused g c =
    plan_kept c.args.self.now.live.session c.prepare.new.self.session c.number.result c.args.seat.now.number c.args.plan (Run (Step Memory)) c.in-Ok.ensures.session (search rules)
    (short_of_memory c.prepare.new.self.session c.number.result c.args.plan c.in-Ok.ensures.prepared.may)

pub returns-clause-may : goal.returns-clause-may
returns-clause-may g c =
    plan_kept c.args.self.now.live.session c.prepare.new.self.session c.number.result c.args.seat.now.number c.args.plan CellTaken c.in-Ok.ensures.session (search rules) c.in-Ok.ensures.prepared.may

pub returns-clause-taken : goal.returns-clause-taken
returns-clause-taken g c =
    stepped_now c.args.self.now.live.session c.prepare.new.self.session c.commit_prepared.new.self.session c.number-2.result c.args.seat.now.number c.args.plan c.in-Ok.ensures.session (search rules) c.commit_prepared.ensures.session
