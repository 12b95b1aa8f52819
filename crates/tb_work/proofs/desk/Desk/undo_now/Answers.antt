use Rattle.std.proofs.Common.{rules, ℕ, ◌≡◌, refl, ap, ◌∙◌}
use Rattle.tb_model.specs.declared.entry.Entry.TheVariants.{Rolled}
use Rattle.tb_work.specs.declared.refused.Refused.TheVariants.{Run, CellTaken}
use Rattle.tb_core.specs.declared.undo_refusal.UndoRefusal.TheVariants.{Memory}
use Rattle.tb_work.proofs.Desks.{agrees_more}
use Rattle.tb_work.proofs.Refusals.{takes_now, undo_kept, undone_now, undo_short_of_memory}
use Rattle.tb_work.proofs.desk.Desk.undo_now.Goals as goal

pub invariant_of-self-2 : goal.invariant_of-self-2
invariant_of-self-2 g c =
    let d = c.args.self.now in
    let e = c.in-Ok-enter.ensures in
    let prepared = c.in-Ok.ensures.prepared in
    let a = agrees_more g.N.Team.program g.N.Team.limit g.N.Team.breakpoints g.N.Team.seats g.N.Team.slots g.N.Team.begun d.live.session c.ready_undo.new.live.session c.take_back.new.live.session c.in-Ok.entry
    d.book.total c.enter.new.book.total _ _ _ _ c.next_place-place.result
    (record { program = d.program; limited = d.limit; breakpoints = d.breakpoints; seated = d.seats; begins = d.begins; counted = d.counted; named = d.cells; noted = d.known })
    c.in-Ok.ensures.session (search rules) (search rules) (search rules) e.total (search rules) (search rules) in
    record {
      program = a.program;
      limit = a.limited;
      breakpoints = a.breakpoints;
      seats = a.seated;
      begins = a.begins;
      none_spare = d.none_spare;
      room_for_all = (d.room_for_all.0, search rules, d.room_for_all.2);
      some = d.some;
      counted = a.counted;
      cells = a.named;
      known = a.noted;
    }

pub returns-in-Err-clause-refused : goal.returns-in-Err-clause-refused
returns-in-Err-clause-refused g c =
    undo_kept c.args.self.now.live.session c.args.self.now.live.session c.number.result c.args.seat.now.number c.args.id.now (Run c.in-Err.refusal) refl (search rules) c.in-Err.ensures.refused

pub returns-in-Err-CellTaken-clause-refused : goal.returns-in-Err-CellTaken-clause-refused
returns-in-Err-CellTaken-clause-refused g c =
    undo_kept c.args.self.now.live.session c.ready_undo.new.live.session c.number.result c.args.seat.now.number c.args.id.now CellTaken c.in-Ok.ensures.session (search rules) c.in-Ok.ensures.may

pub returns-in-Err-Memory-clause-refused : goal.returns-in-Err-Memory-clause-refused
returns-in-Err-Memory-clause-refused g c =
    undo_kept c.args.self.now.live.session c.ready_undo.new.live.session c.number.result c.args.seat.now.number c.args.id.now (Run Memory) c.in-Ok.ensures.session (search rules)
    (undo_short_of_memory c.ready_undo.new.live.session c.number.result c.args.id.now c.in-Ok.ensures.may)

pub returns-clause-undone : goal.returns-clause-undone
returns-clause-undone g c =
    undone_now c.args.self.now.live.session c.ready_undo.new.live.session c.take_back.new.live.session c.number-2.result c.args.seat.now.number c.args.id.now c.take_back.result
    c.in-Ok.ensures.session (search rules) c.take_back.ensures.undone

pub returns-clause-takes : goal.returns-clause-takes
returns-clause-takes g c =
    let named : c.number.result ≡ c.args.seat.now.number = search rules in
    takes_now c.args.self.now.live.session c.ready_undo.new.live.session c.next_place-place.result c.in-Ok.entry (Rolled c.args.seat.now.number c.args.id.now) c.args.seat.now c.enter.new.seat
    c.in-Ok.ensures.session c.next_place-place.ensures (c.in-Ok.ensures.prepared.entry ∙ ap (λ (n : ℕ). Rolled n c.args.id.now) named) c.in-Ok-enter.ensures.grew
