use Rattle.std.proofs.Common.{rules, ◌≡◌, ◌<◌}
use Rattle.tb_journal.specs.Journals.{seat_of}
use Rattle.tb_work.specs.declared.kept.Kept.{Kept}
use Rattle.tb_work.proofs.Rising.{seat_more}
use Rattle.tb_work.proofs.entering.enter.Goals as goal

pub invariant_of-seat-2 : goal.invariant_of-seat-2
invariant_of-seat-2 g c =
    let i = c.seat.invariant in
    let own : seat_of c.args.entry ≡ c.seat.inside.number = search rules in
    let above : c.seat.inside.last < c.args.place = search rules in
    let m = seat_more {K = Kept g.row.N.Denot g.N.Team g.N.Ledger} (λ k. k.receipt) c.seat.inside.number c.seat.inside.last c.seat.inside.kept.items _ c.push_reserved.new.self.items _ c.reserve.ensures.items c.push_reserved.ensures.items i.2 i.3 i.4 above own in
    (search rules, search rules, m.0, m.1, m.2, i.5, search rules, i.7)
