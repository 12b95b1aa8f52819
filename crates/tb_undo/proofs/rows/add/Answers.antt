use Rattle.std.proofs.Common.{arith, sym, ◌∙◌, subst}
use Rattle.tb_undo.specs.Places.{rows_in, AreInPlace}
use Rattle.tb_undo.specs.Sets.{Comes}
use Rattle.tb_undo.specs.Tasks.{seen_row}
use Rattle.tb_undo.proofs.ComingLemmas.{found_among, none_among, placed_there, comes_there, placed_last, comes_last, room_left}
use Rattle.tb_undo.proofs.rows.add.Goals as goal

pub returns-then-at-end-clause-placed : goal.returns-then-at-end-clause-placed
returns-then-at-end-clause-placed c =
    placed_there c.args.waits.now.tasks c.requires.can.0 c.args.rows.now.items c.requires.can.2 c.args.name.now c.requires.can.1 c.args.row c.requires.own
    c.unwrap_or-at.result (sym c.place.ensures ∙ found_among c.place.result c.len-end.result c.unwrap_or-at.result c.unwrap_or-at.ensures c.if-at-end.true)
    (omega (arith, c.if-at-end.true, c.len-end.ensures, c.args.rows.now.ok))

pub returns-then-at-end-clause-comes : goal.returns-then-at-end-clause-comes
returns-then-at-end-clause-comes c =
    comes_there c.args.waits.now.tasks c.requires.can.0 c.args.rows.now.items c.requires.can.2 c.args.name.now c.requires.can.1 c.args.row c.requires.own
    c.unwrap_or-at.result (sym c.place.ensures ∙ found_among c.place.result c.len-end.result c.unwrap_or-at.result c.unwrap_or-at.ensures c.if-at-end.true)
    (omega (arith, c.if-at-end.true, c.len-end.ensures, c.args.rows.now.ok)) c.requires.free

pub returns-else-at-end-clause-placed : goal.returns-else-at-end-clause-placed
returns-else-at-end-clause-placed c =
    subst (AreInPlace c.args.waits.now.tasks) (sym c.push_reserved.ensures.items)
    (placed_last c.args.waits.now.tasks c.requires.can.0 c.args.rows.now.items c.requires.can.2 c.args.name.now c.requires.can.1 c.args.row c.requires.own
    (λ i is w. none_among c.place.result c.len-end.result c.unwrap_or-at.result c.unwrap_or-at.ensures (λ less. omega (arith, less, c.if-at-end.false)) i (c.place.ensures ∙ is) (omega (arith, w, c.len-end.ensures, c.args.rows.now.ok))))

pub returns-else-at-end-clause-comes : goal.returns-else-at-end-clause-comes
returns-else-at-end-clause-comes c =
    subst (λ rows. Comes (rows_in c.args.rows.now.items) c.args.name.now (seen_row c.args.row) (rows_in rows)) (sym c.push_reserved.ensures.items)
    (comes_last c.args.waits.now.tasks c.requires.can.0 c.args.rows.now.items c.requires.can.2 c.args.name.now c.requires.can.1 c.args.row c.requires.own
    (λ i is w. none_among c.place.result c.len-end.result c.unwrap_or-at.result c.unwrap_or-at.ensures (λ less. omega (arith, less, c.if-at-end.false)) i (c.place.ensures ∙ is) (omega (arith, w, c.len-end.ensures, c.args.rows.now.ok)))
    c.requires.free)

pub push_reserved-requires : goal.push_reserved-requires
push_reserved-requires c =
    let room = room_left c.args.waits.now.tasks c.requires.can.0 c.args.rows.now.items c.requires.can.2 c.args.name.now c.requires.can.1 c.args.row c.requires.own
    (λ i is w. none_among c.place.result c.len-end.result c.unwrap_or-at.result c.unwrap_or-at.ensures (λ less. omega (arith, less, c.if-at-end.false)) i (c.place.ensures ∙ is) (omega (arith, w, c.len-end.ensures, c.args.rows.now.ok)))
    _ c.requires.can.3 in
    omega (arith, room, c.args.rows.now.ok)
