use Rattle.std.proofs.Common.{sym, ◌∙◌}
use Rattle.tb_undo.specs.Places.{rows_in}
use Rattle.tb_undo.proofs.PlacesLemmas.{found, writes, stays}
use Rattle.tb_wait.proofs.WaitLemmas.{on_ok_from}
use Rattle.tb_undo.proofs.SetsLemmas.{placed, unplaced, no_gap, reserves, room_at, room_named, root_room}
use Rattle.tb_undo.proofs.rows.reserve_hold.Goals as goal

pub returns-in-Some-index_mut-clause-placed : goal.returns-in-Some-index_mut-clause-placed
returns-in-Some-index_mut-clause-placed c =
    let at = placed c.args.waits.now.tasks c.args.name.now c.in-Some.at c.in-Some.n (sym c.place_of.ensures.place ∙ c.in-Some.is) in
    stays c.args.waits.now.tasks c.args.rows.now.items c.requires.placed at.parent c.in-Some.at at.place c.index_mut.result.now c.index_mut.ensures.value
    c.in-Some-index_mut.row c.reserve_hold.new.self c.in-Some-index_mut.is c.reserve_hold.ensures.keeps.parent

pub returns-in-Some-index_mut-clause-same : goal.returns-in-Some-index_mut-clause-same
returns-in-Some-index_mut-clause-same c =
    let at = placed c.args.waits.now.tasks c.args.name.now c.in-Some.at c.in-Some.n (sym c.place_of.ensures.place ∙ c.in-Some.is) in
    reserves _ _ at.parent c.in-Some-index_mut.row c.reserve_hold.new.self
    (found c.args.waits.now.tasks c.args.rows.now.items c.requires.placed at.parent c.in-Some.at at.place c.index_mut.result.now c.index_mut.ensures.value c.in-Some-index_mut.row c.in-Some-index_mut.is)
    (writes c.args.waits.now.tasks c.args.rows.now.items c.requires.placed at.parent c.in-Some.at at.place c.index_mut.result.now c.index_mut.ensures.value
    c.in-Some-index_mut.row c.reserve_hold.new.self c.in-Some-index_mut.is c.reserve_hold.ensures.keeps.parent)
    c.reserve_hold.ensures.task c.reserve_hold.ensures.same c.reserve_hold.ensures.keeps c.reserve_hold.ensures.rooms

pub returns-in-Some-index_mut-clause-ok : goal.returns-in-Some-index_mut-clause-ok
returns-in-Some-index_mut-clause-ok c =
    let at = placed c.args.waits.now.tasks c.args.name.now c.in-Some.at c.in-Some.n (sym c.place_of.ensures.place ∙ c.in-Some.is) in
    on_ok_from c.reserve_hold.result
    (room_named _ _ c.args.waits.now.tasks c.args.name.now c.in-Some.at c.in-Some.n at c.in-Some-index_mut.row c.reserve_hold.new.self
    (found c.args.waits.now.tasks c.args.rows.now.items c.requires.placed at.parent c.in-Some.at at.place c.index_mut.result.now c.index_mut.ensures.value c.in-Some-index_mut.row c.in-Some-index_mut.is)
    (writes c.args.waits.now.tasks c.args.rows.now.items c.requires.placed at.parent c.in-Some.at at.place c.index_mut.result.now c.index_mut.ensures.value
    c.in-Some-index_mut.row c.reserve_hold.new.self c.in-Some-index_mut.is c.reserve_hold.ensures.keeps.parent)
    c.reserve_hold.ensures.task)
    c.reserve_hold.ensures.ok

pub returns-in-Some-index_mut-clause-succeeds : goal.returns-in-Some-index_mut-clause-succeeds
returns-in-Some-index_mut-clause-succeeds c room =
    let at = placed c.args.waits.now.tasks c.args.name.now c.in-Some.at c.in-Some.n (sym c.place_of.ensures.place ∙ c.in-Some.is) in
    c.reserve_hold.ensures.succeeds
    (room_at (rows_in c.args.rows.now.items) c.args.waits.now.tasks c.args.name.now c.in-Some.at c.in-Some.n at c.in-Some-index_mut.row
    (found c.args.waits.now.tasks c.args.rows.now.items c.requires.placed at.parent c.in-Some.at at.place c.index_mut.result.now c.index_mut.ensures.value c.in-Some-index_mut.row c.in-Some-index_mut.is) room)

pub returns-in_default-index_mut-clause-same : goal.returns-in_default-index_mut-clause-same
returns-in_default-index_mut-clause-same c =
    absurd (no_gap c.args.waits.now.tasks c.args.rows.now.items c.args.name.now c.in-Some.at c.in-Some.n c.requires.placed (placed c.args.waits.now.tasks c.args.name.now c.in-Some.at c.in-Some.n (sym c.place_of.ensures.place ∙ c.in-Some.is)) c.requires.linked c.index_mut.result.now c.index_mut.ensures.value c.in_default-index_mut.is)

pub returns-in_default-index_mut-clause-ok : goal.returns-in_default-index_mut-clause-ok
returns-in_default-index_mut-clause-ok c =
    absurd (no_gap c.args.waits.now.tasks c.args.rows.now.items c.args.name.now c.in-Some.at c.in-Some.n c.requires.placed (placed c.args.waits.now.tasks c.args.name.now c.in-Some.at c.in-Some.n (sym c.place_of.ensures.place ∙ c.in-Some.is)) c.requires.linked c.index_mut.result.now c.index_mut.ensures.value c.in_default-index_mut.is)

pub returns-in_default-clause-ok : goal.returns-in_default-clause-ok
returns-in_default-clause-ok c =
    root_room (rows_in c.args.rows.now.items) c.args.name.now (unplaced c.args.waits.now.tasks c.args.rows.now.items c.args.name.now c.requires.placed c.requires.linked (sym c.place_of.ensures.place ∙ c.in_default.is))
