use Rattle.std.proofs.Common.{sym, ◌∙◌}
use Rattle.tb_undo.specs.Places.{rows_in}
use Rattle.tb_undo.proofs.PlacesLemmas.{found, writes, stays}
use Rattle.tb_undo.proofs.SetsLemmas.{placed, unplaced, no_gap, sets_named, room_at, root_sets}
use Rattle.tb_undo.proofs.rows.hold.Goals as goal

pub hold-requires-clause-room : goal.hold-requires-clause-room
hold-requires-clause-room c held =
    let at = placed c.args.waits.now.tasks c.args.name.now c.in-Some.at c.in-Some.n (sym c.place_of.ensures.place ∙ c.in-Some.is) in
    room_at (rows_in c.args.rows.now.items) c.args.waits.now.tasks c.args.name.now c.in-Some.at c.in-Some.n at c.in-Some-index_mut.row
    (found c.args.waits.now.tasks c.args.rows.now.items c.requires.placed at.parent c.in-Some.at at.place c.index_mut.result.now c.index_mut.ensures.value c.in-Some-index_mut.row c.in-Some-index_mut.is) (c.requires.room held)

pub returns-in-Some-index_mut-clause-placed : goal.returns-in-Some-index_mut-clause-placed
returns-in-Some-index_mut-clause-placed c =
    let at = placed c.args.waits.now.tasks c.args.name.now c.in-Some.at c.in-Some.n (sym c.place_of.ensures.place ∙ c.in-Some.is) in
    stays c.args.waits.now.tasks c.args.rows.now.items c.requires.placed at.parent c.in-Some.at at.place c.index_mut.result.now c.index_mut.ensures.value
    c.in-Some-index_mut.row c.hold.new.self c.in-Some-index_mut.is c.hold.ensures.keeps.parent

pub returns-in-Some-index_mut-clause-sets : goal.returns-in-Some-index_mut-clause-sets
returns-in-Some-index_mut-clause-sets c =
    let at = placed c.args.waits.now.tasks c.args.name.now c.in-Some.at c.in-Some.n (sym c.place_of.ensures.place ∙ c.in-Some.is) in
    sets_named _ _ c.args.waits.now.tasks c.args.name.now c.in-Some.at c.in-Some.n at c.in-Some-index_mut.row c.hold.new.self
    (found c.args.waits.now.tasks c.args.rows.now.items c.requires.placed at.parent c.in-Some.at at.place c.index_mut.result.now c.index_mut.ensures.value c.in-Some-index_mut.row c.in-Some-index_mut.is)
    (writes c.args.waits.now.tasks c.args.rows.now.items c.requires.placed at.parent c.in-Some.at at.place c.index_mut.result.now c.index_mut.ensures.value
    c.in-Some-index_mut.row c.hold.new.self c.in-Some-index_mut.is c.hold.ensures.keeps.parent)
    c.args.held c.hold.ensures.task c.hold.ensures.set c.hold.ensures.keeps

pub returns-in_default-index_mut-clause-sets : goal.returns-in_default-index_mut-clause-sets
returns-in_default-index_mut-clause-sets c =
    absurd (no_gap c.args.waits.now.tasks c.args.rows.now.items c.args.name.now c.in-Some.at c.in-Some.n c.requires.placed (placed c.args.waits.now.tasks c.args.name.now c.in-Some.at c.in-Some.n (sym c.place_of.ensures.place ∙ c.in-Some.is)) c.requires.linked c.index_mut.result.now c.index_mut.ensures.value c.in_default-index_mut.is)

pub returns-in_default-clause-sets : goal.returns-in_default-clause-sets
returns-in_default-clause-sets c =
    root_sets (rows_in c.args.rows.now.items) c.args.name.now _ (unplaced c.args.waits.now.tasks c.args.rows.now.items c.args.name.now c.requires.placed c.requires.linked (sym c.place_of.ensures.place ∙ c.in_default.is))
