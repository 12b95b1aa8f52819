use Rattle.std.proofs.Common.{sym, ap, ◌∙◌, subst}
use Rattle.tb_undo.specs.Places.{rows_in}
use Rattle.tb_undo.specs.Sets.{Reserves}
use Rattle.tb_undo.specs.Tasks.{HasChildRoomIn}
use Rattle.tb_undo.proofs.PlacesLemmas.{found, missing, same_rows, writes, stays, no_row}
use Rattle.tb_wait.proofs.WaitLemmas.{on_ok_from}
use Rattle.tb_undo.proofs.SetsLemmas.{reserves_row, reserves_none, child_room_there, no_child_room}
use Rattle.tb_undo.proofs.rows.reserve_child.Goals as goal

pub returns-in-Some-index_mut-clause-placed : goal.returns-in-Some-index_mut-clause-placed
returns-in-Some-index_mut-clause-placed c =
    stays c.args.waits.now.tasks c.args.rows.now.items c.requires c.args.name.now c.in-Some.at (sym c.find.ensures ∙ c.in-Some.is) c.index_mut.result.now c.index_mut.ensures.value
    c.in-Some-index_mut.row c.reserve_child.new.self c.in-Some-index_mut.is (ap (λ h. h.parent) c.reserve_child.ensures.holders)

pub returns-in-Some-index_mut-clause-rows : goal.returns-in-Some-index_mut-clause-rows
returns-in-Some-index_mut-clause-rows c =
    reserves_row _ _ c.args.name.now c.in-Some-index_mut.row c.reserve_child.new.self
    (found c.args.waits.now.tasks c.args.rows.now.items c.requires c.args.name.now c.in-Some.at (sym c.find.ensures ∙ c.in-Some.is) c.index_mut.result.now c.index_mut.ensures.value c.in-Some-index_mut.row c.in-Some-index_mut.is)
    (writes c.args.waits.now.tasks c.args.rows.now.items c.requires c.args.name.now c.in-Some.at (sym c.find.ensures ∙ c.in-Some.is) c.index_mut.result.now c.index_mut.ensures.value
    c.in-Some-index_mut.row c.reserve_child.new.self c.in-Some-index_mut.is (ap (λ h. h.parent) c.reserve_child.ensures.holders))
    c.reserve_child.ensures.task c.reserve_child.ensures.holders c.reserve_child.ensures.keeps

pub returns-in-Some-index_mut-clause-ok : goal.returns-in-Some-index_mut-clause-ok
returns-in-Some-index_mut-clause-ok c =
    on_ok_from c.reserve_child.result
    (child_room_there _ _ c.args.name.now c.in-Some-index_mut.row c.reserve_child.new.self
    (found c.args.waits.now.tasks c.args.rows.now.items c.requires c.args.name.now c.in-Some.at (sym c.find.ensures ∙ c.in-Some.is) c.index_mut.result.now c.index_mut.ensures.value c.in-Some-index_mut.row c.in-Some-index_mut.is)
    (writes c.args.waits.now.tasks c.args.rows.now.items c.requires c.args.name.now c.in-Some.at (sym c.find.ensures ∙ c.in-Some.is) c.index_mut.result.now c.index_mut.ensures.value
    c.in-Some-index_mut.row c.reserve_child.new.self c.in-Some-index_mut.is (ap (λ h. h.parent) c.reserve_child.ensures.holders))
    c.args.items.now c.args.deferred)
    c.reserve_child.ensures.ok

pub returns-in-Some-index_mut-clause-succeeds : goal.returns-in-Some-index_mut-clause-succeeds
returns-in-Some-index_mut-clause-succeeds c room =
    c.reserve_child.ensures.succeeds (room c.in-Some-index_mut.row (found c.args.waits.now.tasks c.args.rows.now.items c.requires c.args.name.now c.in-Some.at (sym c.find.ensures ∙ c.in-Some.is) c.index_mut.result.now c.index_mut.ensures.value c.in-Some-index_mut.row c.in-Some-index_mut.is))

pub returns-in_default-index_mut-clause-ok : goal.returns-in_default-index_mut-clause-ok
returns-in_default-index_mut-clause-ok c =
    subst (λ rows. HasChildRoomIn (rows_in rows) c.args.name.now c.args.items.now c.args.deferred)
    (sym (same_rows c.args.waits.now.tasks c.args.rows.now.items c.requires c.args.name.now c.in-Some.at (sym c.find.ensures ∙ c.in-Some.is) c.index_mut.result.now c.index_mut.ensures.value))
    (no_child_room (rows_in c.args.rows.now.items) c.args.name.now c.args.items.now c.args.deferred
    (missing c.args.waits.now.tasks c.args.rows.now.items c.requires c.args.name.now c.in-Some.at (sym c.find.ensures ∙ c.in-Some.is) c.index_mut.result.now c.index_mut.ensures.value c.in_default-index_mut.is))

pub returns-in_default-index_mut-clause-rows : goal.returns-in_default-index_mut-clause-rows
returns-in_default-index_mut-clause-rows c =
    subst (λ rows. Reserves (rows_in c.args.rows.now.items) (rows_in rows))
    (sym (same_rows c.args.waits.now.tasks c.args.rows.now.items c.requires c.args.name.now c.in-Some.at (sym c.find.ensures ∙ c.in-Some.is) c.index_mut.result.now c.index_mut.ensures.value))
    (reserves_none (rows_in c.args.rows.now.items))

pub returns-in_default-clause-ok : goal.returns-in_default-clause-ok
returns-in_default-clause-ok c =
    no_child_room (rows_in c.args.rows.now.items) c.args.name.now c.args.items.now c.args.deferred (no_row c.args.waits.now.tasks c.args.rows.now.items c.requires c.args.name.now (sym c.find.ensures ∙ c.in_default.is))
