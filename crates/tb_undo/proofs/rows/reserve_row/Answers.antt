use Rattle.std.proofs.Common.{sym, subst}
use Rattle.tb_undo.specs.Places.{rows_in}
use Rattle.tb_undo.specs.Sets.{Reserves}
use Rattle.tb_undo.specs.Tasks.{HasChildRoomIn}
use Rattle.tb_undo.proofs.SetsLemmas.{reserves_none}
use Rattle.tb_undo.proofs.rows.reserve_row.Goals as goal

pub returns-clause-succeeds : goal.returns-clause-succeeds
returns-clause-succeeds c room child =
    c.reserve_child.ensures.succeeds (subst (λ rows. HasChildRoomIn (rows_in rows) c.args.parent.now c.args.items.now c.args.deferred) (sym c.reserve_place.ensures.items) child)

pub returns-in_err-reserve_place-clause-rows : goal.returns-in_err-reserve_place-clause-rows
returns-in_err-reserve_place-clause-rows c =
    subst (λ rows. Reserves (rows_in c.args.rows.now.items) (rows_in rows)) (sym c.reserve_place.ensures.items) (reserves_none (rows_in c.args.rows.now.items))
