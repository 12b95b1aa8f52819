use Rattle.std.proofs.Common.{sym, ap, subst}
use Rattle.tb_undo.specs.Places.{HasPlaceOrRoom}
use Rattle.tb_undo.specs.State.{Seen}
use Rattle.tb_undo.specs.Tasks.{HasChildRoomIn}
use Rattle.tb_undo.proofs.tables.Tables.reserve_row.Goals as goal

pub returns-clause-succeeds : goal.returns-clause-succeeds
returns-clause-succeeds c room child =
    c.reserve_row.ensures.succeeds (subst (λ (s : Seen). HasPlaceOrRoom s.waits.tasks c.args.child.now s.row_room) (sym c.self.view_is) room)
    (subst (λ rows. HasChildRoomIn rows c.args.parent.now c.args.items.now c.args.deferred) (sym (ap (λ s. s.rows) c.self.view_is)) child)
