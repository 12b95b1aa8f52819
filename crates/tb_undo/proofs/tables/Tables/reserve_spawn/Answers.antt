use Rattle.std.proofs.Common.{sym, subst}
use Rattle.std.specs.Result.{IsOk}
use Rattle.std.proofs.lemmas.Bool.{false≢true}
use Rattle.tb_undo.specs.State.{Seen}
use Rattle.tb_undo.specs.Changes.{AreSame, HasFamilyRoom}
use Rattle.tb_wait.proofs.WaitLemmas.{on_ok_from}
use Rattle.tb_undo.proofs.StateLemmas.{spawn_room, same_copied}
use Rattle.tb_undo.proofs.tables.Tables.reserve_spawn.Goals as goal

pub returns-clause-ok : goal.returns-clause-ok
returns-clause-ok c =
    on_ok_from c.reserve_copies.result
    (spawn_room c.args.self.now c.reserve_family.new.self c.reserve_copies.new.self c.reserve_copies.ensures.rest c.args.parent.now c.args.child.now c.args.items.now c.args.deferred c.in_ok-reserve_family.ensures.ok)
    c.reserve_copies.ensures.ok

pub returns-in_err-reserve_family-clause-succeeds : goal.returns-in_err-reserve_family-clause-succeeds
returns-in_err-reserve_family-clause-succeeds c room =
    let before : HasFamilyRoom c.args.self.now c.args.parent.now c.args.child.now c.args.items.now c.args.deferred = record { waits = room.waits; marks = room.marks; row = room.row; child = room.child } in
    absurd (false≢true (subst IsOk c.in_err-reserve_family.was
    (c.reserve_family.ensures.succeeds (subst (λ (s : Seen). HasFamilyRoom s c.args.parent.now c.args.child.now c.args.items.now c.args.deferred) (sym c.turn_to.ensures) before))))

pub returns-clause-same : goal.returns-clause-same
returns-clause-same c =
    same_copied c.args.self.now c.reserve_family.new.self c.reserve_copies.new.self c.reserve_copies.ensures.rest
    (subst (λ (s : Seen). AreSame s c.reserve_family.new.self) c.turn_to.ensures c.reserve_family.ensures.same)
