use Rattle.std.proofs.Common.{ap, ◌∙◌}
use Rattle.std.specs.Map.{keys_of}
use Rattle.tb_undo.specs.State.{Seen}
use Rattle.tb_wait.proofs.WaitLemmas.{on_ok_from}
use Rattle.tb_undo.proofs.ComingLemmas.{along_names}
use Rattle.tb_undo.proofs.StateLemmas.{family_room, with_room}
use Rattle.tb_undo.proofs.tables.Tables.reserve_family.Goals as goal

pub returns-clause-ok : goal.returns-clause-ok
returns-clause-ok c =
    on_ok_from c.reserve_add.result
    (family_room c.reserve_row.new.self c.reserve_spawned.new.self c.reserve_add.new.self c.args.parent.now c.args.child.now c.args.items.now c.args.deferred _
    (ap (λ (s : Seen). with_room s c.reserve_spawned.new.self c.reserve_add.new.self) c.self.view_is) (along_names c.reserve_row.new.self.waits.tasks c.reserve_spawned.new.self.tasks c.args.child.now _ (c.reserve_spawned.ensures.room.names ∙ ap (λ (s : Seen). keys_of s.waits.tasks) c.self.view_is) c.in_ok-reserve_row.ensures.row) c.in_ok-reserve_row.ensures.child c.in_ok-reserve_spawned.ensures.ok)
    c.reserve_add.ensures.room
