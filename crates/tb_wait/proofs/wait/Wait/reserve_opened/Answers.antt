use Rattle.std.proofs.Common.{ap, arith}
use Rattle.tb_wait.specs.Rows.{slot_at}
use Rattle.tb_wait.proofs.WaitLemmas.{here_same, here_room, here_group_room, group_room_here, absent_slot, here_slot_of, on_ok_from}
use Rattle.tb_wait.proofs.wait.Wait.reserve_opened.Goals as goal

pub returns-in-Some-clause-ok : goal.returns-in-Some-clause-ok
returns-in-Some-clause-ok c = on_ok_from c.reserve_group.result (λ more. here_group_room c.args.self.now c.self.inside.names.keys c.self.inside.rows.items c.self.inside.tree.nodes c.self.inside.room c.self.view_is c.self.invariant.0 c.args.task.now c.in-Some.at c.in-Some.ensures.index c.reserve_group.new.rows.items (slot_at c.reserve_group.new.rows.items c.in-Some.at) (here_slot_of c.self.inside.rows.items c.reserve_group.new.rows.items c.in-Some.at _ c.reserve_group.ensures.slot) more) c.reserve_group.ensures.ok

pub returns-in-Some-clause-tasks : goal.returns-in-Some-clause-tasks
returns-in-Some-clause-tasks c =
    here_same c.args.self.now c.self.inside.names.keys c.self.inside.rows.items c.self.inside.tree.nodes c.self.inside.room c.self.view_is c.self.invariant.0 c.args.task.now c.in-Some.at c.in-Some.ensures.index c.reserve_group.new.rows.items (slot_at c.reserve_group.new.rows.items c.in-Some.at) (here_slot_of c.self.inside.rows.items c.reserve_group.new.rows.items c.in-Some.at _ c.reserve_group.ensures.slot) (ap (λ s. s.kin) c.reserve_group.ensures.slot.here)

pub returns-in-Some-clause-room : goal.returns-in-Some-clause-room
returns-in-Some-clause-room c =
    here_room c.args.self.now c.self.inside.names.keys c.self.inside.rows.items c.self.inside.tree.nodes c.self.inside.room c.self.view_is c.self.invariant.0 c.args.task.now c.in-Some.at c.in-Some.ensures.index c.reserve_group.new.rows.items (slot_at c.reserve_group.new.rows.items c.in-Some.at) (here_slot_of c.self.inside.rows.items c.reserve_group.new.rows.items c.in-Some.at _ c.reserve_group.ensures.slot)
    (omega (arith, ap (λ s. s.child_room) c.reserve_group.ensures.slot.here)) c.reserve_group.ensures.keeps

pub returns-in-Some-clause-succeeds : goal.returns-in-Some-clause-succeeds
returns-in-Some-clause-succeeds c = λ room. c.reserve_group.ensures.succeeds (group_room_here c.args.self.now c.self.inside.names.keys c.self.inside.rows.items c.self.inside.tree.nodes c.self.inside.room c.self.view_is c.self.invariant.0 c.args.task.now c.in-Some.at c.in-Some.ensures.index room)

pub returns-in-None-clause-ok : goal.returns-in-None-clause-ok
returns-in-None-clause-ok c = λ s e. let none = absent_slot c.args.self.now c.self.inside.names.keys c.self.inside.rows.items c.self.inside.tree.nodes c.self.inside.room c.self.view_is c.self.invariant.0 c.args.task.now c.in-None.ensures.found in cc
