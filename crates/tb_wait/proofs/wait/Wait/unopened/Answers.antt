use Rattle.std.proofs.Common.{refl, arith}
use Rattle.tb_wait.specs.Kin.{unopened_kin}
use Rattle.tb_wait.specs.Rows.{slot_at}
use Rattle.tb_wait.proofs.WaitLemmas.{here_fits, here_changes, here_room, here_group_room, open_here, absent_changes, absent_slot}
use Rattle.tb_wait.proofs.wait.Wait.unopened.Goals as goal

pub invariant_of-self : goal.invariant_of-self
invariant_of-self c = (
  here_fits c.args.self.now c.self.inside.names.keys c.self.inside.rows.items c.self.inside.tree.nodes c.self.inside.room c.self.view_is c.self.invariant.0 c.args.task.now c.in-Some.at c.in-Some.ensures.index c.unopen.new.rows.items (slot_at c.unopen.new.rows.items c.in-Some.at) c.unopen.ensures.slot
      unopened_kin c.unopen.ensures.kin c.unopen.ensures.child_room (λ k. refl) (λ k. refl),
  c.self.invariant.1,
  omega (arith, c.self.invariant.2, c.unopen.ensures.slot.len, c.unopen.ensures.capacity),
  c.self.invariant.3,
)

pub returns-in-Some-clause-tasks : goal.returns-in-Some-clause-tasks
returns-in-Some-clause-tasks c =
    here_changes c.args.self.now c.self.inside.names.keys c.self.inside.rows.items c.self.inside.tree.nodes c.self.inside.room c.self.view_is c.self.invariant.0 c.args.task.now c.in-Some.at c.in-Some.ensures.index c.unopen.new.rows.items (slot_at c.unopen.new.rows.items c.in-Some.at) c.unopen.ensures.slot
    unopened_kin c.unopen.ensures.kin

pub returns-in_default-clause-tasks : goal.returns-in_default-clause-tasks
returns-in_default-clause-tasks c = absent_changes c.args.self.now c.self.inside.names.keys c.self.inside.rows.items c.self.inside.tree.nodes c.self.inside.room c.self.view_is c.self.invariant.0 c.args.task.now unopened_kin c.in_default.ensures.found

pub returns-in-Some-clause-room : goal.returns-in-Some-clause-room
returns-in-Some-clause-room c =
    here_room c.args.self.now c.self.inside.names.keys c.self.inside.rows.items c.self.inside.tree.nodes c.self.inside.room c.self.view_is c.self.invariant.0 c.args.task.now c.in-Some.at c.in-Some.ensures.index c.unopen.new.rows.items (slot_at c.unopen.new.rows.items c.in-Some.at) c.unopen.ensures.slot
    (omega (arith, c.unopen.ensures.child_room)) c.unopen.ensures.keeps

pub returns-in-Some-clause-group_room : goal.returns-in-Some-clause-group_room
returns-in-Some-clause-group_room c = λ group.
    here_group_room c.args.self.now c.self.inside.names.keys c.self.inside.rows.items c.self.inside.tree.nodes c.self.inside.room c.self.view_is c.self.invariant.0 c.args.task.now c.in-Some.at c.in-Some.ensures.index c.unopen.new.rows.items (slot_at c.unopen.new.rows.items c.in-Some.at) c.unopen.ensures.slot
    (c.unopen.ensures.group_room (open_here c.args.self.now c.self.inside.names.keys c.self.inside.rows.items c.self.inside.tree.nodes c.self.inside.room c.self.view_is c.self.invariant.0 c.args.task.now c.in-Some.at c.in-Some.ensures.index group))

pub returns-in_default-clause-group_room : goal.returns-in_default-clause-group_room
returns-in_default-clause-group_room c = λ group s e.
    let none = absent_slot c.args.self.now c.self.inside.names.keys c.self.inside.rows.items c.self.inside.tree.nodes c.self.inside.room c.self.view_is c.self.invariant.0 c.args.task.now c.in_default.ensures.found in cc
