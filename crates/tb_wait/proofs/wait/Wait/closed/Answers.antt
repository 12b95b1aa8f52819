use Rattle.std.proofs.Common.{refl, ap, arith}
use Rattle.tb_wait.specs.Kin.{closed_kin}
use Rattle.tb_wait.specs.Rows.{slot_at}
use Rattle.tb_wait.proofs.WaitLemmas.{here_fits, here_changes, here_room, absent_changes, here_slot_of}
use Rattle.tb_wait.proofs.wait.Wait.closed.Goals as goal

pub invariant_of-self : goal.invariant_of-self
invariant_of-self c = (
  here_fits c.args.self.now c.self.inside.names.keys c.self.inside.rows.items c.self.inside.tree.nodes c.self.inside.room c.self.view_is c.self.invariant.0 c.args.task.now c.in-Some.at c.in-Some.ensures.index c.close.new.rows.items (slot_at c.close.new.rows.items c.in-Some.at) (here_slot_of c.self.inside.rows.items c.close.new.rows.items c.in-Some.at _ c.close.ensures.slot)
      closed_kin (ap (λ s. s.kin) c.close.ensures.slot.here) (ap (λ s. s.child_room) c.close.ensures.slot.here) (λ k. refl) (λ k. refl),
  c.self.invariant.1,
  omega (arith, c.self.invariant.2, c.close.ensures.slot.len, c.close.ensures.capacity),
  c.self.invariant.3,
)

pub returns-in-Some-clause-tasks : goal.returns-in-Some-clause-tasks
returns-in-Some-clause-tasks c =
    here_changes c.args.self.now c.self.inside.names.keys c.self.inside.rows.items c.self.inside.tree.nodes c.self.inside.room c.self.view_is c.self.invariant.0 c.args.task.now c.in-Some.at c.in-Some.ensures.index c.close.new.rows.items (slot_at c.close.new.rows.items c.in-Some.at) (here_slot_of c.self.inside.rows.items c.close.new.rows.items c.in-Some.at _ c.close.ensures.slot)
    closed_kin (ap (λ s. s.kin) c.close.ensures.slot.here)

pub returns-in-Some-clause-room : goal.returns-in-Some-clause-room
returns-in-Some-clause-room c =
    here_room c.args.self.now c.self.inside.names.keys c.self.inside.rows.items c.self.inside.tree.nodes c.self.inside.room c.self.view_is c.self.invariant.0 c.args.task.now c.in-Some.at c.in-Some.ensures.index c.close.new.rows.items (slot_at c.close.new.rows.items c.in-Some.at) (here_slot_of c.self.inside.rows.items c.close.new.rows.items c.in-Some.at _ c.close.ensures.slot)
    (omega (arith, ap (λ s. s.child_room) c.close.ensures.slot.here)) (omega (arith, ap (λ s. s.group_room) c.close.ensures.slot.here))

pub returns-in_default-clause-tasks : goal.returns-in_default-clause-tasks
returns-in_default-clause-tasks c = absent_changes c.args.self.now c.self.inside.names.keys c.self.inside.rows.items c.self.inside.tree.nodes c.self.inside.room c.self.view_is c.self.invariant.0 c.args.task.now closed_kin c.in_default.ensures.found
