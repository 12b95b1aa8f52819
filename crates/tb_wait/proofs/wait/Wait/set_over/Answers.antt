use Rattle.std.proofs.Common.{ap, arith}
use Rattle.tb_wait.specs.Kin.{with_over}
use Rattle.tb_wait.specs.Rows.{slot_at}
use Rattle.tb_wait.proofs.WaitLemmas.{here_fits_over, here_changes, here_room, absent_changes, here_slot_of}
use Rattle.tb_wait.proofs.wait.Wait.set_over.Goals as goal

pub invariant_of-self : goal.invariant_of-self
invariant_of-self c = (
  here_fits_over c.args.self.now c.self.inside.names.keys c.self.inside.rows.items c.self.inside.tree.nodes c.self.inside.room c.self.view_is c.self.invariant.0 c.args.task.now c.in-Some.at c.in-Some.ensures.index c.set_over.new.rows.items (slot_at c.set_over.new.rows.items c.in-Some.at) (here_slot_of c.self.inside.rows.items c.set_over.new.rows.items c.in-Some.at _ c.set_over.ensures.slot)
      c.args.over c.is_pending-pending.result c.set_pending.new.self.nodes (ap (λ s. s.kin) c.set_over.ensures.slot.here) (ap (λ s. s.child_room) c.set_over.ensures.slot.here)
      c.is_pending-pending.ensures c.set_pending.ensures.set,
  c.self.invariant.1,
  omega (arith, c.self.invariant.2, c.set_over.ensures.slot.len, c.set_over.ensures.capacity),
  omega (arith, c.self.invariant.3, c.set_pending.ensures.room),
)

pub returns-in-Some-clause-tasks : goal.returns-in-Some-clause-tasks
returns-in-Some-clause-tasks c =
    here_changes c.args.self.now c.self.inside.names.keys c.self.inside.rows.items c.self.inside.tree.nodes c.self.inside.room c.self.view_is c.self.invariant.0 c.args.task.now c.in-Some.at c.in-Some.ensures.index c.set_over.new.rows.items (slot_at c.set_over.new.rows.items c.in-Some.at) (here_slot_of c.self.inside.rows.items c.set_over.new.rows.items c.in-Some.at _ c.set_over.ensures.slot)
    (with_over c.args.over) (ap (λ s. s.kin) c.set_over.ensures.slot.here)

pub returns-in-Some-clause-room : goal.returns-in-Some-clause-room
returns-in-Some-clause-room c =
    here_room c.args.self.now c.self.inside.names.keys c.self.inside.rows.items c.self.inside.tree.nodes c.self.inside.room c.self.view_is c.self.invariant.0 c.args.task.now c.in-Some.at c.in-Some.ensures.index c.set_over.new.rows.items (slot_at c.set_over.new.rows.items c.in-Some.at) (here_slot_of c.self.inside.rows.items c.set_over.new.rows.items c.in-Some.at _ c.set_over.ensures.slot)
    (omega (arith, ap (λ s. s.child_room) c.set_over.ensures.slot.here)) (omega (arith, ap (λ s. s.group_room) c.set_over.ensures.slot.here))

pub returns-in_default-clause-tasks : goal.returns-in_default-clause-tasks
returns-in_default-clause-tasks c = absent_changes c.args.self.now c.self.inside.names.keys c.self.inside.rows.items c.self.inside.tree.nodes c.self.inside.room c.self.view_is c.self.invariant.0 c.args.task.now (with_over c.args.over) c.in_default.ensures.found
