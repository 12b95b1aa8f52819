use Rattle.std.proofs.Common.{ap, arith, refl}
use Rattle.tb_wait.specs.Rows.{slot_at}
use Rattle.tb_wait.proofs.RowLemmas.{fits_room, fits_reserved}
use Rattle.tb_wait.proofs.WaitLemmas.{here_same, here_room, here_slot_of, child_room_here, had_child_room, has_child_room, absent_slot}
use Rattle.tb_wait.proofs.wait.Wait.reserve_child.Goals as goal

pub invariant_of-self : goal.invariant_of-self
invariant_of-self c = (
  fits_room c.self.inside.names.keys c.self.inside.rows.items c.self.inside.rows.items c.self.inside.tree.nodes c.reserve_child.new.self.nodes c.self.invariant.0 c.reserve_child.ensures.same refl (λ i. refl)
      (λ i. omega (arith, c.self.invariant.0.rooms i, c.reserve_child.ensures.same.keeps i)),
  c.self.invariant.1,
  c.self.invariant.2,
  omega (arith, c.self.invariant.3, c.reserve_child.ensures.room),
)

pub invariant_of-self-then-child_room-eq0 : goal.invariant_of-self-then-child_room-eq0
invariant_of-self-then-child_room-eq0 c = (
  fits_reserved c.self.inside.names.keys c.self.inside.rows.items c.set_child_room.new.rows.items c.self.inside.tree.nodes c.reserve_child.new.self.nodes c.self.invariant.0 c.reserve_child.ensures.same c.in-Some.at c.set_child_room.ensures.slot c.in_ok-reserve_child-in-Some.ensures.ok,
  c.self.invariant.1,
  omega (arith, c.self.invariant.2, c.set_child_room.ensures.slot.len, c.set_child_room.ensures.capacity),
  omega (arith, c.self.invariant.3, c.reserve_child.ensures.room),
)

pub returns-in_err-reserve_child-in-Some-clause-succeeds : goal.returns-in_err-reserve_child-in-Some-clause-succeeds
returns-in_err-reserve_child-in-Some-clause-succeeds c = λ room.
    let had = child_room_here c.args.self.now c.self.inside.names.keys c.self.inside.rows.items c.self.inside.tree.nodes c.self.inside.room c.self.view_is c.self.invariant.0 c.args.task.now c.in-Some.at c.in-Some.ensures.index room in
    absurd (omega (arith, had, c.child_room.ensures, c.if-child_room-eq0.true))

pub returns-in_ok-reserve_child-in-Some-clause-ok : goal.returns-in_ok-reserve_child-in-Some-clause-ok
returns-in_ok-reserve_child-in-Some-clause-ok c =
    has_child_room c.args.self.now c.self.inside.names.keys c.self.inside.rows.items c.self.inside.tree.nodes c.self.inside.room c.self.view_is c.self.invariant.0 c.args.task.now c.in-Some.at c.in-Some.ensures.index c.set_child_room.new.rows.items (slot_at c.set_child_room.new.rows.items c.in-Some.at) (here_slot_of c.self.inside.rows.items c.set_child_room.new.rows.items c.in-Some.at _ c.set_child_room.ensures.slot) (omega (arith, ap (λ s. s.child_room) c.set_child_room.ensures.slot.here))

pub returns-in_ok-reserve_child-in-Some-clause-tasks : goal.returns-in_ok-reserve_child-in-Some-clause-tasks
returns-in_ok-reserve_child-in-Some-clause-tasks c =
    here_same c.args.self.now c.self.inside.names.keys c.self.inside.rows.items c.self.inside.tree.nodes c.self.inside.room c.self.view_is c.self.invariant.0 c.args.task.now c.in-Some.at c.in-Some.ensures.index c.set_child_room.new.rows.items (slot_at c.set_child_room.new.rows.items c.in-Some.at) (here_slot_of c.self.inside.rows.items c.set_child_room.new.rows.items c.in-Some.at _ c.set_child_room.ensures.slot) (ap (λ s. s.kin) c.set_child_room.ensures.slot.here)

pub returns-in_ok-reserve_child-in-Some-clause-room : goal.returns-in_ok-reserve_child-in-Some-clause-room
returns-in_ok-reserve_child-in-Some-clause-room c =
    here_room c.args.self.now c.self.inside.names.keys c.self.inside.rows.items c.self.inside.tree.nodes c.self.inside.room c.self.view_is c.self.invariant.0 c.args.task.now c.in-Some.at c.in-Some.ensures.index c.set_child_room.new.rows.items (slot_at c.set_child_room.new.rows.items c.in-Some.at) (here_slot_of c.self.inside.rows.items c.set_child_room.new.rows.items c.in-Some.at _ c.set_child_room.ensures.slot)
    (omega (arith, ap (λ s. s.child_room) c.set_child_room.ensures.slot.here, c.child_room.ensures, c.if-child_room-eq0.true)) (omega (arith, ap (λ s. s.group_room) c.set_child_room.ensures.slot.here))

pub returns-else-child_room-eq0-clause-ok : goal.returns-else-child_room-eq0-clause-ok
returns-else-child_room-eq0-clause-ok c =
    had_child_room c.args.self.now c.self.inside.names.keys c.self.inside.rows.items c.self.inside.tree.nodes c.self.inside.room c.self.view_is c.self.invariant.0 c.args.task.now c.in-Some.at c.in-Some.ensures.index (omega (arith, c.child_room.ensures, c.if-child_room-eq0.false))

pub returns-in-None-clause-ok : goal.returns-in-None-clause-ok
returns-in-None-clause-ok c = λ s e. let none = absent_slot c.args.self.now c.self.inside.names.keys c.self.inside.rows.items c.self.inside.tree.nodes c.self.inside.room c.self.view_is c.self.invariant.0 c.args.task.now c.in-None.ensures.found in cc
