use Rattle.std.proofs.Common.{refl, sym, ◌∙◌, arith}
use Rattle.tb_wait.specs.Kin.{opened_kin}
use Rattle.tb_wait.specs.Rows.{slot_at}
use Rattle.tb_wait.proofs.WaitLemmas.{here_fits, here_changes, here_same, here_names, group_room_here, absent_changes, on_ok_from, on_err_from, on_either, kin_same}
use Rattle.tb_wait.proofs.wait.Wait.opened.Goals as goal

pub invariant_of-self : goal.invariant_of-self
invariant_of-self c = (
  on_either c.open.result c.open.ensures.ok c.open.ensures.err
      (λ kin. here_fits c.args.self.now c.self.inside.names.keys c.self.inside.rows.items c.self.inside.tree.nodes c.self.inside.room c.self.view_is c.self.invariant.0 c.args.task.now c.in-Some.at c.in-Some.ensures.index c.open.new.rows.items (slot_at c.open.new.rows.items c.in-Some.at) c.open.ensures.slot opened_kin kin c.open.ensures.child_room (λ k. refl) (λ k. refl))
      (λ kin. here_fits c.args.self.now c.self.inside.names.keys c.self.inside.rows.items c.self.inside.tree.nodes c.self.inside.room c.self.view_is c.self.invariant.0 c.args.task.now c.in-Some.at c.in-Some.ensures.index c.open.new.rows.items (slot_at c.open.new.rows.items c.in-Some.at) c.open.ensures.slot (λ k. k) (kin ∙ sym (kin_same (slot_at c.self.inside.rows.items c.in-Some.at).kin)) c.open.ensures.child_room (λ k. refl) (λ k. refl)),
  c.self.invariant.1,
  omega (arith, c.self.invariant.2, c.open.ensures.slot.len, c.open.ensures.capacity),
  c.self.invariant.3,
)

pub returns-in-Some-clause-ok : goal.returns-in-Some-clause-ok
returns-in-Some-clause-ok c = on_ok_from c.open.result (here_changes c.args.self.now c.self.inside.names.keys c.self.inside.rows.items c.self.inside.tree.nodes c.self.inside.room c.self.view_is c.self.invariant.0 c.args.task.now c.in-Some.at c.in-Some.ensures.index c.open.new.rows.items (slot_at c.open.new.rows.items c.in-Some.at) c.open.ensures.slot opened_kin) c.open.ensures.ok

pub returns-in-Some-clause-err : goal.returns-in-Some-clause-err
returns-in-Some-clause-err c = on_err_from c.open.result (here_same c.args.self.now c.self.inside.names.keys c.self.inside.rows.items c.self.inside.tree.nodes c.self.inside.room c.self.view_is c.self.invariant.0 c.args.task.now c.in-Some.at c.in-Some.ensures.index c.open.new.rows.items (slot_at c.open.new.rows.items c.in-Some.at) c.open.ensures.slot) c.open.ensures.err

pub returns-in-Some-clause-names : goal.returns-in-Some-clause-names
returns-in-Some-clause-names c = here_names c.args.self.now c.self.inside.names.keys c.self.inside.rows.items c.self.inside.tree.nodes c.self.inside.room c.self.view_is c.self.invariant.0 c.args.task.now c.in-Some.at c.in-Some.ensures.index c.open.new.rows.items (slot_at c.open.new.rows.items c.in-Some.at) c.open.ensures.slot

pub returns-in-Some-clause-succeeds : goal.returns-in-Some-clause-succeeds
returns-in-Some-clause-succeeds c = λ room. c.open.ensures.succeeds (group_room_here c.args.self.now c.self.inside.names.keys c.self.inside.rows.items c.self.inside.tree.nodes c.self.inside.room c.self.view_is c.self.invariant.0 c.args.task.now c.in-Some.at c.in-Some.ensures.index room)

pub returns-in-None-clause-ok : goal.returns-in-None-clause-ok
returns-in-None-clause-ok c = absent_changes c.args.self.now c.self.inside.names.keys c.self.inside.rows.items c.self.inside.tree.nodes c.self.inside.room c.self.view_is c.self.invariant.0 c.args.task.now opened_kin c.in-None.ensures.found
