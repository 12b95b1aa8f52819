use Rattle.std.proofs.Common.{refl, ap, ◌∙◌, ◌-◌, arith, None}
use Rattle.tb_wait.specs.Kin.{kin_in}
use Rattle.tb_wait.specs.Tree.{node}
use Rattle.tb_wait.proofs.WaitLemmas.{at_key, absent_slot}
use Rattle.tb_wait.proofs.SpawnLemmas.{number_is, child_kin, drops_child, drops_room, drops_fits}
use Rattle.tb_wait.proofs.wait.Wait.unspawned.Goals as goal

pub leave-requires-clause-fresh : goal.leave-requires-clause-fresh
leave-requires-clause-fresh c =
    let k = at_key c.args.child.now c.self.inside.names.keys c.in-Some.at c.in-Some.ensures.index in
    child_kin c.args.self.now c.self.inside.names.keys c.self.inside.rows.items c.self.inside.tree.nodes c.self.inside.room c.self.view_is c.self.invariant.0 c.args.parent.now c.args.child.now c.in-Some.at c.requires.1 k.0 k.1 c.requires.4 ∙ c.requires.5

pub invariant_of-self : goal.invariant_of-self
invariant_of-self c =
    let k = at_key c.args.child.now c.self.inside.names.keys c.in-Some.at c.in-Some.ensures.index in (
      drops_fits c.args.self.now c.self.inside.names.keys c.self.inside.rows.items c.self.inside.tree.nodes c.self.inside.room c.self.view_is c.self.invariant.0 c.args.parent.now c.args.child.now c.in-Some.at c.requires.1 k.0 k.1 c.requires.4 c.requires.0 c.requires.2
          c.leave.new.rows.items None ((node c.self.inside.tree.nodes c.in-Some.at).number - 1) c.leave.ensures.rows c.leave.new.tree.nodes refl
          (omega (arith, number_is c.args.self.now c.self.inside.names.keys c.self.inside.rows.items c.self.inside.tree.nodes c.self.inside.room c.self.view_is c.self.invariant.0 c.args.parent.now c.args.child.now c.in-Some.at c.requires.1 k.0 k.1 c.requires.4)) c.requires.3 c.requires.5 c.leave.ensures.set,
      c.self.invariant.1,
      omega (arith, c.self.invariant.2, c.leave.ensures.rows.len, c.leave.ensures.rows_capacity),
      omega (arith, c.self.invariant.3, c.leave.ensures.room),
    )

pub returns-in-Some-clause-tasks : goal.returns-in-Some-clause-tasks
returns-in-Some-clause-tasks c =
    let k = at_key c.args.child.now c.self.inside.names.keys c.in-Some.at c.in-Some.ensures.index in
    drops_child c.args.self.now c.self.inside.names.keys c.self.inside.rows.items c.self.inside.tree.nodes c.self.inside.room c.self.view_is c.self.invariant.0 c.args.parent.now c.args.child.now c.in-Some.at c.requires.1 k.0 k.1 c.requires.4 c.requires.0 c.requires.2
    c.leave.new.rows.items None ((node c.self.inside.tree.nodes c.in-Some.at).number - 1) c.leave.ensures.rows refl (omega (arith, number_is c.args.self.now c.self.inside.names.keys c.self.inside.rows.items c.self.inside.tree.nodes c.self.inside.room c.self.view_is c.self.invariant.0 c.args.parent.now c.args.child.now c.in-Some.at c.requires.1 k.0 k.1 c.requires.4)) c.requires.3

pub returns-in-Some-clause-room : goal.returns-in-Some-clause-room
returns-in-Some-clause-room c =
    let k = at_key c.args.child.now c.self.inside.names.keys c.in-Some.at c.in-Some.ensures.index in
    drops_room c.args.self.now c.self.inside.names.keys c.self.inside.rows.items c.self.inside.tree.nodes c.self.inside.room c.self.view_is c.self.invariant.0 c.args.parent.now c.args.child.now c.in-Some.at c.requires.1 k.0 k.1 c.requires.4 c.requires.0 c.requires.2
    c.leave.new.rows.items None ((node c.self.inside.tree.nodes c.in-Some.at).number - 1) c.leave.ensures.rows

pub returns-in_default-clause-tasks : goal.returns-in_default-clause-tasks
returns-in_default-clause-tasks c =
    let none = ap kin_in (absent_slot c.args.self.now c.self.inside.names.keys c.self.inside.rows.items c.self.inside.tree.nodes c.self.inside.room c.self.view_is c.self.invariant.0 c.args.child.now c.in_default.ensures.found) in
    let there = c.requires.5 in cc
