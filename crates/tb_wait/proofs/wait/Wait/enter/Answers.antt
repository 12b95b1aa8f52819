use Rattle.std.proofs.Common.{refl, arith, Some, cond, sym, ap, ◌∙◌, [], ◌∷◌, ◌++◌}
use Rattle.std.specs.Map.{keys_of}
use Rattle.tb_wait.specs.Kin.{fresh}
use Rattle.tb_wait.specs.Tree.{node}
use Rattle.tb_wait.proofs.WaitLemmas.{at_key, absent_slot}
use Rattle.tb_wait.proofs.SpawnLemmas.{number_is, next_is_absent, adds_child, adds_names, adds_fits, unknown_slot}
use Rattle.tb_wait.proofs.wait.Wait.enter.Goals as goal

pub enter-requires-clause-absent : goal.enter-requires-clause-absent
enter-requires-clause-absent c =
    let k = at_key c.args.child.now c.self.inside.names.keys c.in-Some.at c.in-Some.ensures.index in
    next_is_absent c.args.self.now c.self.inside.names.keys c.self.inside.rows.items c.self.inside.tree.nodes c.self.inside.room c.self.view_is c.self.invariant.0 c.args.parent.now c.args.child.now c.in-Some.at c.requires.next.0.children k.0 k.1 c.requires.next.2 c.requires.next.0 c.requires.next.1 refl

pub invariant_of-self : goal.invariant_of-self
invariant_of-self c =
    let k = at_key c.args.child.now c.self.inside.names.keys c.in-Some.at c.in-Some.ensures.index in (
      adds_fits c.args.self.now c.self.inside.names.keys c.self.inside.rows.items c.self.inside.tree.nodes c.self.inside.room c.self.view_is c.self.invariant.0 c.args.parent.now c.args.child.now c.in-Some.at c.requires.next.0.children k.0 k.1 c.requires.next.2 c.requires.next.0 c.requires.next.1
          c.enter.new.rows.items (Some fresh) (node c.self.inside.tree.nodes c.in-Some.at).number c.enter.ensures.rows c.enter.new.tree.nodes refl
          (number_is c.args.self.now c.self.inside.names.keys c.self.inside.rows.items c.self.inside.tree.nodes c.self.inside.room c.self.view_is c.self.invariant.0 c.args.parent.now c.args.child.now c.in-Some.at c.requires.next.0.children k.0 k.1 c.requires.next.2) refl c.enter.ensures.set,
      c.self.invariant.1,
      omega (arith, c.self.invariant.2, c.enter.ensures.rows.len, c.enter.ensures.rows_capacity),
      omega (arith, c.self.invariant.3, c.enter.ensures.room),
    )

pub returns-in-Some-clause-tasks : goal.returns-in-Some-clause-tasks
returns-in-Some-clause-tasks c =
    let k = at_key c.args.child.now c.self.inside.names.keys c.in-Some.at c.in-Some.ensures.index in
    adds_child c.args.self.now c.self.inside.names.keys c.self.inside.rows.items c.self.inside.tree.nodes c.self.inside.room c.self.view_is c.self.invariant.0 c.args.parent.now c.args.child.now c.in-Some.at c.requires.next.0.children k.0 k.1 c.requires.next.2 c.requires.next.0 c.requires.next.1
    c.enter.new.rows.items (Some fresh) (node c.self.inside.tree.nodes c.in-Some.at).number c.enter.ensures.rows refl (number_is c.args.self.now c.self.inside.names.keys c.self.inside.rows.items c.self.inside.tree.nodes c.self.inside.room c.self.view_is c.self.invariant.0 c.args.parent.now c.args.child.now c.in-Some.at c.requires.next.0.children k.0 k.1 c.requires.next.2) refl

pub returns-in-Some-clause-names : goal.returns-in-Some-clause-names
returns-in-Some-clause-names c =
    let k = at_key c.args.child.now c.self.inside.names.keys c.in-Some.at c.in-Some.ensures.index in
    adds_names c.args.self.now c.self.inside.names.keys c.self.inside.rows.items c.self.inside.tree.nodes c.self.inside.room c.self.view_is c.self.invariant.0 c.args.parent.now c.args.child.now c.in-Some.at c.requires.next.0.children k.0 k.1 c.requires.next.2 c.requires.next.0 c.requires.next.1
    c.enter.new.rows.items (Some fresh) (node c.self.inside.tree.nodes c.in-Some.at).number c.enter.ensures.rows
    ∙ sym (ap (λ b. cond b (keys_of c.args.self.now.tasks) (keys_of c.args.self.now.tasks ++ c.args.child.now ∷ [])) c.requires.known)

pub returns-in_default-clause-tasks : goal.returns-in_default-clause-tasks
returns-in_default-clause-tasks c =
    let none = absent_slot c.args.self.now c.self.inside.names.keys c.self.inside.rows.items c.self.inside.tree.nodes c.self.inside.room c.self.view_is c.self.invariant.0 c.args.child.now c.in_default.ensures.found in
    absurd (unknown_slot c.args.self.now.tasks c.args.child.now none c.requires.known)

pub returns-in_default-clause-names : goal.returns-in_default-clause-names
returns-in_default-clause-names c =
    sym (ap (λ b. cond b (keys_of c.args.self.now.tasks) (keys_of c.args.self.now.tasks ++ c.args.child.now ∷ [])) c.requires.known)
