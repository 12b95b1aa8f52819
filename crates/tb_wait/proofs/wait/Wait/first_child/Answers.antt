use Rattle.std.proofs.Common.{refl, sym, ◌∙◌, subst, arith}
use Rattle.tb_model.specs.LeastNames.{IsLeastName}
use Rattle.tb_wait.specs.Kin.{IsUnendedChild}
use Rattle.tb_wait.proofs.WaitLemmas.{at_key}
use Rattle.tb_wait.proofs.AskedLemmas.{child_some, child_none, child_absent, no_row, slice_get-key}
use Rattle.tb_wait.proofs.wait.Wait.first_child.Goals as goal

pub returns-in_default : goal.returns-in_default
returns-in_default c = child_absent c.args.self.now c.self.inside.names.keys c.self.inside.rows.items c.self.inside.tree.nodes c.self.inside.room c.self.view_is c.self.invariant.0 c.args.task.now (no_row c.args.self.now c.self.inside.names.keys c.self.inside.rows.items c.self.inside.tree.nodes c.self.inside.room c.self.view_is c.self.invariant.0 c.args.task.now c.in_default.ensures.found)

pub returns-in_default-first_unended : goal.returns-in_default-first_unended
returns-in_default-first_unended c =
    let k = at_key c.args.task.now c.self.inside.names.keys c.in-Some.at c.in-Some.ensures.index in
    child_none c.args.self.now c.self.inside.names.keys c.self.inside.rows.items c.self.inside.tree.nodes c.self.inside.room c.self.view_is c.self.invariant.0 c.args.task.now c.in-Some.at k.0 k.1 c.in_default-first_unended.ensures

pub returns : goal.returns
returns c =
    let k = at_key c.args.task.now c.self.inside.names.keys c.in-Some.at c.in-Some.ensures.index in
    let it = c.in-Some-first_unended.ensures.found c.in-Some-first_unended.first refl in
    let f = c.self.invariant.0 in
    let within = f.linked.within c.in-Some.at it.0 c.in-Some-first_unended.first it.2 in
    subst (IsLeastName (IsUnendedChild c.args.self.now.tasks c.args.task.now)) (sym (c.get.ensures.key ∙ slice_get-key c.self.inside.names.keys c.in-Some-first_unended.first (omega (arith, within, f.nodes_len))))
    (child_some c.args.self.now c.self.inside.names.keys c.self.inside.rows.items c.self.inside.tree.nodes c.self.inside.room c.self.view_is c.self.invariant.0 c.args.task.now c.in-Some.at k.0 k.1 c.in-Some-first_unended.first c.in-Some-first_unended.ensures)
