use Rattle.std.proofs.Common.{◌≡◌, ◌∙◌, ◌∷◌, None, Some, sym}
use Rattle.tb_wait.proofs.WaitLemmas.{at_key}
use Rattle.tb_wait.proofs.AskedLemmas.{child_absent, child_over, child_pending, no_row}
use Rattle.tb_wait.proofs.wait.Wait.is_child_unended.Goals as goal

pub returns-in_default-clause-over : goal.returns-in_default-clause-over
returns-in_default-clause-over c = λ e h.
    let absent = child_absent c.args.self.now c.self.inside.names.keys c.self.inside.rows.items c.self.inside.tree.nodes c.self.inside.room c.self.view_is c.self.invariant.0 c.args.task.now (no_row c.args.self.now c.self.inside.names.keys c.self.inside.rows.items c.self.inside.tree.nodes c.self.inside.room c.self.view_is c.self.invariant.0 c.args.task.now c.in_default.ensures.found) in
    let least = absent.least (c.args.number ∷ c.args.task.now) h in
    let clash : None ≡ Some least.0 = least.1 in cc

pub returns-clause-unended : goal.returns-clause-unended
returns-clause-unended c = λ yes.
    let k = at_key c.args.task.now c.self.inside.names.keys c.in-Some.at c.in-Some.ensures.index in
    child_pending c.args.self.now c.self.inside.names.keys c.self.inside.rows.items c.self.inside.tree.nodes c.self.inside.room c.self.view_is c.self.invariant.0 c.args.task.now c.in-Some.at k.0 k.1 c.args.number c.requires (sym c.is_child_pending.ensures ∙ yes)

pub returns-clause-over : goal.returns-clause-over
returns-clause-over c = λ no.
    let k = at_key c.args.task.now c.self.inside.names.keys c.in-Some.at c.in-Some.ensures.index in
    child_over c.args.self.now c.self.inside.names.keys c.self.inside.rows.items c.self.inside.tree.nodes c.self.inside.room c.self.view_is c.self.invariant.0 c.args.task.now c.in-Some.at k.0 k.1 c.args.number c.requires (sym c.is_child_pending.ensures ∙ no)
