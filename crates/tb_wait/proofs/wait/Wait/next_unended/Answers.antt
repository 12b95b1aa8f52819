use Rattle.tb_wait.proofs.WaitLemmas.{at_key}
use Rattle.tb_wait.proofs.AskedLemmas.{next_child, next_absent, no_row}
use Rattle.tb_wait.proofs.wait.Wait.next_unended.Goals as goal

pub returns-in_default : goal.returns-in_default
returns-in_default c = next_absent c.args.self.now c.self.inside.names.keys c.self.inside.rows.items c.self.inside.tree.nodes c.self.inside.room c.self.view_is c.self.invariant.0 c.args.task.now c.args.low (no_row c.args.self.now c.self.inside.names.keys c.self.inside.rows.items c.self.inside.tree.nodes c.self.inside.room c.self.view_is c.self.invariant.0 c.args.task.now c.in_default.ensures.found)

pub returns : goal.returns
returns c =
    let k = at_key c.args.task.now c.self.inside.names.keys c.in-Some.at c.in-Some.ensures.index in
    next_child c.args.self.now c.self.inside.names.keys c.self.inside.rows.items c.self.inside.tree.nodes c.self.inside.room c.self.view_is c.self.invariant.0 c.args.task.now c.in-Some.at k.0 k.1 c.args.low c.next_unended.result c.next_unended.ensures
