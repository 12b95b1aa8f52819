use Rattle.std.proofs.Common.{sym, ap, ◌∙◌, reverse}
use Rattle.tb_wait.specs.Rows.{groups_of}
use Rattle.tb_wait.proofs.AskedLemmas.{kin_of_row, kin_of_none}
use Rattle.tb_wait.proofs.wait.Wait.groups.Goals as goal

pub returns-in_default : goal.returns-in_default
returns-in_default c = sym (ap (λ k. reverse (groups_of k)) (kin_of_none c.args.self.now c.self.inside.names.keys c.self.inside.rows.items c.self.inside.tree.nodes c.self.inside.room c.self.view_is c.self.invariant.0 c.args.task.now c.in_default.ensures.found))

pub returns : goal.returns
returns c = c.groups.ensures ∙ sym (ap (λ k. reverse (groups_of k)) (kin_of_row c.args.self.now c.self.inside.names.keys c.self.inside.rows.items c.self.inside.tree.nodes c.self.inside.room c.self.view_is c.self.invariant.0 c.args.task.now c.in-Some.at c.in-Some.ensures.index))
