use Rattle.std.proofs.Common.{ap, ◌∙◌, subst, sym, ◌<◌, length}
use Rattle.tb_wait.proofs.TreeLemmas.{owner_before}
use Rattle.tb_wait.proofs.tree.Tree.owner.Goals as goal

pub returns-clause-before : goal.returns-clause-before
returns-clause-before c below =
    owner_before c.self.inside.nodes.items c.self.invariant.linked c.args.at below (subst (λ t. c.args.at < length t.nodes) (sym c.self.view_is) c.requires) c.owner.result (c.owner.ensures ∙ ap (λ n. n.owner) c.shown.ensures)
