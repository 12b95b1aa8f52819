use Rattle.std.proofs.Common.{subst, sym, ◌<◌, length}
use Rattle.tb_wait.proofs.TreeLemmas.{add_tree}
use Rattle.tb_wait.proofs.tree.Tree.add.Goals as goal

pub invariant_of-self : goal.invariant_of-self
invariant_of-self c =
    add_tree c.self.inside.nodes.items c.push.new.nodes.items c.args.owner c.self.invariant.linked (subst (λ t. c.args.owner < length t.nodes) (sym c.self.view_is) c.requires.within) c.push.ensures.added c.self.invariant
