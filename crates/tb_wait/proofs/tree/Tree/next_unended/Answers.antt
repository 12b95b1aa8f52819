use Rattle.std.proofs.Common.{subst}
use Rattle.tb_wait.specs.Tree.{IsNextNumber, is_own}
use Rattle.tb_wait.proofs.SearchLemmas.{next_number}
use Rattle.tb_wait.proofs.tree.Tree.next_unended.Goals as goal

pub returns : goal.returns
returns c =
    subst (λ t. IsNextNumber t.nodes c.args.at c.args.low is_own c.first_unended.result) c.self.view_is
    (next_number c.self.inside.nodes.items c.args.at c.args.low c.shown.result.now c.first_unended.result c.self.invariant c.shown.ensures c.first_unended.ensures)
