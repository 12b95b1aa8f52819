use Rattle.std.proofs.Common.{subst, None}
use Rattle.tb_wait.specs.Tree.{IsFirstPlace, is_own}
use Rattle.tb_wait.proofs.SearchLemmas.{number_one, found_unended, no_unended}
use Rattle.tb_wait.proofs.tree.Tree.first_unended.Goals as goal

pub place-requires : goal.place-requires
place-requires c = number_one c.self.inside.nodes.items c.args.at 0 c.in-Some.number c.shown-node.result.now (λ n. n.unended) c.shown-node.ensures c.in-Some.ensures

pub returns-in-Some : goal.returns-in-Some
returns-in-Some c =
    subst (λ t. IsFirstPlace t.nodes c.args.at 0 is_own c.place.result) c.self.view_is
    (found_unended c.self.inside.nodes.items c.args.at 0 c.in-Some.number c.shown-node.result.now c.place.result c.self.invariant c.shown-node.ensures c.in-Some.ensures c.place.ensures)

pub returns-in-None : goal.returns-in-None
returns-in-None c =
    subst (λ t. IsFirstPlace t.nodes c.args.at 0 is_own None) c.self.view_is
    (no_unended c.self.inside.nodes.items c.args.at 0 c.shown-node.result.now c.self.invariant c.shown-node.ensures c.in-None.ensures)
