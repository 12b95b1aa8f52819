use Rattle.std.proofs.Common.{subst, None}
use Rattle.tb_wait.specs.Tree.{IsFirstPlace, is_live}
use Rattle.tb_wait.proofs.SearchLemmas.{number_one, found_live, no_live}
use Rattle.tb_wait.proofs.tree.Tree.first_live.Goals as goal

pub place-requires : goal.place-requires
place-requires c = number_one c.self.inside.nodes.items c.args.at c.args.low c.in-Some.number c.shown-node.result.now (λ n. n.live) c.shown-node.ensures c.in-Some.ensures

pub returns-in-Some-clause-first : goal.returns-in-Some-clause-first
returns-in-Some-clause-first c =
    subst (λ t. IsFirstPlace t.nodes c.args.at c.args.low is_live c.place.result) c.self.view_is
    (found_live c.self.inside.nodes.items c.args.at c.args.low c.in-Some.number c.shown-node.result.now c.place.result c.self.invariant c.shown-node.ensures c.in-Some.ensures c.place.ensures)

pub returns-in-None-clause-first : goal.returns-in-None-clause-first
returns-in-None-clause-first c =
    subst (λ t. IsFirstPlace t.nodes c.args.at c.args.low is_live None) c.self.view_is
    (no_live c.self.inside.nodes.items c.args.at c.args.low c.shown-node.result.now c.self.invariant c.shown-node.ensures c.in-None.ensures)
