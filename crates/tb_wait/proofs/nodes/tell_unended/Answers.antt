use Rattle.std.proofs.Common.{ap, ◌∙◌, subst, arith}
use Rattle.tb_wait.specs.Numbers.{IsPut}
use Rattle.tb_wait.specs.Tree.{node}
use Rattle.tb_wait.proofs.TreeLemmas.{owner_within, number_from_one, number_within, children_unended, unended_step, links_unended, linked_same}
use Rattle.tb_wait.proofs.nodes.tell_unended.Goals as goal

pub set_unended-requires-clause-within : goal.set_unended-requires-clause-within
set_unended-requires-clause-within c =
    owner_within c.args.nodes.now.items c.requires.linked c.args.at (omega (arith, c.if-at-eq0.false)) c.requires.within c.owner-owner.result (c.owner-owner.ensures ∙ ap (λ n. n.owner) c.shown-child.ensures)

pub set_unended-requires-clause-from_one : goal.set_unended-requires-clause-from_one
set_unended-requires-clause-from_one c =
    number_from_one c.args.nodes.now.items c.requires.linked c.args.at (omega (arith, c.if-at-eq0.false)) c.requires.within c.number-number.result (c.number-number.ensures ∙ ap (λ n. n.number) c.shown-child.ensures)

pub set_unended-requires-clause-child : goal.set_unended-requires-clause-child
set_unended-requires-clause-child c =
    number_within c.args.nodes.now.items c.requires.linked c.args.at (omega (arith, c.if-at-eq0.false)) c.requires.within c.owner-owner.result c.number-number.result
    (c.owner-owner.ensures ∙ ap (λ n. n.owner) c.shown-child.ensures) (c.number-number.ensures ∙ ap (λ n. n.number) c.shown-child.ensures)

pub returns-clause-linked : goal.returns-clause-linked
returns-clause-linked c =
    linked_same c.args.nodes.now.items c.set_unended.new.nodes.items (links_unended c.args.nodes.now.items c.set_unended.new.nodes.items c.set_unended.ensures.same) c.requires.linked

pub returns-clause-children : goal.returns-clause-children
returns-clause-children c =
    children_unended c.args.nodes.now.items c.set_unended.new.nodes.items c.requires.linked c.args.at (omega (arith, c.if-at-eq0.false)) c.requires.within c.owner-owner.result c.number-number.result
    (c.owner-owner.ensures ∙ ap (λ n. n.owner) c.shown-child.ensures) (c.number-number.ensures ∙ ap (λ n. n.number) c.shown-child.ensures)
    c.is_pending-pending.result c.set_unended.ensures.same c.set_unended.ensures.set c.set_unended.ensures.others c.requires.children

pub returns-clause-unended : goal.returns-clause-unended
returns-clause-unended c = λ j k i place other.
    let owner = c.owner-owner.ensures ∙ ap (λ n. n.owner) c.shown-child.ensures in
    let pending = c.is_pending-pending.ensures ∙ ap (λ n. n.pending) c.shown-child.ensures in
    unended_step c.args.nodes.now.items c.set_unended.new.nodes.items c.requires.linked c.args.at (omega (arith, c.if-at-eq0.false)) c.requires.within c.owner-owner.result c.number-number.result
    owner (c.number-number.ensures ∙ ap (λ n. n.number) c.shown-child.ensures)
    c.set_unended.ensures.same (subst (λ b. IsPut (node c.args.nodes.now.items c.owner-owner.result).unended c.number-number.result b (node c.set_unended.new.nodes.items c.owner-owner.result).unended) pending c.set_unended.ensures.set)
    c.set_unended.ensures.others c.requires.unended j k i place other
