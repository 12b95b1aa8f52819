use Rattle.std.proofs.Common.{◌≡◌, Bool, true, false, not, refl, sym, ap, ◌∙◌, subst}
use Rattle.tb_wait.specs.Numbers.{IsPut}
use Rattle.tb_wait.specs.Tree.{node, is_live}
use Rattle.tb_wait.proofs.TreeLemmas.{owner_within, number_from_one, number_within, children_live, live_step, live_settled, links_live, linked_same}
use Rattle.tb_wait.proofs.nodes.tell_live.Goals as goal

is_true : (b : Bool) → not b ≡ false → b ≡ true
is_true true e = refl
is_true false e = sym e

pub shown-above-requires : goal.shown-above-requires
shown-above-requires c =
    owner_within c.args.nodes.now.items c.requires.linked c.args.at c.requires.below c.requires.within c.owner-owner.result (c.owner-owner.ensures ∙ ap (λ n. n.owner) c.shown-child.ensures)

pub set_live-requires-clause-within : goal.set_live-requires-clause-within
set_live-requires-clause-within c =
    owner_within c.args.nodes.now.items c.requires.linked c.args.at c.requires.below c.requires.within c.owner-owner.result (c.owner-owner.ensures ∙ ap (λ n. n.owner) c.shown-child.ensures)

pub set_live-requires-clause-from_one : goal.set_live-requires-clause-from_one
set_live-requires-clause-from_one c =
    number_from_one c.args.nodes.now.items c.requires.linked c.args.at c.requires.below c.requires.within c.number-number.result (c.number-number.ensures ∙ ap (λ n. n.number) c.shown-child.ensures)

pub set_live-requires-clause-child : goal.set_live-requires-clause-child
set_live-requires-clause-child c =
    number_within c.args.nodes.now.items c.requires.linked c.args.at c.requires.below c.requires.within c.owner-owner.result c.number-number.result
    (c.owner-owner.ensures ∙ ap (λ n. n.owner) c.shown-child.ensures) (c.number-number.ensures ∙ ap (λ n. n.number) c.shown-child.ensures)

pub returns-clause-children : goal.returns-clause-children
returns-clause-children c =
    children_live c.args.nodes.now.items c.set_live.new.nodes.items c.requires.linked c.args.at c.requires.below c.requires.within c.owner-owner.result c.number-number.result
    (c.owner-owner.ensures ∙ ap (λ n. n.owner) c.shown-child.ensures) (c.number-number.ensures ∙ ap (λ n. n.number) c.shown-child.ensures)
    c.is_live-live.result c.set_live.ensures.same c.set_live.ensures.set c.set_live.ensures.others c.requires.children

pub returns-clause-above : goal.returns-clause-above
returns-clause-above c = λ yes j k i place other.
    let owner = c.owner-owner.ensures ∙ ap (λ n. n.owner) c.shown-child.ensures in
    let live = c.is_live-live.ensures ∙ ap is_live c.shown-child.ensures in
    live_step c.args.nodes.now.items c.set_live.new.nodes.items c.requires.linked c.args.at c.requires.below c.requires.within c.owner-owner.result c.number-number.result
    owner (c.number-number.ensures ∙ ap (λ n. n.number) c.shown-child.ensures)
    c.set_live.ensures.same (subst (λ b. IsPut (node c.args.nodes.now.items c.owner-owner.result).live c.number-number.result b (node c.set_live.new.nodes.items c.owner-owner.result).live) live c.set_live.ensures.set)
    c.set_live.ensures.others c.requires.live j k i place other

pub returns-clause-linked : goal.returns-clause-linked
returns-clause-linked c =
    linked_same c.args.nodes.now.items c.set_live.new.nodes.items (links_live c.args.nodes.now.items c.set_live.new.nodes.items c.set_live.ensures.same) c.requires.linked

pub returns-clause-done : goal.returns-clause-done
returns-clause-done c = λ no.
    let owner = c.owner-owner.ensures ∙ ap (λ n. n.owner) c.shown-child.ensures in
    let live = c.is_live-live.ensures ∙ ap is_live c.shown-child.ensures in
    let settled = sym (c.is_pending-settled.ensures ∙ ap (λ n. n.pending) c.shown-above.ensures) ∙ is_true c.is_pending-settled.result no in
    live_settled c.args.nodes.now.items c.set_live.new.nodes.items c.requires.linked c.args.at c.requires.below c.requires.within c.owner-owner.result c.number-number.result
    owner (c.number-number.ensures ∙ ap (λ n. n.number) c.shown-child.ensures)
    c.set_live.ensures.same (subst (λ b. IsPut (node c.args.nodes.now.items c.owner-owner.result).live c.number-number.result b (node c.set_live.new.nodes.items c.owner-owner.result).live) live c.set_live.ensures.set)
    c.set_live.ensures.others settled c.requires.live
