use Rattle.std.proofs.Common.{refl, sym, ap, ◌∙◌, arith, Some, subst}
use Rattle.tb_wait.specs.Tree.{node, IsTree}
use Rattle.tb_wait.proofs.SearchLemmas.{so_far_step, so_far_ends, some_live, below_step}
use Rattle.tb_wait.proofs.tree.Tree.first_within.Goals as goal

pub loop-nodes-preserved : goal.loop-nodes-preserved
loop-nodes-preserved c =
    let tree = subst (λ t. IsTree t.nodes) c.self.view_is c.self.invariant in
    let over = sym (c.is_pending.ensures ∙ ap (λ n. n.pending) c.shown.ensures ∙ ap (λ t. (node t.nodes c.loop-nodes.at).pending) c.self.view_is) ∙ c.loop-nodes-test.true in
    let it = c.in-Some.ensures.first.found c.in-Some.child refl in
    record {
      within = tree.linked.within c.loop-nodes.at it.0 c.in-Some.child it.2;
      live = it.3;
      below = λ names slots f. below_step names slots c.args.self.now.nodes f c.args.start c.loop-nodes.at c.in-Some.child (Some c.in-Some.child) c.in-Some.ensures.first refl (c.loop-nodes.invariant.below names slots f);
      so_far = λ names slots f. so_far_step names slots c.args.self.now.nodes f tree.live c.args.start c.loop-nodes.at c.in-Some.child
          (omega (arith, f.nodes_len, c.loop-nodes.invariant.within)) over (Some c.in-Some.child) c.in-Some.ensures.first refl (c.loop-nodes.invariant.so_far names slots f);
    }

pub returns-in-None-clause-pending : goal.returns-in-None-clause-pending
returns-in-None-clause-pending c =
    let tree = subst (λ t. IsTree t.nodes) c.self.view_is c.self.invariant in
    let over = sym (c.is_pending.ensures ∙ ap (λ n. n.pending) c.shown.ensures ∙ ap (λ t. (node t.nodes c.loop-nodes.at).pending) c.self.view_is) ∙ c.loop-nodes-test.true in
    absurd (some_live c.args.self.now.nodes c.loop-nodes.at tree c.loop-nodes.invariant.live over c.in-None.ensures.first)

pub returns-in-None-clause-first : goal.returns-in-None-clause-first
returns-in-None-clause-first c =
    let tree = subst (λ t. IsTree t.nodes) c.self.view_is c.self.invariant in
    let over = sym (c.is_pending.ensures ∙ ap (λ n. n.pending) c.shown.ensures ∙ ap (λ t. (node t.nodes c.loop-nodes.at).pending) c.self.view_is) ∙ c.loop-nodes-test.true in
    absurd (some_live c.args.self.now.nodes c.loop-nodes.at tree c.loop-nodes.invariant.live over c.in-None.ensures.first)

pub returns-clause-first : goal.returns-clause-first
returns-clause-first c = λ names slots f.
    so_far_ends names slots c.args.self.now.nodes f c.args.start c.loop-nodes.at (c.loop-nodes.invariant.below names slots f) (c.loop-nodes.invariant.so_far names slots f)
