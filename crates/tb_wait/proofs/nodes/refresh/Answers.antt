use Rattle.std.proofs.Common.{ap, ◌∙◌, subst, sym, arith}
use Rattle.tb_wait.specs.Tree.{KnowsLiveBut}
use Rattle.tb_wait.proofs.TreeLemmas.{owner_before, live_along}
use Rattle.tb_wait.proofs.nodes.refresh.Goals as goal

pub loop-at-smaller : goal.loop-at-smaller
loop-at-smaller c =
    owner_before c.loop-at.nodes.items c.loop-at.invariant.linked c.loop-at.at c.loop-at-test.true c.loop-at.invariant.within c.owner-owner.result
    (c.owner-owner.ensures ∙ ap (λ n. n.owner) c.shown.ensures)

pub loop-at-preserved : goal.loop-at-preserved
loop-at-preserved c =
    let owner = c.owner-owner.ensures ∙ ap (λ n. n.owner) c.shown.ensures in
    let before = owner_before c.loop-at.nodes.items c.loop-at.invariant.linked c.loop-at.at c.loop-at-test.true c.loop-at.invariant.within c.owner-owner.result owner in
    record {
      capacity = c.tell_live.ensures.capacity ∙ c.loop-at.invariant.capacity;
      same = live_along c.args.nodes.now.items c.loop-at.nodes.items c.tell_live.new.nodes.items c.loop-at.invariant.same c.tell_live.ensures.same;
      linked = c.tell_live.ensures.linked;
      children = c.tell_live.ensures.children;
      within = omega (arith, before, c.loop-at.invariant.within, c.tell_live.ensures.same.len);
      live = subst (KnowsLiveBut c.tell_live.new.nodes.items) (sym owner) (c.tell_live.ensures.above c.if-not-tell_live.false);
    }
