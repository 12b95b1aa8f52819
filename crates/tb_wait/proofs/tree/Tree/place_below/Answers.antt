use Rattle.std.proofs.Common.{refl, arith}
use Rattle.tb_wait.proofs.FindingLemmas.{reached_next, reached_none}
use Rattle.tb_wait.proofs.tree.Tree.place_below.Goals as goal

pub loop-left-preserved : goal.loop-left-preserved
loop-left-preserved c = record {
  few = omega (arith, c.loop-left.invariant.few);
  reached = λ names slots f w. reached_next names slots c.args.self.now.nodes f c.args.start c.loop-left.at c.loop-left.left c.args.numbers.now (c.loop-left.invariant.reached names slots f w)
      c.loop-left-test.true c.loop-left.invariant.few _ 0 refl c.in-Some.child c.in-Some.ensures.some.0 c.in-Some.ensures.some.1;
}

pub returns-in-None : goal.returns-in-None
returns-in-None c = λ names slots f w.
    reached_none names slots c.args.self.now.nodes f c.args.start c.loop-left.at c.loop-left.left c.args.numbers.now (c.loop-left.invariant.reached names slots f w) c.loop-left-test.true c.loop-left.invariant.few _ 0 refl c.in-None.ensures.none
