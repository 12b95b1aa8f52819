use Rattle.std.proofs.Common.{Some, None, refl, sym, ◌∙◌, arith}
use Rattle.tb_stream.proofs.ReachLemmas.{reach_below, reach_none, reach_over, reach_some}
use Rattle.tb_stream.proofs.reaching.reaches.Goals as goal

pub up-init : goal.up-init
up-init c = record { same = λ r n lanes are late early. (late, refl) }

pub returns-then-is_below : goal.returns-then-is_below
returns-then-is_below c r n lanes are late early =
    let s = c.up.invariant.same r n lanes are late early in
    sym (s.1 ∙ reach_below r n lanes c.args.clocks.now are c.up.mark c.args.early s.0 early (sym (c.is_below.ensures r n lanes s.0 early) ∙ c.if-is_below.true))

pub returns-in-None : goal.returns-in-None
returns-in-None c r n lanes are late early =
    let s = c.up.invariant.same r n lanes are late early in
    let from = c.in-None.ensures.origin r n lanes are (omega (arith, s.0.mark.at)) (omega (arith, s.0.mark.at, are.within)) s.0.task in
    sym (s.1 ∙ reach_none r n lanes c.args.clocks.now are c.up.mark c.args.early s.0 early (sym (c.is_below.ensures r n lanes s.0 early) ∙ c.if-is_below.false) None refl from)

pub up-preserved : goal.up-preserved
up-preserved c = record {
  same = λ r n lanes are late early.
      let s = c.up.invariant.same r n lanes are late early in
      let from = c.in-Some.ensures.origin r n lanes are (omega (arith, s.0.mark.at)) (omega (arith, s.0.mark.at, are.within)) s.0.task in
      let up = reach_some r n lanes c.args.clocks.now are c.up.mark c.args.early s.0 early (sym (c.is_below.ensures r n lanes s.0 early) ∙ c.if-is_below.false) (Some c.in-Some.origin) c.in-Some.origin refl from in
      (up.0, s.1 ∙ up.1);
}

pub returns : goal.returns
returns c r n lanes are late early =
    let s = c.up.invariant.same r n lanes are late early in
    sym (s.1 ∙ reach_over r n lanes c.args.clocks.now are c.up.mark c.args.early s.0 early (omega (arith, c.up-test.false)))
