use Rattle.std.proofs.Common.{◌≡◌, ◌-◌, ◌+◌, ◌<◌, true, length, sym, ap, ◌∙◌, arith}
use Rattle.tb_lanes.specs.Clocks.{reaches}
use Rattle.tb_stream.specs.Ends.{IsMeant}
use Rattle.tb_stream.specs.Seen.{order}
use Rattle.tb_stream.proofs.ListLemmas.{get_at}
use Rattle.tb_stream.proofs.NoteLemmas.{meant_low, passed, skip_low}
use Rattle.tb_stream.proofs.noting.first_skipped.Goals as goal

pub back-preserved : goal.back-preserved
back-preserved c =
    let l = c.back in
    let ends = c.args.ends.now in
    let i = l.from - 1 in
    let e = c.index-end.result.now in
    let inside : i < length ends.items = omega (arith, c.back-test.true, l.invariant.within) in
    let here = get_at ends.items i e inside c.index-end.ensures in record {
      within = omega (arith, c.lower-from.ensures.low, inside);
      passed = λ r n lanes meant added stored j m h.
          let full = stored.full i e here in
          let top : reaches (order r) r.entries n e.mark.at ≡ true =
          ap (λ p. reaches (order r) r.entries p e.mark.at) (sym added.at) ∙ sym (c.reaches.ensures r (n + 1) lanes added.clocks_are added.full full.mark) ∙ c.if-not-reaches.false in
          let skip = c.lower-from.ensures.same (skip_low r n lanes c.args.clocks.now c.args.mark added (IsMeant r n meant) (meant_low r n meant) ends stored i e here inside) in
          passed r n lanes c.args.clocks.now c.args.mark added (IsMeant r n meant) (meant_low r n meant) ends stored i e here inside top
          (λ k a b. l.invariant.passed r n lanes meant added stored k (omega (arith, a)) b) j (omega (arith, m, skip)) h;
    }
