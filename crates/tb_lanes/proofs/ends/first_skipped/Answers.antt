use Rattle.std.proofs.Common.{◌≡◌, ◌-◌, ◌+◌, ◌<◌, true, length, subst, arith}
use Rattle.tb_lanes.specs.Clocks.{end_at, reaches, skip_at}
use Rattle.tb_lanes.proofs.ClockLemmas.{within_any}
use Rattle.tb_lanes.proofs.EndLemmas.{passed_more}
use Rattle.tb_lanes.proofs.FewerLemmas.{exact_fewer}
use Rattle.tb_lanes.proofs.ends.first_skipped.Goals as goal

pub back-preserved : goal.back-preserved
back-preserved c =
    let l = c.back in
    let ends = c.args.ends.now in
    let at = c.args.at in
    let i = l.from - 1 in
    let inside : i < length ends.places.items = omega (arith, c.back-test.true, l.invariant.within) in
    let e : c.index.result.now ≡ end_at ends i = within_any ends.places.items i 0 c.index.result.now inside c.index.ensures in
    let skip : c.index-from.result.now ≡ skip_at ends i = within_any ends.skips.items i 0 c.index-from.result.now (omega (arith, inside, c.requires.marked)) c.index-from.ensures in
    let low = c.requires.skips i inside in record {
      within = omega (arith, skip, low, inside);
      passed = λ o entries are told is j m h.
          passed_more o entries at (omega (arith, c.requires.at, c.requires.listed, are.numbers_listed)) ends is c.requires.low i inside
          (subst (λ y. reaches o entries at y ≡ true) e ((c.reaches.ensures (λ q. true) o entries (at + 1) are (exact_fewer o entries c.args.tasks.now (at + 1) c.args.clocks.now told) (omega arith)).0 c.if-reaches.true))
          (λ n a b. l.invariant.passed o entries are told is n (omega (arith, a)) b) j (omega (arith, m, skip)) h;
    }
