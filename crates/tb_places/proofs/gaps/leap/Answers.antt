use Rattle.std.proofs.Common.{ℕ, ◌≤◌, ◌+◌, ◌-◌, length, ltb, ltb-true, get_or, arith, rules}
use Rattle.std.proofs.lemmas.Bool.{ltb-false}
use Rattle.std.proofs.lemmas.List.Sorted.{IsPartitionPoint-from_clause, IsPartitionedBy-ltb}
use Rattle.std.proofs.lemmas.List.Sums.{prefix_len-le-length}
use Rattle.tb_places.proofs.ClosingLemmas.{below_at, leap_found, slice_rises}
use Rattle.tb_places.proofs.gaps.leap.Goals.{then-ahead-test+else-going-from, else-ahead-test}
use Rattle.tb_places.proofs.gaps.leap.Goals as goal

pub ahead-init : goal.ahead-init
ahead-init c = record {
  passed = c.requires.next;
  within = omega (arith, c.requires.next, prefix_len-le-length (λ g. ltb g c.args.place) c.args.going.now);
  some = omega arith;
  narrow = omega arith;
}

pub ahead-preserved : goal.ahead-preserved
ahead-preserved c =
    let a = c.ahead in
    let more = below_at 0 c.args.going.now c.args.place (a.from + a.width - 1) c.requires.rise (omega (arith, c.ahead-test.true, a.invariant.some)) c.if-going-from.true in
    record {
      passed = omega (arith, more);
      within = c.ahead-test.true;
      some = omega (arith, a.invariant.some);
      narrow = omega (arith, a.invariant.narrow);
    }

pub returns : goal.returns
returns c =
    let a = c.ahead in
    let going = c.args.going.now in
    let place = c.args.place in
    let parted = IsPartitionedBy-ltb (λ (x : ℕ). x) _ place (slice_rises going a.from c.min-to.result c.requires.rise) in
    let point = IsPartitionPoint-from_clause (λ (x : ℕ). ltb x place) _ _ c.partition_point.ensures.partitioned parted (λ a r q k. search rules) in
    let ahead : a.from + a.width ≤ length going → place ≤ get_or going (a.from + a.width - 1) 0 =
    elim c.ahead-test.branch [ then-ahead-test+else-going-from w ↦ λ _. omega (arith, w.if-going-from.false) | else-ahead-test w ↦ λ h. absurd (omega (arith, h, w.ahead-test.false)) ] in
    leap_found going place a.from a.width c.min-to.result c.partition_point.result c.requires.rise a.invariant.passed a.invariant.within (omega (arith, c.min-to.ensures)) a.invariant.some ahead
    c.partition_point.ensures.bound (λ i d h l. ltb-true _ _ (point.0 i d (omega arith) h)) (λ i d h l. ltb-false _ _ (point.1 i d h l))
