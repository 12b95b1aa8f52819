use Rattle.std.proofs.Common.{◌≡◌, ◌==◌, ◌≢◌, ◌&&◌, false, nat_lt, sym, ap, ◌∙◌, arith, ltb-true, ne_eqb, lt-ltb}
use Rattle.std.proofs.lemmas.Bool.{both_ways, false_from_ne_true}
use Rattle.tb_lanes.specs.Clocks.{is_told, lane, lanes_of, origin, origin_reaches, says}
use Rattle.tb_lanes.proofs.ClockLemmas.{or_if, within_any}
use Rattle.tb_order.proofs.joining.is_merged.Goals as goal
use Rattle.tb_order.proofs.joining.is_merged.Goals.{then-waiter-lane, else-waiter-lane}

pub returns-else-early-bound : goal.returns-else-early-bound
returns-else-early-bound c asked o entries row are told bound_is =
    let clocks = c.args.clocks.now in
    let at = c.args.waiter.now.at in
    let k = c.args.waiter.now.lane in
    let q = c.args.early in
    let lane_is : c.index-lane.result.now ≡ lane (lanes_of clocks) q =
    within_any clocks.lanes.items q 0 c.index-lane.result.now (omega (arith, c.requires.early, c.requires.laned)) c.index-lane.ensures in
    let other : k ≢ lane (lanes_of clocks) q =
    λ e. (elim c.if-waiter-lane.branch [ then-waiter-lane w ↦ both_ways c.if-waiter-lane.value c.if-early-waiter.false (w.value-is ∙ lt-ltb q at c.requires.early) | else-waiter-lane w ↦ w.if-waiter-lane.false (e ∙ sym lane_is) ]) in
    let beyond : says row (lane (lanes_of clocks) q) q ≡ false =
    false_from_ne_true (says row (lane (lanes_of clocks) q) q) (λ h. omega (arith, ltb-true q (row (lane (lanes_of clocks) q)) h, bound_is, c.if-early-bound.false)) in
    let same : is_told o entries c.args.tasks.now (lanes_of clocks) row k at q ≡ origin_reaches o entries (origin c.args.tasks.now at) q =
    or_if (k == lane (lanes_of clocks) q && nat_lt q at) _ (ap (λ b. b && nat_lt q at) (ne_eqb k (lane (lanes_of clocks) q) other)) ∙ or_if (says row (lane (lanes_of clocks) q) q) _ beyond in
    let r = c.origin_reaches.ensures asked o entries are (omega (arith, c.requires.early, c.requires.at, are.numbers_listed)) told in
    (λ h. same ∙ r.0 h, λ a. r.1 a ∙ sym same)
