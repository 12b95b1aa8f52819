use Rattle.std.proofs.Common.{◌≡◌, ◌<◌, ℕ, true, length, inl, inr, ⊎_elim, sym, ap, ap₂, ◌∙◌, subst, arith}
use Rattle.tb_lanes.specs.Bounds.{IsRising, bound_in}
use Rattle.tb_lanes.specs.Clocks.{end_at, is_end_at, is_told, lane, lanes_of, row_in}
use Rattle.tb_lanes.proofs.ClockLemmas.{within_any}
use Rattle.tb_lanes.proofs.FewerLemmas.{exact_fewer}
use Rattle.tb_order.proofs.merging.stay.Goals as goal

pub returns-clause-lane : goal.returns-clause-lane
returns-clause-lane c o entries are exact ends rises =
    let tasks = c.args.tasks.now in
    let stored = c.args.clocks.now in
    let clocks = lanes_of stored in
    let places = c.args.ends.now.places.items in
    let at = c.args.step.at in
    let row = bound_in (row_in stored.rows.items c.args.step.row) in
    let x = c.index-end.result.now in
    let inside : c.args.free < length places = omega (arith, c.if-free-len.false, c.len-else-step-len.ensures) in
    let e : x ≡ end_at c.args.ends.now c.args.free = within_any places c.args.free 0 x inside c.index-end.ensures in
    let low : x < at = omega (arith, e, c.requires.ends c.args.free inside) in
    let over : is_end_at entries x ≡ true = subst (λ y. is_end_at entries y ≡ true) (sym e) (ends.each c.args.free inside).1 in
    let lane_is : c.index.result.now ≡ lane clocks x =
    within_any stored.lanes.items x 0 c.index.result.now (omega (arith, low, c.requires.laned)) c.index.ensures in
    let row_is = c.row-row.ensures ∙ ap (λ rows. row_in rows c.args.step.row) c.deref.ensures.value in
    let bound_is : c.bound.result ≡ row (lane clocks x) =
    c.bound.ensures (subst IsRising (sym row_is) rises) ∙ ap₂ bound_in row_is lane_is in
    let told : is_told o entries tasks clocks row c.args.step.lane at x ≡ true =
    (c.is_merged.ensures (λ q. true) o entries row are (exact_fewer o entries tasks at stored exact) bound_is).0 c.if-not-is_merged.false in
    ⊎_elim (λ same. inl same) (λ more. inr (x, (low, over, told), more.0, more.1, more.2)) c.lane_behind.ensures
