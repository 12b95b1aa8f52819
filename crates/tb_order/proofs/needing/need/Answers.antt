use Rattle.std.proofs.Common.{◌≡◌, false, length, refl, sym, ap, ap₂, ◌∙◌, subst, arith, ◌⊎◌, inl, inr, ⊎_elim}
use Rattle.tb_races.specs.Orders.{AllNeeds}
use Rattle.tb_lanes.specs.Bounds.{AreRising, bound_among}
use Rattle.tb_lanes.specs.Clocks.{is_told, lane, lanes_of, previous, reaches}
use Rattle.tb_lanes.specs.Needing.{IsBelow, place_at}
use Rattle.tb_order.specs.Needed.{IsAmong, IsCandidate, is_pending}
use Rattle.tb_lanes.proofs.ClockLemmas.{within_any}
use Rattle.tb_order.proofs.NeededLemmas.{closed_so, first_found, first_pending, joined_found, met_below, none_reaches}
use Rattle.tb_lanes.proofs.NeedingLemmas.{below_more, each_more}
use Rattle.tb_order.proofs.WalkedLemmas.{at_among}
use Rattle.tb_order.proofs.needing.need.Goals as goal

pub returns-in_ok-push-clause-so_far : goal.returns-in_ok-push-clause-so_far
returns-in_ok-push-clause-so_far c =
    let entries = c.args.entries.now in
    let tasks = c.args.tasks.now in
    let begun = c.requires.begun in
    let at = c.args.step.now.at in
    let old = c.args.needed.now in
    let prev : c.index.result.now ≡ previous tasks at =
    within_any tasks.previous.items at 0 c.index.result.now (omega (arith, begun.at, begun.by_task.numbers_listed, begun.by_task.shaped.previous_listed)) c.index.ensures in
    first_found entries tasks c.args.clocks.now c.args.step.now begun old _ c.args.place c.requires.place c.requires.so_far c.requires.last c.in_ok-push.ensures.items
    (λ i l. subst (λ (xs : _). reaches AllNeeds entries (place_at xs i) c.args.place ≡ false) c.deref.ensures.value
    (c.is_reached.ensures.no c.if-not-is_reached.true (is_pending entries tasks at) entries at begun.by_task begun.front (sym begun.front.listed) (first_pending entries tasks c.args.clocks.now c.args.step.now begun c.args.place (omega (arith, prev, c.if-index-place.true))) i (omega (arith, l, ap length c.deref.ensures.value))))
    refl (omega (arith, prev, c.if-index-place.true))

pub returns-in_ok-push-clause-more : goal.returns-in_ok-push-clause-more
returns-in_ok-push-clause-more c q h = below_more AllNeeds c.args.entries.now c.args.needed.now.places.items c.push.new.self.items c.args.place c.in_ok-push.ensures.items q h

pub returns-in_ok-push-2-clause-so_far : goal.returns-in_ok-push-2-clause-so_far
returns-in_ok-push-2-clause-so_far c =
    let entries = c.args.entries.now in
    let tasks = c.args.tasks.now in
    let clocks = c.args.clocks.now in
    let step = c.args.step.now in
    let begun = c.requires.begun in
    let old = c.args.needed.now in
    let is = c.requires.so_far in
    let c0 = c.args.place in
    let row = bound_among old.rows.items in
    let prev : c.index.result.now ≡ previous tasks step.at =
    within_any tasks.previous.items step.at 0 c.index.result.now (omega (arith, begun.at, begun.by_task.numbers_listed, begun.by_task.shaped.previous_listed)) c.index.ensures in
    let offered : IsCandidate entries tasks step.at c0 = ⊎_elim (λ e. absurd (c.if-index-place.false (omega (arith, prev, e)))) (λ h. h) c.requires.offered in
    let lane_is : c.index-2.result.now ≡ lane (lanes_of clocks) c0 =
    within_any clocks.lanes.items c0 0 c.index-2.result.now (omega (arith, c.requires.place, begun.front.laned)) c.index-2.ensures in
    let bound_is : c.bound_among-told.result ≡ row (lane (lanes_of clocks) c0) =
    c.bound_among-told.ensures (subst AreRising (sym c.deref-2.ensures.value) is.rising) ∙ ap₂ bound_among c.deref-2.ensures.value lane_is in
    let unmet : is_told AllNeeds entries tasks (lanes_of clocks) row step.lane step.at c0 ≡ false =
    sym ((c.is_merged.ensures (is_pending entries tasks step.at) AllNeeds entries row begun.by_task begun.front bound_is).1 offered.2) ∙ c.if-not-is_merged.true in
    joined_found entries tasks clocks step begun old _ c0 c.requires.place is c.requires.last c.in_ok-push-2.ensures.items (none_reaches entries tasks clocks step begun old is c0 offered unmet) (c.in_ok-join.ensures.rising begun.front.rising is.rising)
    (c.in_ok-join.ensures.more (is_pending entries tasks step.at) AllNeeds entries begun.by_task begun.front is.rising (closed_so entries tasks clocks step begun old is)) offered

pub returns-in_ok-push-2-clause-more : goal.returns-in_ok-push-2-clause-more
returns-in_ok-push-2-clause-more c q h = below_more AllNeeds c.args.entries.now c.args.needed.now.places.items c.push-then-not-is_merged.new.self.items c.args.place c.in_ok-push-2.ensures.items q h

pub returns-in_ok-push-2-clause-each : goal.returns-in_ok-push-2-clause-each
returns-in_ok-push-2-clause-each c = each_more c.args.needed.now.places.items c.push-then-not-is_merged.new.self.items c.args.place c.in_ok-push-2.ensures.items (λ y. IsAmong c.args.needed.now.places.items y ⊎ (y ≡ c.args.place)) (λ i l. inl (at_among c.args.needed.now.places.items i l)) (inr refl)

pub returns-else-not-is_merged-clause-covered : goal.returns-else-not-is_merged-clause-covered
returns-else-not-is_merged-clause-covered c =
    let entries = c.args.entries.now in
    let tasks = c.args.tasks.now in
    let clocks = c.args.clocks.now in
    let step = c.args.step.now in
    let begun = c.requires.begun in
    let old = c.args.needed.now in
    let is = c.requires.so_far in
    let c0 = c.args.place in
    let row = bound_among old.rows.items in
    let prev : c.index.result.now ≡ previous tasks step.at =
    within_any tasks.previous.items step.at 0 c.index.result.now (omega (arith, begun.at, begun.by_task.numbers_listed, begun.by_task.shaped.previous_listed)) c.index.ensures in
    let offered : IsCandidate entries tasks step.at c0 = ⊎_elim (λ e. absurd (c.if-index-place.false (omega (arith, prev, e)))) (λ h. h) c.requires.offered in
    let lane_is : c.index-2.result.now ≡ lane (lanes_of clocks) c0 =
    within_any clocks.lanes.items c0 0 c.index-2.result.now (omega (arith, c.requires.place, begun.front.laned)) c.index-2.ensures in
    let bound_is : c.bound_among-told.result ≡ row (lane (lanes_of clocks) c0) =
    c.bound_among-told.ensures (subst AreRising (sym c.deref-2.ensures.value) is.rising) ∙ ap₂ bound_among c.deref-2.ensures.value lane_is in
    met_below entries tasks clocks step begun old is c0 offered ((c.is_merged.ensures (is_pending entries tasks step.at) AllNeeds entries row begun.by_task begun.front bound_is).0 c.if-not-is_merged.false)

pub returns-else-not-is_reached-clause-covered : goal.returns-else-not-is_reached-clause-covered
returns-else-not-is_reached-clause-covered c =
    let tasks = c.args.tasks.now in
    let begun = c.requires.begun in
    subst (λ (xs : _). IsBelow AllNeeds c.args.entries.now xs c.args.place) c.deref.ensures.value
    (c.is_reached.ensures.yes c.if-not-is_reached.false (is_pending c.args.entries.now tasks c.args.step.now.at) c.args.entries.now c.args.step.now.at begun.by_task begun.front (sym begun.front.listed))
