use Rattle.std.proofs.Common.{◌≡◌, ◌-◌, ◌<◌, true, false, refl, sym, ap, ap₂, ◌∙◌, subst, arith, ⊎_elim, length}
use Rattle.std.proofs.lemmas.Bool.{cases_eq, cases_lt, both_ways}
use Rattle.tb_lanes.specs.Clocks.{end_at, is_end_at, is_told, lane, lanes_of, links_at, skip_at}
use Rattle.tb_lanes.specs.Linking.{order_of}
use Rattle.tb_lanes.specs.Bounds.{AreRising, bound_among}
use Rattle.tb_lanes.proofs.ClockLemmas.{within_any}
use Rattle.tb_lanes.proofs.EndLemmas.{seen_more}
use Rattle.tb_lanes.proofs.FewerLemmas.{adds_exact, closed_exact, exact_fewer}
use Rattle.tb_order.proofs.JoinedLemmas.{joins_none, joins_one}
use Rattle.tb_lanes.proofs.SoundLemmas.{adds_told, sound_more, stays_told, itself_told}
use Rattle.tb_order.proofs.merging.merge.Goals as goal

pub back-init : goal.back-init
back-init c = record {
  within = omega arith;
  more = joins_none c.args.entries.now c.args.tasks.now c.args.past.now c.args.waiter.now.lane c.args.waiter.now.at c.args.joined.now c.requires.joined;
  seen = λ i l m h. absurd (omega (arith, l, m));
}

pub back-preserved-then-is_merged : goal.back-preserved-then-is_merged
back-preserved-then-is_merged c =
    let o = order_of c.args.past.now.exclusion in
    let entries = c.args.entries.now in
    let tasks = c.args.tasks.now in
    let clocks = lanes_of c.args.past.now.clocks in
    let ends = c.args.ends.now in
    let at = c.args.waiter.now.at in
    let k = c.args.waiter.now.lane in
    let l = c.back in
    let row = bound_among l.joined.rows.items in
    let i = l.left - 1 in
    let inside : i < length ends.places.items = omega (arith, c.back-test.true, l.invariant.within) in
    let e : c.index-end.result.now ≡ end_at ends i = within_any ends.places.items i 0 c.index-end.result.now inside c.index-end.ensures in
    let low = c.requires.row.tied.low i inside in
    let skip : c.index-left.result.now ≡ skip_at ends i =
    within_any ends.skips.items i 0 c.index-left.result.now (omega (arith, inside, c.requires.row.tied.listed)) c.index-left.ensures in
    let lane_is : c.index.result.now ≡ lane clocks c.index-end.result.now =
    within_any c.args.past.now.clocks.lanes.items c.index-end.result.now 0 c.index.result.now (omega (arith, e, (c.requires.row.each i inside).0, c.requires.waiting.front.clocks.laned)) c.index.ensures in
    let bound_is : c.bound_among-told.result ≡ row (lane clocks c.index-end.result.now) =
    c.bound_among-told.ensures (subst AreRising (sym c.deref.ensures.value) l.invariant.more.are.rising) ∙ ap₂ bound_among c.deref.ensures.value lane_is in
    let merged =
    (c.is_merged.ensures (λ q. true) o entries row c.requires.waiting.by_task (exact_fewer o entries tasks at c.args.past.now.clocks c.requires.waiting.front.clocks) bound_is).0 in
    let told : is_told o entries tasks clocks row k at (end_at ends i) ≡ true = subst (λ y. is_told o entries tasks clocks row k at y ≡ true) e (merged c.if-is_merged.true) in record {
      within = omega (arith, skip, low, inside);
      more = l.invariant.more;
      seen = λ j m h q.
          seen_more o entries tasks clocks row k at l.invariant.more.are.sound ends c.requires.row i inside told (λ n. links_at o entries at (end_at ends n) ≡ true)
          (λ n a b r. l.invariant.seen n (omega (arith, a)) b r) j (omega (arith, m, skip)) h q;
    }

pub back-preserved-then-waits : goal.back-preserved-then-waits
back-preserved-then-waits c =
    let o = order_of c.args.past.now.exclusion in
    let entries = c.args.entries.now in
    let tasks = c.args.tasks.now in
    let clocks = lanes_of c.args.past.now.clocks in
    let are = c.requires.waiting.by_task in
    let stored = c.requires.waiting.front.clocks in
    let told = stored.lanes in
    let w = c.requires.waiting.at in
    let ends = c.args.ends.now in
    let at = c.args.waiter.now.at in
    let k = c.args.waiter.now.lane in
    let l = c.back in
    let row = bound_among l.joined.rows.items in
    let i = l.left - 1 in
    let inside : i < length ends.places.items = omega (arith, c.back-test.true, l.invariant.within) in
    let e : c.index-end.result.now ≡ end_at ends i = within_any ends.places.items i 0 c.index-end.result.now inside c.index-end.ensures in
    let low = c.requires.row.tied.low i inside in
    let skip : c.index-left-then-waits.result.now ≡ skip_at ends i =
    within_any ends.skips.items i 0 c.index-left-then-waits.result.now (omega (arith, inside, c.requires.row.tied.listed)) c.index-left-then-waits.ensures in
    let s = c.index-end.result.now in
    let next = bound_among c.join.new.rows.items in
    let each : (s < at) × (is_end_at entries s ≡ true) = subst (λ y. (y < at) × (is_end_at entries y ≡ true)) (sym e) (c.requires.row.each i inside) in
    let up = l.invariant.more.are.rising in
    let was = l.invariant.more.are.sound in
    let more = adds_exact o entries tasks c.args.past.now.clocks k at s row next was.low
    (c.in_ok-join.ensures.more (λ q. true) o entries are (exact_fewer o entries tasks at c.args.past.now.clocks stored) up (closed_exact o entries tasks clocks row k at was)) in
    let link : links_at o entries at s ≡ true = sym (c.waits.ensures each.1) ∙ c.if-waits.true in
    let itself = itself_told o entries tasks are at w clocks told k row next s each.0 more in
    let stays = stays_told o entries tasks are at w clocks told k row next s each.0 more in
    let sound = sound_more o entries tasks are at w clocks told k row next s each.0 more l.invariant.more.are.sound link in record {
      within = omega (arith, skip, low, inside);
      more = joins_one entries tasks c.args.past.now k at c.args.joined.now l.joined _ s l.invariant.more (c.in_ok-join.ensures.rising stored.rising up) sound stays (each.0, each.1, itself) c.better.result c.better.ensures refl c.in_ok-push.ensures.items link (adds_told o entries tasks are at w clocks told k row next s each.0 more);
      seen = λ j m h q.
          seen_more o entries tasks clocks next k at sound ends c.requires.row i inside (subst (λ y. is_told o entries tasks clocks next k at y ≡ true) e itself) (λ n. links_at o entries at (end_at ends n) ≡ true)
          (λ n a b r. stays (end_at ends n) (c.requires.row.each n b).0 (l.invariant.seen n (omega (arith, a)) b r)) j (omega (arith, m, skip)) h q;
    }

pub back-preserved : goal.back-preserved
back-preserved c =
    let o = order_of c.args.past.now.exclusion in
    let entries = c.args.entries.now in
    let ends = c.args.ends.now in
    let at = c.args.waiter.now.at in
    let l = c.back in
    let i = l.left - 1 in
    let inside : i < length ends.places.items = omega (arith, c.back-test.true, l.invariant.within) in
    let e : c.index-end.result.now ≡ end_at ends i = within_any ends.places.items i 0 c.index-end.result.now inside c.index-end.ensures in
    let over : is_end_at entries c.index-end.result.now ≡ true = subst (λ y. is_end_at entries y ≡ true) (sym e) (c.requires.row.each i inside).1 in
    let none : links_at o entries at (end_at ends i) ≡ false = subst (λ y. links_at o entries at y ≡ false) e (sym (c.waits.ensures over) ∙ c.if-waits.false) in record {
      within = omega (arith, l.invariant.within);
      more = l.invariant.more;
      seen = λ j m h q.
          ⊎_elim
          (λ g. absurd (both_ways (links_at o entries at (end_at ends i)) none (subst (λ n. links_at o entries at (end_at ends n) ≡ true) g q)))
          (λ d. l.invariant.seen j (omega (arith, m, d)) h q)
          (cases_eq j i);
    }

-- those further back are before where the walk begins
pub returns-then-end-waiter-clause-told : goal.returns-then-end-waiter-clause-told
returns-then-end-waiter-clause-told c j m q =
    let ends = c.args.ends.now in
    let l = c.back in
    let i = l.left - 1 in
    let inside : i < length ends.places.items = omega (arith, c.back-test.true, l.invariant.within) in
    let e : c.index-end.result.now ≡ end_at ends i = within_any ends.places.items i 0 c.index-end.result.now inside c.index-end.ensures in
    let from = c.requires.waiting.from (end_at ends j) (c.requires.row.each j m) q in
    ⊎_elim
    (λ a. ⊎_elim
    (λ g. absurd (omega (arith, from, c.if-end-waiter.true, e, ap (end_at ends) g)))
    (λ d. absurd (omega (arith, from, c.if-end-waiter.true, e, c.requires.row.tied.ordered i j inside (omega (arith, a, d)))))
    (cases_eq j i))
    (λ a. l.invariant.seen j a m q)
    (cases_lt j l.left)
