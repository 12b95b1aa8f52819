use Rattle.std.proofs.Common.{◌≡◌, ◌-◌, ◌<◌, ◌||◌, ℕ, false, true, length, max, nat_lt, refl, sym, ap, ap₂, ◌∙◌, subst, arith}
use Rattle.tb_lanes.specs.Bounds.{AreRising, bound_among, bound_in}
use Rattle.tb_lanes.specs.Clocks.{is_told, lane, lanes_of, origin, says}
use Rattle.tb_lanes.proofs.BoundLemmas.{first_bound, none_rising, says_both}
use Rattle.tb_lanes.proofs.ClockLemmas.{within_any}
use Rattle.tb_order.proofs.GatheredLemmas.{all_left, gathers, gathers_more, none_left}
use Rattle.tb_order.proofs.joining.join.Goals as goal

pub up-init : goal.up-init
up-init c =
    let tasks = c.args.tasks.now in
    let at = c.args.waiter.now.at in
    let place = c.args.place in
    let new = bound_among c.add_row.new.rows.items in
    let first = c.in_ok-first.first.items in
    let bounds = λ (j : ℕ). first_bound c.new-more.result.items c.new-more.ensures.items j (new j) (bound_in first j) (c.in_ok-add_row.ensures.bounds j) in
    let told_by = λ (j q : ℕ). ap (nat_lt q) (bounds j) ∙ c.in_ok-first.ensures.adds j q in record {
      front = omega arith;
      rows = refl;
      rising = λ each. c.in_ok-add_row.ensures.rising (none_rising c.new-more.result.items c.new-more.ensures.items) (c.in_ok-first.ensures.rising (each place c.requires.place));
      gathered = λ asked o entries are told. gathers asked o entries tasks c.args.clocks.now at are told (omega (arith, c.requires.at, are.numbers_listed)) place c.requires.place new told_by;
    }

pub up-smaller : goal.up-smaller
up-smaller c =
    let tasks = c.args.tasks.now in
    let l = c.up in
    let inside : l.at < length tasks.origins.items = omega (arith, l.invariant.front, c.requires.place, c.requires.at, c.requires.shaped.origins_listed) in
    let e : c.index-in-up.result.now ≡ origin tasks l.at = within_any tasks.origins.items l.at 0 c.index-in-up.result.now inside c.index-in-up.ensures in
    let f : c.index.result.now ≡ origin tasks l.at = within_any tasks.origins.items l.at 0 c.index.result.now inside c.index.ensures in
    omega (arith, e, f, c.up-test.true, c.requires.shaped.low l.at (omega (arith, l.invariant.front, c.requires.place, c.requires.at)))

pub up-preserved : goal.up-preserved
up-preserved c =
    let tasks = c.args.tasks.now in
    let stored = c.args.clocks.now in
    let at = c.args.waiter.now.at in
    let place = c.args.place in
    let l = c.up in
    let inside : l.at < length tasks.origins.items = omega (arith, l.invariant.front, c.requires.place, c.requires.at, c.requires.shaped.origins_listed) in
    let e : c.index-in-up.result.now ≡ origin tasks l.at = within_any tasks.origins.items l.at 0 c.index-in-up.result.now inside c.index-in-up.ensures in
    let f : c.index.result.now ≡ origin tasks l.at = within_any tasks.origins.items l.at 0 c.index.result.now inside c.index.ensures in
    let low = c.requires.shaped.low l.at (omega (arith, l.invariant.front, c.requires.place, c.requires.at)) in
    let up = c.index-in-up.result.now - 1 in
    let under : up < at = omega (arith, e, low, l.invariant.front, c.requires.place) in
    let old = bound_among l.more.items in
    let new = bound_among c.add_row-in-up.new.rows.items in
    let next = c.in_ok-next.next.items in
    let told_by = λ (j q : ℕ). says_both q (new j) (old j) (bound_in next j) (c.in_ok-add_row-3.ensures.bounds j) ∙ ap (λ b. nat_lt q (old j) || b) (c.in_ok-next.ensures.adds j q) in record {
      front = omega (arith, e, low, l.invariant.front);
      rows = l.invariant.rows;
      rising = λ each. c.in_ok-add_row-3.ensures.rising (l.invariant.rising each) (c.in_ok-next.ensures.rising (each up under));
      gathered = λ asked o entries are told. gathers_more asked o entries tasks stored at are told (omega (arith, c.requires.at, are.numbers_listed)) place l.at (omega (arith, l.invariant.front, c.requires.place)) (λ z. omega (arith, z, f, c.up-test.true)) up (omega (arith, e)) under old new told_by (l.invariant.gathered asked o entries are told);
    }

pub returns-then-is_merged-clause-rising : goal.returns-then-is_merged-clause-rising
returns-then-is_merged-clause-rising c each up = c.in_ok-add_row-2.ensures.rising (subst AreRising (sym c.up.invariant.rows) up) (c.in_ok-row.ensures.rising (c.up.invariant.rising each))

pub returns-clause-rising : goal.returns-clause-rising
returns-clause-rising c each up = c.in_ok-add_row-4.ensures.rising (subst AreRising (sym c.up.invariant.rows) up) (c.in_ok-row-2.ensures.rising (c.up.invariant.rising each))

pub returns-then-is_merged-clause-more : goal.returns-then-is_merged-clause-more
returns-then-is_merged-clause-more c asked o entries are told rise closed =
    let tasks = c.args.tasks.now in
    let stored = c.args.clocks.now in
    let at = c.args.waiter.now.at in
    let k = c.args.waiter.now.lane in
    let l = c.up in
    let inside : l.at < length tasks.origins.items = omega (arith, l.invariant.front, c.requires.place, c.requires.at, c.requires.shaped.origins_listed) in
    let e : c.index-in-up.result.now ≡ origin tasks l.at = within_any tasks.origins.items l.at 0 c.index-in-up.result.now inside c.index-in-up.ensures in
    let f : c.index.result.now ≡ origin tasks l.at = within_any tasks.origins.items l.at 0 c.index.result.now inside c.index.ensures in
    let low = c.requires.shaped.low l.at (omega (arith, l.invariant.front, c.requires.place, c.requires.at)) in
    let up = c.index-in-up.result.now - 1 in
    let under : up < at = omega (arith, e, low, l.invariant.front, c.requires.place) in
    let row = bound_among c.args.rows.now.items in
    let more = bound_among l.more.items in
    let next = bound_among c.add_row-then-is_merged.new.rows.items in
    let rows = c.deref.ensures.value ∙ l.invariant.rows in
    let lane_is : c.index-in-up-2.result.now ≡ lane (lanes_of stored) up =
    within_any stored.lanes.items up 0 c.index-in-up-2.result.now (omega (arith, under, told.laned)) c.index-in-up-2.ensures in
    let bound_is : c.bound_among.result ≡ row (lane (lanes_of stored) up) =
    c.bound_among.ensures (subst AreRising (sym rows) rise) ∙ ap₂ bound_among rows lane_is in
    let merged = (c.is_merged.ensures asked o entries row are told bound_is).0 c.if-is_merged.true in
    let both =
    λ (j q : ℕ). says_both q (next j) (row j) (more j) (c.in_ok-add_row-2.ensures.bounds j ∙ ap₂ max (ap (λ r. bound_among r j) l.invariant.rows) (c.in_ok-row.ensures.bounds j)) in
    all_left asked o entries tasks stored at are told (omega (arith, c.requires.at, are.numbers_listed)) c.args.place l.at (omega (arith, l.invariant.front, c.requires.place)) k row more next both (l.invariant.gathered asked o entries are told) up (λ z. omega (arith, z, f, c.up-test.true)) (omega (arith, e)) under closed merged

pub returns-clause-more : goal.returns-clause-more
returns-clause-more c asked o entries are told rise closed =
    let tasks = c.args.tasks.now in
    let l = c.up in
    let inside : l.at < length tasks.origins.items = omega (arith, l.invariant.front, c.requires.place, c.requires.at, c.requires.shaped.origins_listed) in
    let f : c.index.result.now ≡ origin tasks l.at = within_any tasks.origins.items l.at 0 c.index.result.now inside c.index.ensures in
    let row = bound_among c.args.rows.now.items in
    let more = bound_among l.more.items in
    let next = bound_among c.add_row-2.new.rows.items in
    let both =
    λ (j q : ℕ). says_both q (next j) (row j) (more j) (c.in_ok-add_row-4.ensures.bounds j ∙ ap₂ max (ap (λ r. bound_among r j) l.invariant.rows) (c.in_ok-row-2.ensures.bounds j)) in
    none_left asked o entries tasks c.args.clocks.now c.args.waiter.now.at are told (omega (arith, c.requires.at, are.numbers_listed)) c.args.place l.at (omega (arith, l.invariant.front, c.requires.place)) c.args.waiter.now.lane row more next both (l.invariant.gathered asked o entries are told) (omega (arith, f, c.up-test.false))
