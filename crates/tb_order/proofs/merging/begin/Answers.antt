use Rattle.std.proofs.Common.{◌≡◌, ◌<◌, [], length, sym, ap, subst, arith}
use Rattle.std.specs.Prelude.{slice_index_or}
use Rattle.tb_lanes.specs.Clocks.{IsLane, IsSound, lane, lanes_of, row_in}
use Rattle.tb_lanes.specs.Bounds.{IsRising, bound_in}
use Rattle.tb_lanes.proofs.ClockLemmas.{within_any}
use Rattle.tb_lanes.proofs.LaneLemmas.{fresh_new, own_before, lane_before, lane_none, sound_before}
use Rattle.tb_lanes.proofs.SoundLemmas.{own_none, sound_none}
use Rattle.tb_lanes.specs.Fewer.{BeginsFor}
use Rattle.tb_lanes.specs.Needing.{IsOwn}
use Rattle.tb_lanes.proofs.FewerLemmas.{begins_new, begins_on}
use Rattle.tb_order.proofs.merging.begin.Goals as goal

pub returns-in-Some-clause-row : goal.returns-in-Some-clause-row
returns-in-Some-clause-row c o entries are told =
    let b = c.in-Some.before in
    let f = c.in-Some.ensures.own in
    let e : c.index.result.now ≡ slice_index_or c.args.clocks.now.of.items b 0 =
    within_any c.args.clocks.now.of.items b 0 c.index.result.now (omega (arith, f.2, c.requires.listed)) c.index.ensures in
    omega (arith, e, told.within b f.2)

pub returns-in-Some-clause-sound : goal.returns-in-Some-clause-sound
returns-in-Some-clause-sound c o entries legal are told =
    let clocks = c.args.clocks.now in
    let at = c.args.at in
    let b = c.in-Some.before in
    let f = c.in-Some.ensures.own in
    let w : at < length entries = omega (arith, c.requires.at, are.numbers_listed) in
    let e : c.index.result.now ≡ slice_index_or clocks.of.items b 0 =
    within_any clocks.of.items b 0 c.index.result.now (omega (arith, f.2, c.requires.listed)) c.index.ensures in
    let k : c.index-in-Some.result.now ≡ lane (lanes_of clocks) b =
    within_any clocks.lanes.items b 0 c.index-in-Some.result.now (omega (arith, f.2, c.requires.laned)) c.index-in-Some.ensures in
    subst (λ m. IsSound o entries c.args.tasks.now (lanes_of clocks) (bound_in (row_in clocks.rows.items m)) c.index-in-Some.result.now at) (sym e)
    (subst (λ m. IsSound o entries c.args.tasks.now (lanes_of clocks) (bound_in (row_in clocks.rows.items (slice_index_or clocks.of.items b 0))) m at) (sym k)
    (sound_before o entries c.args.tasks.now are at w (lanes_of clocks) told.lanes legal b f.0 f.1))

pub returns-in-Some-clause-lane : goal.returns-in-Some-clause-lane
returns-in-Some-clause-lane c o entries legal are told =
    let clocks = c.args.clocks.now in
    let at = c.args.at in
    let b = c.in-Some.before in
    let f = c.in-Some.ensures.own in
    let w : at < length entries = omega (arith, c.requires.at, are.numbers_listed) in
    let k : c.index-in-Some.result.now ≡ lane (lanes_of clocks) b =
    within_any clocks.lanes.items b 0 c.index-in-Some.result.now (omega (arith, f.2, c.requires.laned)) c.index-in-Some.ensures in
    subst (λ m. IsLane entries (lanes_of clocks) m at) (sym k) (lane_before o entries c.args.tasks.now are at w (lanes_of clocks) told.lanes legal b f.0 f.1)

pub returns-in-None-clause-sound : goal.returns-in-None-clause-sound
returns-in-None-clause-sound c o entries legal are told =
    let clocks = c.args.clocks.now in
    let at = c.args.at in
    let w : at < length entries = omega (arith, c.requires.at, are.numbers_listed) in
    let k : c.len.result ≡ length clocks.lasts.items = omega (arith, c.len.ensures, clocks.lasts.ok) in
    subst (λ m. IsSound o entries c.args.tasks.now (lanes_of clocks) (bound_in []) m at) (sym k)
    (sound_none o entries c.args.tasks.now are at w (lanes_of clocks) told.lanes (length clocks.lasts.items) (fresh_new o entries c.args.tasks.now are at w (lanes_of clocks) told.lanes) c.in-None.ensures.none)

pub returns-in-None-clause-lane : goal.returns-in-None-clause-lane
returns-in-None-clause-lane c o entries legal are told =
    let clocks = c.args.clocks.now in
    let at = c.args.at in
    let w : at < length entries = omega (arith, c.requires.at, are.numbers_listed) in
    let k : c.len.result ≡ length clocks.lasts.items = omega (arith, c.len.ensures, clocks.lasts.ok) in
    subst (λ m. IsLane entries (lanes_of clocks) m at) (sym k) (lane_none o entries c.args.tasks.now are at w (lanes_of clocks) told.lanes c.in-None.ensures.none)

pub returns-in-Some-clause-rising : goal.returns-in-Some-clause-rising
returns-in-Some-clause-rising c o entries are told =
    let clocks = c.args.clocks.now in
    let b = c.in-Some.before in
    let f = c.in-Some.ensures.own in
    let e : c.index.result.now ≡ slice_index_or clocks.of.items b 0 =
    within_any clocks.of.items b 0 c.index.result.now (omega (arith, f.2, c.requires.listed)) c.index.ensures in
    subst (λ m. IsRising (row_in clocks.rows.items m)) (sym e) (told.rising b f.2)

pub returns-in-Some-clause-own : goal.returns-in-Some-clause-own
returns-in-Some-clause-own c o entries legal are told =
    let clocks = c.args.clocks.now in
    let at = c.args.at in
    let b = c.in-Some.before in
    let f = c.in-Some.ensures.own in
    let w : at < length entries = omega (arith, c.requires.at, are.numbers_listed) in
    let e : c.index.result.now ≡ slice_index_or clocks.of.items b 0 =
    within_any clocks.of.items b 0 c.index.result.now (omega (arith, f.2, c.requires.listed)) c.index.ensures in
    let k : c.index-in-Some.result.now ≡ lane (lanes_of clocks) b =
    within_any clocks.lanes.items b 0 c.index-in-Some.result.now (omega (arith, f.2, c.requires.laned)) c.index-in-Some.ensures in
    subst (λ m. IsOwn o entries c.args.tasks.now (lanes_of clocks) (bound_in (row_in clocks.rows.items m)) c.index-in-Some.result.now at) (sym e)
    (subst (λ m. IsOwn o entries c.args.tasks.now (lanes_of clocks) (bound_in (row_in clocks.rows.items (slice_index_or clocks.of.items b 0))) m at) (sym k)
    (own_before o entries c.args.tasks.now are at w (lanes_of clocks) told.lanes legal b f.0 f.1))

pub returns-in-None-clause-own : goal.returns-in-None-clause-own
returns-in-None-clause-own c o entries legal are told =
    let clocks = c.args.clocks.now in
    let at = c.args.at in
    let w : at < length entries = omega (arith, c.requires.at, are.numbers_listed) in
    let k : c.len.result ≡ length clocks.lasts.items = omega (arith, c.len.ensures, clocks.lasts.ok) in
    subst (λ m. IsOwn o entries c.args.tasks.now (lanes_of clocks) (bound_in []) m at) (sym k)
    (own_none o entries c.args.tasks.now are at w (lanes_of clocks) told.lanes (length clocks.lasts.items) (fresh_new o entries c.args.tasks.now are at w (lanes_of clocks) told.lanes) c.in-None.ensures.none)

pub returns-in-Some-clause-fewer : goal.returns-in-Some-clause-fewer
returns-in-Some-clause-fewer c asked o entries legal are told =
    let clocks = c.args.clocks.now in
    let at = c.args.at in
    let b = c.in-Some.before in
    let f = c.in-Some.ensures.own in
    let w : at < length entries = omega (arith, c.requires.at, are.numbers_listed) in
    let e : c.index.result.now ≡ slice_index_or clocks.of.items b 0 =
    within_any clocks.of.items b 0 c.index.result.now (omega (arith, f.2, c.requires.listed)) c.index.ensures in
    let k : c.index-in-Some.result.now ≡ lane (lanes_of clocks) b =
    within_any clocks.lanes.items b 0 c.index-in-Some.result.now (omega (arith, f.2, c.requires.laned)) c.index-in-Some.ensures in
    begins_on asked o entries c.args.tasks.now are at w clocks told legal b f.0 f.1 c.index.result.now (ap (row_in clocks.rows.items) e) (omega (arith, e, told.within b f.2)) c.index-in-Some.result.now k

pub returns-in-None-clause-fewer : goal.returns-in-None-clause-fewer
returns-in-None-clause-fewer c asked o entries legal are told =
    let clocks = c.args.clocks.now in
    let at = c.args.at in
    let w : at < length entries = omega (arith, c.requires.at, are.numbers_listed) in
    let k : c.len.result ≡ length clocks.lasts.items = omega (arith, c.len.ensures, clocks.lasts.ok) in
    subst (λ m. BeginsFor asked o entries c.args.tasks.now clocks 0 m at) (sym k) (begins_new asked o entries c.args.tasks.now are at w clocks told c.in-None.ensures.none)
