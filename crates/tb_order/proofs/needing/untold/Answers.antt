use Rattle.std.proofs.Common.{◌≡◌, ◌++◌, ◌∷◌, [], ℕ, cond, not, filter, sym, ap, ap₂, ◌∙◌, subst, arith}
use Rattle.std.proofs.lemmas.List.{take_all}
use Rattle.std.proofs.lemmas.List.Elements.{filter_more}
use Rattle.tb_races.specs.Orders.{AllNeeds}
use Rattle.tb_lanes.specs.Bounds.{IsRising, bound_in}
use Rattle.tb_lanes.specs.Clocks.{lane, lanes_of, row_in}
use Rattle.tb_lanes.specs.Needing.{place_at}
use Rattle.tb_order.specs.Needed.{is_known, is_pending, own_row}
use Rattle.tb_lanes.proofs.ClockLemmas.{within_any}
use Rattle.tb_order.proofs.needing.untold.Goals as goal

pub loop-place-preserved : goal.loop-place-preserved
loop-place-preserved c =
    let entries = c.args.entries.now in
    let tasks = c.args.tasks.now in
    let clocks = c.args.clocks.now in
    let step = c.args.step.now in
    let begun = c.requires.begun in
    let places = c.args.places.now in
    let i = c.loop-place.place-index in
    let x = place_at places i in
    let f = λ (q : ℕ). not (is_known entries tasks clocks step q) in
    let own : c.row-own.result.now ≡ own_row clocks step = c.row-own.ensures ∙ ap (λ rows. row_in rows step.row) c.deref.ensures.value in
    let lane_is : c.index.result.now ≡ lane (lanes_of clocks) x =
    within_any clocks.lanes.items x 0 c.index.result.now (omega (arith, c.requires.low i c.loop-place-test.true, begun.front.laned)) c.index.ensures in
    let bound_is : c.bound-told.result ≡ bound_in (own_row clocks step) (lane (lanes_of clocks) x) =
    c.bound-told.ensures (subst IsRising (sym own) begun.begins.rising) ∙ ap₂ bound_in own lane_is in
    let known : c.is_merged-known.result ≡ is_known entries tasks clocks step x =
    (c.is_merged-known.ensures (is_pending entries tasks step.at) AllNeeds entries (bound_in (own_row clocks step)) begun.by_task begun.front bound_is).1 (c.requires.pending i c.loop-place-test.true) in
    c.in_ok-push_unless.ensures ∙ ap₂ (λ old b. old ++ cond (not b) (x ∷ []) []) c.loop-place.invariant known ∙ sym (filter_more f places i 0 c.loop-place-test.true)

pub is_merged-known-requires-clause-early : goal.is_merged-known-requires-clause-early
is_merged-known-requires-clause-early c = c.requires.low c.loop-place.place-index c.loop-place-test.true

pub returns : goal.returns
returns c = c.loop-place.invariant ∙ ap (filter (λ q. not (is_known c.args.entries.now c.args.tasks.now c.args.clocks.now c.args.step.now q))) (take_all c.loop-place.place-index c.args.places.now c.loop-place-test.false)
