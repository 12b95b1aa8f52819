use Rattle.std.proofs.Common.{◌≡◌, ◌⊎◌, ◌<◌, true, inl, refl, ap, ap₂, sym, ◌∙◌, subst, length, slice_get, Some}
use Rattle.std.specs.Prelude.{slice_index_or}
use Rattle.tb_lanes.specs.Bounds.{IsRising, bound_in}
use Rattle.tb_lanes.specs.Clocks.{IsEnd, is_told, row_in}
use Rattle.tb_stream.specs.Placing.{row_of}
use Rattle.tb_stream.specs.Seen.{order}
use Rattle.tb_stream.proofs.ListLemmas.{get_at}
use Rattle.tb_stream.proofs.PlaceLemmas.{goes_on, placed_by, stored_end}
use Rattle.tb_stream.proofs.placing.stay.Goals as goal

pub returns-then-step-len : goal.returns-then-step-len
returns-then-step-len c r n lanes past begun ends = placed_by r n lanes c.args.order.now.clocks past.clocks begun.next.within c.args.step begun ends c.args.step.lane (inl refl)

pub returns-in_default : goal.returns-in_default
returns-in_default c r n lanes past begun ends = placed_by r n lanes c.args.order.now.clocks past.clocks begun.next.within c.args.step begun ends c.args.step.lane (inl refl)

pub returns-then-not-is_merged : goal.returns-then-not-is_merged
returns-then-not-is_merged c r n lanes past begun ends = placed_by r n lanes c.args.order.now.clocks past.clocks begun.next.within c.args.step begun ends c.args.step.lane (inl refl)

pub returns : goal.returns
returns c r n lanes past begun ends =
    let o = c.args.order.now in
    let rows = o.clocks.rows.items in
    let step = c.args.step in
    let item = c.in-Some.ensures.lookup in
    let e = c.in-Some.end.now in
    let inside = subst (λ xs. o.free < length xs) c.deref.ensures.value item.3.0 in
    let got = subst (λ xs. slice_get xs o.free ≡ Some e) c.deref.ensures.value (get_at c.deref.result.now o.free e item.3.0 item.1) in
    let end = stored_end r n lanes rows (IsEnd r.entries n) o.ends past.ends (λ x h. h) o.free e got inside in
    let row_is = c.row.ensures ∙ ap (λ xs. row_in xs step.row) c.deref-2.ensures.value in
    let bound_is = c.bound-told.ensures (subst IsRising (sym row_is) begun.rising) ∙ ap₂ bound_in row_is end.0.mark.lane in
    let told : is_told (order r) r.entries r.tasks lanes (row_of rows step) step.lane n e.mark.at ≡ true = sym (c.is_merged.ensures r n lanes (row_of rows step) past.clocks begun.next end.0.mark bound_is) ∙ c.if-not-is_merged.false in
    let choice = subst (λ xs. (c.lane_behind.result ≡ step.lane) ⊎ ((step.lane ≡ length xs) × (c.lane_behind.result ≡ e.mark.lane) × (e.mark.at ≡ slice_index_or xs e.mark.lane 0))) c.deref-3.ensures.value c.lane_behind.ensures in
    placed_by r n lanes o.clocks past.clocks begun.next.within step begun ends c.lane_behind.result
    (goes_on r n lanes o.clocks past.clocks begun.next.within (row_of rows step) step.lane c.lane_behind.result e.mark end.0.mark end.1 told choice begun.lane)
