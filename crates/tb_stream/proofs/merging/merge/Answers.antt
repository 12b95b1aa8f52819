use Rattle.std.proofs.Common.{◌≡◌, ◌-◌, ◌<◌, suc, Some, None, Option, true, length, sym, ap, ap₂, ◌∙◌, subst, arith, ⊎_elim, inl, inr}
use Rattle.tb_lanes.specs.Bounds.{AreRising, bound_among}
use Rattle.tb_lanes.specs.Clocks.{is_told, links_at}
use Rattle.tb_stream.specs.Ends.{IsLater, IsOfRow}
use Rattle.tb_stream.specs.Joins.{Merges}
use Rattle.tb_stream.specs.Seen.{order}
use Rattle.tb_stream.specs.declared.mark.Mark.{Mark}
use Rattle.tb_stream.proofs.ListLemmas.{get_at}
use Rattle.tb_stream.proofs.MergeLemmas.{is_low, later_all, later_cut, later_joined, later_none, later_passed, later_skipped, row_low, stored_end}
use Rattle.tb_stream.proofs.merging.merge.Goals as goal

pub back-init : goal.back-init
back-init c = record {
  within = omega (arith, c.len-left.ensures, c.args.ends.now.ok);
  met = λ r n lanes key wait are stored. later_none r n lanes c.args.order.now.clocks.rows.items c.args.waiter.now.step.lane (IsOfRow r n key) (row_low r n key) c.args.ends.now stored c.args.joined.now are c.len-left.result (omega (arith, c.len-left.ensures, c.args.ends.now.ok));
}

pub back-preserved-then-is_merged : goal.back-preserved-then-is_merged
back-preserved-then-is_merged c =
    let l = c.back in
    let ends = c.args.ends.now in
    let i = l.left - 1 in
    let e = c.index-end.result.now in
    let rows = c.args.order.now.clocks.rows.items in
    let k = c.args.waiter.now.step.lane in
    let inside : i < length ends.items = omega (arith, c.back-test.true, l.invariant.within) in
    let here = get_at ends.items i e inside c.index-end.ensures in record {
      within = omega (arith, c.lower-left.ensures.low, inside);
      met = λ r n lanes key wait are stored.
          let on : suc i ≡ l.left = omega (arith, c.back-test.true) in
          let so = subst (λ m. Merges r n lanes rows k (IsLater ends (IsOfRow r n key) m) c.args.joined.now l.joined) (sym on) (l.invariant.met r n lanes key wait are stored) in
          let full = stored.full i e here in
          let bound_is = c.bound_among-told.ensures (subst AreRising (sym c.deref.ensures.value) so.are.rising) ∙ ap₂ bound_among c.deref.ensures.value full.mark.lane in
          let told : is_told (order r) r.entries r.tasks lanes (bound_among l.joined.rows.items) k n e.mark.at ≡ true = sym (c.is_merged.ensures r n lanes (bound_among l.joined.rows.items) wait.past.clocks wait.next full.mark bound_is) ∙ c.if-is_merged.true in
          subst (λ m. Merges r n lanes rows k (IsLater ends (IsOfRow r n key) m) c.args.joined.now l.joined) (sym (c.lower-left.ensures.same (is_low r n lanes rows k (IsOfRow r n key) (row_low r n key) ends stored i e here inside)))
          (later_skipped r n lanes rows k (IsOfRow r n key) (row_low r n key) ends stored i e here inside c.args.joined.now l.joined so told);
    }

pub back-preserved-then-waits : goal.back-preserved-then-waits
back-preserved-then-waits c =
    let l = c.back in
    let ends = c.args.ends.now in
    let i = l.left - 1 in
    let e = c.index-end.result.now in
    let clocks = c.args.order.now.clocks in
    let rows = clocks.rows.items in
    let k = c.args.waiter.now.step.lane in
    let inside : i < length ends.items = omega (arith, c.back-test.true, l.invariant.within) in
    let here = get_at ends.items i e inside c.index-end.ensures in record {
      within = omega (arith, c.lower-left-then-waits.ensures.low, inside);
      met = λ r n lanes key wait are stored.
          let on : suc i ≡ l.left = omega (arith, c.back-test.true) in
          let so = subst (λ m. Merges r n lanes rows k (IsLater ends (IsOfRow r n key) m) c.args.joined.now l.joined) (sym on) (l.invariant.met r n lanes key wait are stored) in
          let end = stored_end r n lanes rows k (IsOfRow r n key) (row_low r n key) ends stored i e here inside in
          let link : links_at (order r) r.entries n e.mark.at ≡ true = sym (c.waits.ensures r n wait.past.exclusion wait.now (end.0.mark.at, end.1) end.0.task) ∙ c.if-waits.true in
          subst (λ m. Merges r n lanes rows k (IsLater ends (IsOfRow r n key) m) c.args.joined.now (record { rows = c.join.new.rows; end = Some c.better.result })) (sym (c.lower-left-then-waits.ensures.same (is_low r n lanes rows k (IsOfRow r n key) (row_low r n key) ends stored i e here inside)))
          (later_joined r n lanes rows k (IsOfRow r n key) (row_low r n key) ends stored i e here inside clocks wait.past.clocks wait.now.within link c.args.joined.now l.joined (record { rows = c.join.new.rows; end = Some c.better.result }) so
          (c.in_ok-join.ensures.rising r n lanes wait.past.clocks end.0 so.are.rising)
          (c.in_ok-join.ensures.more r n lanes wait.past.clocks wait.next end.0 so.are.rising so.are.sound)
          (λ m is. ⊎_elim (λ q. inl (sym (the_some c.better.result m is) ∙ q)) (λ q. inr (q ∙ ap Some (the_some c.better.result m is))) c.better.ensures)
          (λ no. none_some c.better.result no));
    }
  where
    the_some : (x y : Mark) → ◌≡◌ {A = Option Mark} (Some x) (Some y) → x ≡ y
    the_some x y e = cc

    none_some : (x : Mark) → ◌≡◌ {A = Option Mark} (Some x) None → ⊥
    none_some x e = cc

pub back-preserved : goal.back-preserved
back-preserved c =
    let l = c.back in
    let ends = c.args.ends.now in
    let i = l.left - 1 in
    let e = c.index-end.result.now in
    let rows = c.args.order.now.clocks.rows.items in
    let k = c.args.waiter.now.step.lane in
    let inside : i < length ends.items = omega (arith, c.back-test.true, l.invariant.within) in
    let here = get_at ends.items i e inside c.index-end.ensures in record {
      within = omega (arith, l.invariant.within);
      met = λ r n lanes key wait are stored.
          let on : suc i ≡ l.left = omega (arith, c.back-test.true) in
          let so = subst (λ m. Merges r n lanes rows k (IsLater ends (IsOfRow r n key) m) c.args.joined.now l.joined) (sym on) (l.invariant.met r n lanes key wait are stored) in
          let end = stored_end r n lanes rows k (IsOfRow r n key) (row_low r n key) ends stored i e here inside in
          later_passed r n lanes rows k (IsOfRow r n key) (row_low r n key) ends stored i e here inside (sym (c.waits.ensures r n wait.past.exclusion wait.now (end.0.mark.at, end.1) end.0.task) ∙ c.if-waits.false) c.args.joined.now l.joined so;
    }

pub returns-then-end-waiter : goal.returns-then-end-waiter
returns-then-end-waiter c r n lanes key wait are stored =
    let l = c.back in
    let ends = c.args.ends.now in
    let i = l.left - 1 in
    let e = c.index-end.result.now in
    let rows = c.args.order.now.clocks.rows.items in
    let k = c.args.waiter.now.step.lane in
    let inside : i < length ends.items = omega (arith, c.back-test.true, l.invariant.within) in
    let here = get_at ends.items i e inside c.index-end.ensures in
    let on : suc i ≡ l.left = omega (arith, c.back-test.true) in
    let so = subst (λ m. Merges r n lanes rows k (IsLater ends (IsOfRow r n key) m) c.args.joined.now l.joined) (sym on) (l.invariant.met r n lanes key wait are stored) in
    later_cut r n lanes rows k (IsOfRow r n key) (row_low r n key) ends stored i e here inside c.args.waiter.now.from wait.from c.if-end-waiter.true c.args.joined.now l.joined so

pub returns : goal.returns
returns c r n lanes key wait are stored =
    let l = c.back in
    let none : l.left ≡ 0 = omega (arith, c.back-test.false) in
    let rows = c.args.order.now.clocks.rows.items in
    let k = c.args.waiter.now.step.lane in
    later_all r n lanes rows k (IsOfRow r n key) (row_low r n key) c.args.ends.now stored c.args.joined.now l.joined
    (subst (λ m. Merges r n lanes rows k (IsLater c.args.ends.now (IsOfRow r n key) m) c.args.joined.now l.joined) none (l.invariant.met r n lanes key wait are stored))
