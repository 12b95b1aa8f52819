use Rattle.std.proofs.Common.{◌≡◌, Some, true, sym, subst, arith, ⊎_elim, slice_get}
use Rattle.std.specs.List.{list_any}
use Rattle.std.proofs.lemmas.Bool.{cases_eq}
use Rattle.tb_lanes.specs.Rows.{items_at, may_meet}
use Rattle.tb_lanes.proofs.AskedLemmas.{any_at, got_is}
use Rattle.tb_order.proofs.JoinedLemmas.{joins_trans}
use Rattle.tb_order.proofs.asked.merge_items.Goals as goal

pub loop-item-preserved : goal.loop-item-preserved
loop-item-preserved c =
    let l = c.loop-item in
    let items = c.args.items.now in
    let now = c.in_ok-merge_item.ensures in record {
      more = joins_trans c.args.entries.now c.args.tasks.now c.args.past.now c.args.waiter.now.lane c.args.waiter.now.at _ _ _ l.invariant.more now.more;
      told = λ x i item asked m got meets.
          ⊎_elim
          (λ e. now.told x asked (subst (λ y. list_any (may_meet c.args.past.now.exclusion y) (items_at c.args.entries.now x) ≡ true) (sym (got_is items l.item-index item _ (subst (λ k. slice_get items k ≡ Some item) e got))) meets))
          (λ d. now.more.kept x asked.end.0 (l.invariant.told x i item asked (omega (arith, m, d)) got meets))
          (cases_eq i l.item-index);
    }

pub returns-clause-told : goal.returns-clause-told
returns-clause-told c x asked meets =
    let r = any_at _ c.args.items.now meets in
    c.loop-item.invariant.told x r.0 r.1 asked (omega (arith, r.2, c.loop-item-test.false)) r.3 r.4
