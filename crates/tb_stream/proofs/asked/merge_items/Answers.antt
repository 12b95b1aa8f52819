use Rattle.std.proofs.Common.{◌≡◌, ◌<◌, ◌+◌, ℕ, Some, get_or, List, slice_get, sym, ap, ◌∙◌, subst, arith, IsTrue, inl, inr, ⊎_elim}
use Rattle.std.specs.List.{list_any}
use Rattle.std.proofs.lemmas.Bool.{cases_eq}
use Rattle.tb_model.specs.declared.item.Item.{Item}
use Rattle.tb_model.specs.declared.kind.Kind.TheVariants.{In}
use Rattle.tb_model.specs.declared.place.Place.TheVariants.{Cell}
use Rattle.tb_lanes.specs.Rows.{items_at, may_meet, some_may_meet}
use Rattle.tb_lanes.proofs.AskedLemmas.{any_at}
use Rattle.tb_stream.specs.Joins.{IsChildEnd}
use Rattle.tb_stream.specs.Seen.{Run}
use Rattle.tb_stream.proofs.ListLemmas.{get_is}
use Rattle.tb_stream.proofs.MergeLemmas.{merges_both, merges_none, merges_so}
use Rattle.tb_stream.proofs.asked.merge_items.Goals as goal

abbrev SoMet : Run → ℕ → ℕ → List Item → ℕ → ℕ → Type 0
SoMet r n g items count x = IsChildEnd r n g x × ((i : ℕ) × (j : Item) × (i < count) × (slice_get items i ≡ Some j) × IsTrue (list_any (may_meet r.exclusion j) (items_at r.entries x)))

pub returns : goal.returns
returns c r n lanes wait are =
    let l = c.loop-item in
    merges_so r n lanes c.args.order.now.clocks.rows.items c.args.waiter.now.step.lane (SoMet r n c.args.waiter.now.parent c.args.items.now l.item-index)
    (λ x. IsChildEnd r n c.args.waiter.now.parent x × IsTrue (some_may_meet r.exclusion c.args.items.now (items_at r.entries x))) c.args.joined.now l.joined
    (λ x m s h.
    let a = any_at (λ j. list_any (may_meet r.exclusion j) (items_at r.entries x)) c.args.items.now s.1 in
    (s.0, (a.0, a.1, omega (arith, a.2, c.loop-item-test.false, l.auto.item-index-end), a.3, a.4))) (l.invariant.met r n lanes wait are)

pub loop-item-init : goal.loop-item-init
loop-item-init c = record {
  met = λ r n lanes wait are.
      merges_none r n lanes c.args.order.now.clocks.rows.items c.args.waiter.now.step.lane c.args.joined.now are (SoMet r n c.args.waiter.now.parent c.args.items.now 0) (λ x l p h. absurd (omega (arith, p.1.2)));
}

pub loop-item-preserved : goal.loop-item-preserved
loop-item-preserved c =
    let l = c.loop-item in
    let k = c.args.waiter.now.step.lane in
    let rows = c.args.order.now.clocks.rows.items in
    let g = c.args.waiter.now.parent in
    let items = c.args.items.now in
    let d : Item = record { kind = In; place = Cell 0 } in record {
      met = λ r n lanes wait are.
          let so = l.invariant.met r n lanes wait are in
          merges_both r n lanes rows k (SoMet r n g items l.item-index) _ (SoMet r n g items (l.item-index + 1)) c.args.joined.now l.joined _ so (c.in_ok-merge_item.ensures r n lanes wait so.are)
          (λ x m s h. ⊎_elim
          (λ e. inr (s.0, subst (λ j. IsTrue (list_any (may_meet r.exclusion j) (items_at r.entries x))) (sym (get_is items s.1.0 s.1.1 d s.1.3) ∙ ap (λ i. get_or items i d) e) s.1.4))
          (λ d. inl (s.0, (s.1.0, s.1.1, omega (arith, s.1.2, d), s.1.3, s.1.4)))
          (cases_eq s.1.0 l.item-index));
    }
