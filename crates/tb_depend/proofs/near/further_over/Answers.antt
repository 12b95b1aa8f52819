use Rattle.std.proofs.Common.{◌≡◌, ℕ, Some, slice_get, length, refl, sym, ◌∙◌, subst, arith, inl, inr}
use Rattle.std.proofs.lemmas.Bool.{false≢true, cases_lt}
use Rattle.std.proofs.lemmas.Option.{slice_get-get_or, get_or_from_slice_get, slice_get_within}
use Rattle.tb_depend.specs.Nearness.{child_at, AreItemsOver}
use Rattle.tb_depend.proofs.PlacesLemmas.{items_closed, some_not_for, all_are_for}
use Rattle.tb_depend.proofs.near.further_over.Goals as goal

pub returns-then-not-new_over : goal.returns-then-not-new_over
returns-then-not-new_over g c closed =
    let items = c.args.chain.now.items in
    let over = g.T.Over.over c.args.over.now in
    let k = c.loop-item.item-index in (
      λ f. absurd (false≢true f),
      λ all. absurd (some_not_for c.args.ends.now items c.requires.ends over c.args.items.now k _ (slice_get-get_or c.args.items.now k _ c.loop-item-test.true)
          (λ are. false≢true (sym c.if-not-new_over.true ∙ (c.new_over.ensures (items_closed c.args.ends.now items c.requires.ends over closed)).1 are)) all),
    )

pub loop-item-preserved : goal.loop-item-preserved
loop-item-preserved g c closed j new high e = elim (cases_lt j c.loop-item.item-index) [
  | inl h ↦ c.loop-item.invariant closed j new h e
  | inr h ↦
      let items = c.args.chain.now.items in
      let over = λ (k : ℕ). g.T.Over.over c.args.over.now (child_at c.args.ends.now k) in
      let s : j ≡ c.loop-item.item-index = omega (arith, h, high) in
      let same = get_or_from_slice_get c.args.items.now c.loop-item.item-index new _ (subst (λ k. slice_get c.args.items.now k ≡ Some new) s e) in
      subst (λ i. AreItemsOver items over i (length items)) same
      ((c.new_over.ensures (items_closed c.args.ends.now items c.requires.ends (g.T.Over.over c.args.over.now) closed)).0 c.if-not-new_over.false)
]

pub returns : goal.returns
returns g c closed =
    let items = c.args.chain.now.items in (
      λ t. all_are_for c.args.ends.now items c.requires.ends (g.T.Over.over c.args.over.now) c.args.items.now
          (λ j new e. c.loop-item.invariant closed j new (omega (arith, c.loop-item-test.false, c.loop-item.auto.item-index-end, slice_get_within c.args.items.now j new e)) e),
      λ all. refl,
    )
