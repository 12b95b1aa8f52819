use Rattle.std.proofs.Common.{◌≡◌, Some, slice_get, length, refl, sym, ◌∙◌, subst, arith, inl, inr}
use Rattle.std.proofs.lemmas.Bool.{false≢true, cases_lt}
use Rattle.tb_depend.specs.Layout.{IsRow}
use Rattle.tb_depend.proofs.LastLemmas.{there}
use Rattle.tb_depend.proofs.PlacesLemmas.{items_closed, some_not, all_are}
use Rattle.tb_depend.proofs.near.preds_over.Goals as goal

pub returns-then-not-item_over : goal.returns-then-not-item_over
returns-then-not-item_over g c closed =
    let items = c.args.chain.now.items in
    let over = g.T.Over.over c.args.over.now in
    let row = subst (λ xs. IsRow c.args.ends.now (length xs) c.args.n c.bounds-from.result.0 c.bounds-from.result.1) c.items.ensures c.bounds-from.ensures in
    let here = there items c.loop-item.item (omega (arith, c.loop-item-test.true, row.within)) in (
      λ f. absurd (false≢true f),
      λ all. absurd (some_not c.args.ends.now items c.requires.ends over c.args.n c.bounds-from.result.0 c.bounds-from.result.1 row c.loop-item.item here.0 here.1
          (omega (arith, c.loop-item.auto.item)) c.loop-item-test.true
          (λ are. false≢true (sym c.if-not-item_over.true ∙ (c.item_over.ensures (items_closed c.args.ends.now items c.requires.ends over closed) here.0 here.1).1 are)) all),
    )

pub loop-item-preserved : goal.loop-item-preserved
loop-item-preserved g c closed i new low high e = elim (cases_lt i c.loop-item.item) [
  | inl h ↦ c.loop-item.invariant closed i new low h e
  | inr h ↦
      let s : i ≡ c.loop-item.item = omega (arith, h, high) in
      (c.item_over.ensures (items_closed c.args.ends.now c.args.chain.now.items c.requires.ends (g.T.Over.over c.args.over.now) closed) new (subst (λ k. slice_get c.args.chain.now.items k ≡ Some new) s e)).0 c.if-not-item_over.false
]

pub returns : goal.returns
returns g c closed =
    let items = c.args.chain.now.items in
    let over = g.T.Over.over c.args.over.now in
    let row = subst (λ xs. IsRow c.args.ends.now (length xs) c.args.n c.bounds-from.result.0 c.bounds-from.result.1) c.items.ensures c.bounds-from.ensures in (
      λ t. all_are c.args.ends.now items c.requires.ends over c.args.n c.bounds-from.result.0 c.bounds-from.result.1 row
          (λ i new low high e. c.loop-item.invariant closed i new low (omega (arith, high, c.loop-item-test.false)) e),
      λ all. refl,
    )
