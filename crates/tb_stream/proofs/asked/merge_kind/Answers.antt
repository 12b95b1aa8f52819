use Rattle.std.proofs.Common.{◌≡◌, Option, Some, None, sym, subst, ◌∙◌, ⊎_elim, inl, inr}
use Rattle.tb_model.specs.declared.kind.Kind.{Kind}
use Rattle.tb_lanes.proofs.AskedLemmas.{on_ok_map}
use Rattle.tb_stream.specs.Ends.{IsNoted}
use Rattle.tb_stream.specs.Joins.{HasMet, IsChildEnd}
use Rattle.tb_stream.proofs.MergeLemmas.{merges_both, merges_none}
use Rattle.tb_stream.proofs.WaitLemmas.{noted_met}
use Rattle.tb_stream.proofs.asked.merge_kind.Goals as goal

pub returns-in_default : goal.returns-in_default
returns-in_default c r n lanes wait are =
    merges_none r n lanes c.args.order.now.clocks.rows.items c.args.waiter.now.step.lane c.args.joined.now are (λ x. IsChildEnd r n c.args.waiter.now.parent x × HasMet r c.args.asked c.args.cell x)
    (λ x l p h. no_some _ (sym c.in_default.is ∙ p.1.3))
  where
    no_some : (k : Kind) → ◌≡◌ {A = Option Kind} None (Some k) → ⊥
    no_some k e = cc

pub returns : goal.returns
returns c =
    let k = c.args.waiter.now.step.lane in
    let rows = c.args.order.now.clocks.rows.items in
    on_ok_map c.merge_key-2.result _ _
    (λ merges r n lanes wait are.
    let first = c.in_ok-merge_key.ensures r n lanes wait are in
    merges_both r n lanes rows k (IsNoted r n c.item_key-key.result) (IsNoted r n c.item_key-key-2.result) (λ x. IsChildEnd r n c.args.waiter.now.parent x × HasMet r c.args.asked c.args.cell x) c.args.joined.now _ _ first (merges r n lanes wait first.are)
    (λ x l s h. ⊎_elim
    (λ a. inl (subst (λ y. IsNoted r n y x) (sym c.item_key-key.ensures) a))
    (λ a. inr (subst (λ y. IsNoted r n y x) (sym c.item_key-key-2.ensures) a))
    (noted_met r n c.args.waiter.now.parent x c.args.asked c.in-Some.kind c.args.cell c.in-Some.is s)))
    c.merge_key-2.ensures
