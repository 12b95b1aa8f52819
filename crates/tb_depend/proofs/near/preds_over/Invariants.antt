use Rattle.std.proofs.Common.{◌≡◌, ◌≤◌, ◌<◌, ℕ, Some, slice_get}
use Rattle.tb_model.specs.declared.item.Item.{Item}
use Rattle.tb_depend.specs.Layout.{rows_from}
use Rattle.tb_depend.specs.Nearness.{IsClosed, child_at, AreItemsOver}
use Rattle.tb_depend.proofs.near.preds_over.Given as goal

-- of the items so far, all that come before them are over
abbrev pub invariant-loop-item : goal.invariant-loop-item
invariant-loop-item g l =
    IsClosed (rows_from 0 l.ends l.chain.items) (g.T.Over.over l.over) → (i : ℕ) (new : Item) → l.from ≤ i → i < l.item → slice_get l.chain.items i ≡ Some new →
    AreItemsOver l.chain.items (λ k. g.T.Over.over l.over (child_at l.ends k)) new l.from
