use Rattle.std.proofs.Common.{◌≡◌, ◌<◌, ℕ, Some, slice_get, length}
use Rattle.tb_model.specs.declared.item.Item.{Item}
use Rattle.tb_depend.specs.Layout.{rows_from}
use Rattle.tb_depend.specs.Nearness.{IsClosed, child_at, AreItemsOver}
use Rattle.tb_depend.proofs.near.further_over.Given as goal

-- for the items so far, all are over
abbrev pub invariant-loop-item : goal.invariant-loop-item
invariant-loop-item g l =
    IsClosed (rows_from 0 l.ends l.chain.items) (g.T.Over.over l.over) → (j : ℕ) (new : Item) → j < l.item-index → slice_get l.items j ≡ Some new →
    AreItemsOver l.chain.items (λ k. g.T.Over.over l.over (child_at l.ends k)) new (length l.chain.items)
