-- Whether other children have to do with a child by their items. No public clause cites this module.
use Rattle.std.specs.Prelude.{◌<◌, ℕ, List, IsFalse}
use Rattle.tb_model.specs.declared.item.Item.{Item}
use Rattle.tb_model.specs.Items.{is_before, is_apart, some_meet}
use Rattle.tb_depend.specs.Relations.{items_at}

-- the items of the mth child, which comes after the nth, have nothing to do with those of the nth
abbrev pub IsFreeOf : List (List Item) → (m n : ℕ) → Type 0
IsFreeOf siblings m n = IsFalse (some_meet is_before (items_at siblings m) (items_at siblings n)) × IsFalse (some_meet is_apart (items_at siblings m) (items_at siblings n))

-- no child after the nth depends on it or excludes it
abbrev pub NoneLater : List (List Item) → ℕ → Type 0
NoneLater siblings n = (m : ℕ) → n < m → IsFreeOf siblings m n

-- no child in front of the nth excludes it
abbrev pub NoneEarlier : List (List Item) → ℕ → Type 0
NoneEarlier siblings n = (m : ℕ) → m < n → IsFalse (some_meet is_apart (items_at siblings n) (items_at siblings m))
