-- When all that come before are over, by the locations of the items. No public clause cites this
-- module but for `IsClosed`, `AreOver`, `AreOverFor`, `AreAllOver` and `AreNear`.
use Rattle.std.specs.Prelude.{◌≡◌, ◌==◌, ◌⊎◌, ◌<◌, ℕ, suc, List, [], ◌∷◌, Bool, Some, IsTrue, Contains, nat_lt, if◌then◌else◌, slice_get}
use Rattle.std.specs.List.{list_any}
use Rattle.tb_model.specs.declared.place.Place.TheVariants.{Cell}
use Rattle.tb_model.specs.declared.item.Item.{Item}
use Rattle.tb_model.specs.Items.{is_before, meets, some_meet}
use Rattle.tb_depend.specs.Chains.{is_met}
use Rattle.tb_depend.specs.Relations.{items_at, depends}

-- with each child that is over, all are on which it depends
abbrev pub IsClosed : List (List Item) → (ℕ → Bool) → Type 0
IsClosed siblings over = (n m : ℕ) → IsTrue (over n) → IsTrue (depends siblings n m) → IsTrue (over m)

-- all are over on which the nth child depends
abbrev pub AreOver : List (List Item) → (ℕ → Bool) → ℕ → Type 0
AreOver siblings over n = (m : ℕ) → IsTrue (depends siblings n m) → IsTrue (over m)

-- all are over on which a further child with these items would depend
abbrev pub AreOverFor : List (List Item) → (ℕ → Bool) → List Item → Type 0
AreOverFor siblings over items = (m : ℕ) → IsTrue (some_meet is_before items (items_at siblings m)) → IsTrue (over m)

-- all of these are over
abbrev pub AreAllOver : (ℕ → Bool) → List ℕ → Type 0
AreAllOver over near = (m : ℕ) → Contains near m → IsTrue (over m)

-- the nth child depends on these, and where they are over, so are all on which it depends
pub record AreNear (siblings : List (List Item)) (n : ℕ) (near : List ℕ) : Type 0 where
  pub part : (m : ℕ) → Contains near m → IsTrue (depends siblings n m)
  pub decides : (over : ℕ → Bool) → IsClosed siblings over → AreAllOver over near → AreOver siblings over n

-- the ordinal of the child whose items end after this index, and those of all children in front of
-- it don't
abbrev pub child_at : List ℕ → ℕ → ℕ
child_at [] k = 1
child_at (e ∷ ends) k = if nat_lt k e then 1 else suc (child_at ends k)

-- an item that comes before one that is over is over, by the test of the items' indexes
abbrev pub AreItemsClosed : List Item → (ℕ → Bool) → Type 0
AreItemsClosed items over =
    (p k : ℕ) (new old : Item) → k < p → slice_get items p ≡ Some new → slice_get items k ≡ Some old → IsTrue (meets is_before new old) → IsTrue (over p) → IsTrue (over k)

-- all of the first so many items that come before this one
abbrev pub AreItemsOver : List Item → (ℕ → Bool) → Item → ℕ → Type 0
AreItemsOver items over new from =
    (k : ℕ) (old : Item) → k < from → slice_get items k ≡ Some old → IsTrue (meets is_before new old) → IsTrue (over k)

-- the last of the first so many items comes before the new one
abbrev pub IsLastBefore : List Item → Item → ℕ → Type 0
IsLastBefore items new last = (k : ℕ) (i : Item) → last ≡ suc k → slice_get items k ≡ Some i → IsTrue (meets is_before new i)

-- the item meets the new one, which names a cell, or comes before it
abbrev pub IsParted : Item → Item → Item → Type 0
IsParted mid new old = ((c : ℕ) × (new.place ≡ Cell c) × IsTrue (is_met new mid)) ⊎ IsTrue (meets is_before new mid)

-- one of the first so many items, of which the last comes before the new one, comes after the one
-- at this index
pub record IsPassed (items : List Item) (new : Item) (at last : ℕ) : Type 0 where
  pub place : ℕ
  pub item : Item
  pub low : at < place
  pub high : place < last
  pub here : slice_get items place ≡ Some item
  pub behind : (old : Item) → slice_get items at ≡ Some old → IsTrue (meets is_before item old)
  pub parted : (old : Item) → slice_get items at ≡ Some old → IsParted item new old

-- an item of this child, of the first so many, comes before the new one
abbrev pub HasItemBefore : List ℕ → List Item → Item → ℕ → ℕ → Type 0
HasItemBefore ends items new from m = (k : ℕ) × (old : Item) × (k < from) × (slice_get items k ≡ Some old) × IsTrue (meets is_before new old) × (child_at ends k ≡ m)

-- children were added that have items before the new one, such that where they are over, so are all of them
pub record AddsNear (ends : List ℕ) (items : List Item) (new : Item) (from : ℕ) (before after : List ℕ) : Type 0 where
  pub keeps : (m : ℕ) → Contains before m → Contains after m
  pub part : (m : ℕ) → Contains after m → Contains before m ⊎ HasItemBefore ends items new from m
  pub decides : (over : ℕ → Bool) → AreItemsClosed items (λ k. over (child_at ends k)) → AreAllOver over after → AreItemsOver items (λ k. over (child_at ends k)) new from

-- the ordinal is one of these
abbrev pub is_among : List ℕ → ℕ → Bool
is_among near m = list_any (λ k. k == m) near
