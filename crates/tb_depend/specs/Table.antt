-- What a contract sees of the children of a task.
use Rattle.std.specs.Prelude.{◌≡◌, ℕ, List, Bool, true, Contains, is_some, nat_eq, ◌+◌, ◌<◌, ◌≤◌, length}
use Rattle.std.specs.Map.{lookup}
use Rattle.tb_model.specs.declared.place.Place.{Place}
use Rattle.tb_model.specs.declared.place.Place.TheVariants.{Cell, All}
use Rattle.tb_model.specs.declared.item.Item.{Item}

-- there is capacity for the last item of the location
abbrev pub is_named : List (ℕ × ℕ) → Place → Bool
is_named cells (Cell c) = is_some (lookup (nat_eq c) cells)
is_named cells All = true

-- the items of each child in the order of spawning, and what can be added with no memory
pub record Table : Type 0 where
  pub siblings : List (List Item)
  -- how many children
  pub places : ℕ
  -- how many items in all
  pub item_places : ℕ
  -- how many links of items to those in front of them
  pub link_places : ℕ
  -- the cells that have capacity for their last item, with it
  pub cells : List (ℕ × ℕ)
  -- how many ordinals the next child's list of predecessors has capacity for
  pub number_places : ℕ

-- a child with these items can be added with no memory
pub record HasRoomFor (t : Table) (items : List Item) : Type 0 where
  pub a_place : 0 < t.places
  pub its_items : length items ≤ t.item_places
  pub its_links : length items ≤ t.link_places
  pub its_heads : (i : Item) → Contains items i → is_named t.cells i.place ≡ true
  pub its_preds : length t.siblings ≤ t.number_places

-- no capacity is given back
pub record KeepsRoom (old new : Table) : Type 0 where
  pub places : old.places ≤ new.places
  pub items : old.item_places ≤ new.item_places
  pub links : old.link_places ≤ new.link_places
  pub heads : (p : Place) → is_named old.cells p ≡ true → is_named new.cells p ≡ true
  pub numbers : old.number_places ≤ new.number_places

-- the capacity of a child with so many items is there again, and no other is given back
pub record FreesRoom (old new : Table) (count : ℕ) : Type 0 where
  pub places : new.places ≡ old.places + 1
  pub items : new.item_places ≡ old.item_places + count
  pub links : new.link_places ≡ old.link_places + count
  pub heads : (p : Place) → is_named old.cells p ≡ true → is_named new.cells p ≡ true
  pub numbers : new.number_places ≡ old.number_places
