-- What the table notes of each item: which items in front of it name its location, and which come
-- before it. No public clause cites this module.
use Rattle.std.specs.Prelude.{◌≡◌, ◌<◌, ◌≤◌, ℕ, suc, Bool, true, false, ◌==◌, List, Some, IsTrue, Contains, nat_eq, slice_get, length, unwrap_or}
use Rattle.std.specs.Map.{lookup}
use Rattle.tb_model.specs.declared.place.Place.{Place}
use Rattle.tb_model.specs.declared.place.Place.TheVariants.{Cell, All}
use Rattle.tb_model.specs.declared.item.Item.{Item}
use Rattle.tb_model.specs.Items.{is_before, same_place, meets}
use Rattle.tb_depend.specs.Table.{is_named}
use Rattle.tb_depend.specs.declared.link.Link.{Link}
use Rattle.tb_depend.specs.declared.heads.Heads.{Heads}

-- one above the index of the last item of this location
abbrev pub head : Heads → Place → ℕ
head heads (Cell c) = unwrap_or (lookup (nat_eq c) heads.cells.entries) 0
head heads All = heads.all

-- there is capacity for the location's head
abbrev pub has_head : Heads → Place → Bool
has_head heads p = is_named heads.cells.entries p

abbrev pub HasHeadsFor : Heads → List Item → Type 0
HasHeadsFor heads items = (i : Item) → Contains items i → has_head heads i.place ≡ true

abbrev pub AreSameHeads : Heads → Heads → Type 0
AreSameHeads old new = (p : Place) → head new p ≡ head old p

-- no location loses its capacity
abbrev pub KeepsHeads : Heads → Heads → Type 0
KeepsHeads old new = (p : Place) → has_head old p ≡ true → has_head new p ≡ true

-- no location loses its capacity, by the cells' names alone
abbrev pub KeepsNames : List (ℕ × ℕ) → List (ℕ × ℕ) → Type 0
KeepsNames old new = (p : Place) → is_named old p ≡ true → is_named new p ≡ true

-- the very same location: a cell isn't all memory
abbrev pub is_place : Place → Place → Bool
is_place (Cell c) (Cell d) = c == d
is_place (Cell c) All = false
is_place All (Cell d) = false
is_place All All = true

-- r is one above the index of the last of the first n items that passes the test, or 0 where none
-- does
pub record IsLast (test : Item → Bool) (items : List Item) (n r : ℕ) : Type 0 where
  pub within : r ≤ n
  pub last : (k : ℕ) (i : Item) → k < n → slice_get items k ≡ Some i → IsTrue (test i) → k < r
  pub passes : (k : ℕ) (i : Item) → r ≡ suc k → slice_get items k ≡ Some i → IsTrue (test i)

abbrev pub is_of : Place → Item → Bool
is_of p i = is_place i.place p

abbrev pub is_met : Item → Item → Bool
is_met new old = same_place new.place old.place

-- what is noted of the item after the first n
pub record IsLink (items : List Item) (n : ℕ) (i : Item) (link : Link) : Type 0 where
  pub same : IsLast (is_of i.place) items n link.same
  pub meeting : IsLast (is_met i) items n link.meeting
  pub before : IsLast (meets is_before i) items n link.before

-- the items of all children, with what is noted of each, and the last of each index
pub record AreChained (items : List Item) (links : List Link) (heads : Heads) : Type 0 where
  pub count : length links ≡ length items
  pub linked : (n : ℕ) (i : Item) (link : Link) → slice_get items n ≡ Some i → slice_get links n ≡ Some link → IsLink items n i link
  pub headed : (p : Place) → IsLast (is_of p) items (length items) (head heads p)

-- what a contract sees of that list: the items, how many items and links can be added with no
-- memory, and the cells that have capacity for their last item
pub record ItemList : Type 0 where
  pub items : List Item
  pub item_places : ℕ
  pub link_places : ℕ
  pub cells : List (ℕ × ℕ)

-- these items can be added with no memory
pub record HasItemRoom (list : ItemList) (new : List Item) : Type 0 where
  pub items : length new ≤ list.item_places
  pub links : length new ≤ list.link_places
  pub heads : (i : Item) → Contains new i → is_named list.cells i.place ≡ true

-- no capacity is given back
pub record KeepsItemRoom (old new : ItemList) : Type 0 where
  pub items : old.item_places ≤ new.item_places
  pub links : old.link_places ≤ new.link_places
  pub cells : KeepsNames old.cells new.cells
