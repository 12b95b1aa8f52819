-- What a contract sees of the exclusive sets of one task's children. OpenMP 5.2, 15.9.5 depend
-- Clause: of the tasks that name a location by `mutexinoutset` one runs at a time.
use Rattle.std.specs.Prelude.{◌≡◌, ◌≤◌, ℕ, Bool, true, false, ◌&&◌, ◌==◌, List, Option, Some, None, is_some, if◌then◌else◌, nat_eq, unwrap_or}
use Rattle.std.specs.Map.{lookup}
use Rattle.std.specs.List.{list_any}
use Rattle.tb_model.specs.declared.kind.Kind.{Kind}
use Rattle.tb_model.specs.declared.kind.Kind.TheVariants.{Mutexinoutset}
use Rattle.tb_model.specs.declared.place.Place.{Place}
use Rattle.tb_model.specs.declared.place.Place.TheVariants.{Cell, All}
use Rattle.tb_model.specs.declared.item.Item.{Item}
use Rattle.tb_model.specs.Names.{Name, child}
use Rattle.tb_model.specs.Items.{relation, is_apart, same_place}

-- the task whose children these are; each cell that was ever taken, with the ordinal of the child
-- that holds it; and the child that holds all memory
pub record Holders : Type 0 where
  pub parent : Name
  pub cells : List (ℕ × Option ℕ)
  pub all : Option ℕ

-- the child that holds the location
abbrev pub holder : Holders → Place → Option ℕ
holder holders (Cell c) = unwrap_or (lookup (nat_eq c) holders.cells) None
holder holders All = holders.all

-- there is capacity for a holder of the location
abbrev pub has_room : Holders → Place → Bool
has_room holders (Cell c) = is_some (lookup (nat_eq c) holders.cells)
has_room holders All = true

-- an item of this kind and another task's `mutexinoutset` item of the same location exclude the two
-- tasks from each other
abbrev pub is_exclusive : Kind → Bool
is_exclusive kind = is_apart (relation kind Mutexinoutset)

-- the very same location: a cell isn't all memory
abbrev pub is_place : Place → Place → Bool
is_place (Cell c) (Cell d) = c == d
is_place (Cell c) All = false
is_place All (Cell d) = false
is_place All All = true

-- some item takes the location for its task alone
abbrev pub takes : List Item → Place → Bool
takes items p = list_any (λ i. is_exclusive i.kind && is_place i.place p) items

-- a task with the items and the holder of the location exclude each other
abbrev pub excludes : List Item → Place → Bool
excludes items p = list_any (λ i. is_exclusive i.kind && same_place i.place p) items

-- each location that the items take has capacity
abbrev pub HasRoomFor : Holders → List Item → Type 0
HasRoomFor holders items = (p : Place) → takes items p ≡ true → has_room holders p ≡ true

-- both are the holders among the children of one task, and no location loses its capacity
pub record KeepsRoom (old new : Holders) : Type 0 where
  pub parent : new.parent ≡ old.parent
  pub room : (p : Place) → has_room old p ≡ true → has_room new p ≡ true

-- each location that the items take has this holder now, and every other location the one that it
-- had
abbrev pub IsSet : Holders → List Item → Option ℕ → Holders → Type 0
IsSet old items to new = (p : Place) → holder new p ≡ (if takes items p then to else holder old p)

-- every location has the holder that it had
abbrev pub IsSame : Holders → Holders → Type 0
IsSame old new = (p : Place) → holder new p ≡ holder old p

-- the nth child holds a location, and a task with the items would exclude it
abbrev pub Excludes : Holders → List Item → ℕ → Type 0
Excludes holders items n = (p : Place) × (excludes items p ≡ true) × (holder holders p ≡ Some n)

-- the task is a child that holds a location, and a task with the items would exclude it
abbrev pub ExcludesTask : Holders → List Item → Name → Type 0
ExcludesTask holders items t = (n : ℕ) × (t ≡ child holders.parent n) × Excludes holders items n

-- o is the least ordinal with the property, and None exactly where no ordinal has it
pub record IsLeastNumber (P : ℕ → Type 0) (o : Option ℕ) : Type 0 where
  pub found : (n : ℕ) → o ≡ Some n → P n
  pub least : (n : ℕ) → P n → (m : ℕ) × (o ≡ Some m) × (m ≤ n)
