-- Who holds what among the children of each task: what a start, an end, and the capacity for a
-- start change.
use Rattle.std.specs.Prelude.{◌≡◌, ◌<◌, ℕ, Bool, true, false, List, [], ◌∷◌, Option, Some, None, ⊤, if◌then◌else◌}
use Rattle.std.specs.Option.{option_map}
use Rattle.tb_model.specs.declared.item.Item.{Item}
use Rattle.tb_model.specs.declared.place.Place.{Place}
use Rattle.tb_model.specs.Names.{Name, same_name, is_child}
use Rattle.tb_wait.specs.Kin.{Tasks as Waiting, place}
use Rattle.tb_depend.specs.Relations.{items_at}
use Rattle.tb_excl.specs.Holders.{Holders, holder, HasRoomFor, KeepsRoom, IsSet, IsSame}
use Rattle.tb_undo.specs.Tasks.{Task, Rows, row, task, holders_of, HasChildRoomIn}

-- the items of each child of a task, where it is there
abbrev pub children_in : Option Task → List (List Item)
children_in None = []
children_in (Some k) = k.children

-- the items of a task, as its parent retains them
abbrev pub items_in : Rows → Name → List Item
items_in rows [] = []
items_in rows (n ∷ p) = items_at (children_in (task rows p)) n

-- a task's ordinal among its parent's children
abbrev pub number_of : Name → Option ℕ
number_of [] = None
number_of (n ∷ p) = Some n

-- the index of its parent, and that ordinal
abbrev pub place_in : Waiting → Name → Option (ℕ × ℕ)
place_in tasks [] = None
place_in tasks (n ∷ p) = option_map (λ i. (i, n)) (place tasks p)

-- the task's parent is there, and the task knows it
abbrev pub IsLinked : Rows → Name → Type 0
IsLinked rows [] = ⊤
IsLinked rows (n ∷ p) = (0 < n) × (k : Task) × (m : Task) × (task rows (n ∷ p) ≡ Some k) × (k.parent ≡ p) × (task rows p ≡ Some m)

-- these become those by the one change
abbrev pub Become : Option Holders → (Holders → Type 0) → Type 0
Become None P = ⊥
Become (Some h) P = P h

-- what the items of t take has this holder now, and no capacity is lost
pub record Holds (old : Rows) (t : Name) (to : Option ℕ) (new : Rows) : Type 0 where
  pub others : (p : Name) → is_child p t ≡ false → holders_of new p ≡ holders_of old p
  pub parent : (p : Name) (h : Holders) → is_child p t ≡ true → holders_of new p ≡ Some h
      → Become (holders_of old p) (λ g. IsSet g (items_in old t) to h × KeepsRoom g h)

-- what the items of t take has this holder now, no capacity is lost, and nothing else changes
pub record Sets (old : Rows) (t : Name) (to : Option ℕ) (new : Rows) : Type 0 where
  pub tasks : (u : Name) → task new u ≡ task old u
  pub holds : Holds old t to new

-- nothing but capacity changes, and none is lost
pub record Reserves (old : Rows) (new : Rows) : Type 0 where
  pub tasks : (u : Name) → task new u ≡ task old u
  pub holders : (p : Name) (h : Holders) → holders_of new p ≡ Some h → Become (holders_of old p) (λ g. IsSame g h × KeepsRoom g h)
  pub rooms : (t : Name) (items : List Item) (deferred : Bool) → HasChildRoomIn old t items deferred → HasChildRoomIn new t items deferred

-- the parent of t has the capacity for what its items take
abbrev pub HasSetRoom : Rows → Name → Type 0
HasSetRoom rows t = (p : Name) (h : Holders) → is_child p t ≡ true → holders_of rows p ≡ Some h → HasRoomFor h (items_in rows t)

-- ---- tasks that come and go

-- nothing is held among the children of t, which comes to be
pub record Founds (old : Rows) (t : Name) (new : Rows) : Type 0 where
  pub others : (u : Name) → same_name t u ≡ false → holders_of new u ≡ holders_of old u
  pub parent : (h : Holders) → holders_of new t ≡ Some h → h.parent ≡ t
  pub free : (h : Holders) (p : Place) → holders_of new t ≡ Some h → holder h p ≡ None

-- t comes to be so
pub record Comes (old : Rows) (t : Name) (k : Task) (new : Rows) : Type 0 where
  pub tasks : (u : Name) → task new u ≡ (if same_name t u then Some k else task old u)
  pub founds : Founds old t new
  pub rest : (u : Name) → same_name t u ≡ false → row new u ≡ row old u

-- t is no longer there
pub record Goes (old : Rows) (t : Name) (new : Rows) : Type 0 where
  pub tasks : (u : Name) → task new u ≡ (if same_name t u then None else task old u)
  pub holders : (u : Name) → holders_of new u ≡ (if same_name t u then None else holders_of old u)
