-- How the names, the rows of the table and the nodes of the tree fit. No public clause cites this module.
use Rattle.std.specs.Prelude.{◌≡◌, ◌≢◌, ◌<◌, ◌≤◌, ◌++◌, ℕ, suc, Bool, true, false, not, List, [], ◌∷◌, Option, Some, None, is_some, length, nat_lt, slice_index_or}
use Rattle.tb_model.specs.Names.{Name}
use Rattle.tb_model.specs.LeastNames.{IsAtMost}
use Rattle.std.specs.Option.{option_map}
use Rattle.tb_wait.specs.Kin.{Kin, Slot, with_children}
use Rattle.tb_wait.specs.Tree.{Nodes, node, IsPlace, IsLinked}

abbrev pub kin_if : Bool → Kin → Option Kin
kin_if true k = Some k
kin_if false k = None

-- the task is there and isn't over
abbrev pub is_pending : Option Kin → Bool
is_pending None = false
is_pending (Some k) = not k.over

abbrev pub children_of : Option Kin → ℕ
children_of None = 0
children_of (Some k) = k.children

abbrev pub groups_of : Option Kin → List ℕ
groups_of None = []
groups_of (Some k) = k.groups

-- a task that was just generated and isn't there yet has capacity for a group
abbrev pub blank : Slot
blank = record { kin = None; child_room = 0; group_room = 1 }

abbrev pub key : List Name → ℕ → Name
key names i = slice_index_or names i []

abbrev pub slot_at : List Slot → ℕ → Slot
slot_at slots i = slice_index_or slots i blank

-- the nodes have the names' tree, and say of each task what its row does
pub record Fits (names : List Name) (slots : List Slot) (nodes : Nodes) : Type 0 where
  pub slots_len : length slots ≡ length names
  pub nodes_len : length nodes ≡ length names
  pub linked : IsLinked nodes
  pub root : key names 0 ≡ []
  pub child : (j k i : ℕ) → IsPlace nodes j k i → key names i ≡ suc k ∷ key names j
  pub distinct : (i j : ℕ) → i < length names → j < length names → key names i ≡ key names j → i ≡ j
  pub pending : (i : ℕ) → (node nodes i).pending ≡ is_pending (slot_at slots i).kin
  pub standing : (j k i : ℕ) → IsPlace nodes j k i → is_some (slot_at slots i).kin ≡ nat_lt k (children_of (slot_at slots j).kin)
  pub enough : (j : ℕ) → children_of (slot_at slots j).kin ≤ length (node nodes j).places
  pub rooms : (i : ℕ) → (slot_at slots i).child_room ≤ (node nodes i).room

-- only the row at this index changes, to this
pub record ChangesSlot (old : List Slot) (at : ℕ) (s : Slot) (new : List Slot) : Type 0 where
  pub len : length new ≡ length old
  pub here : slot_at new at ≡ s
  pub others : (i : ℕ) → i ≢ at → slot_at new i ≡ slot_at old i

-- the task at this index comes to be, or is no longer there, and its parent's row has this count of
-- children
pub record SetsStanding (old : List Slot) (at owner : ℕ) (k : Option Kin) (children : ℕ) (new : List Slot) : Type 0 where
  pub len : length new ≡ length old
  pub here : slot_at new at ≡ record (slot_at old at) { kin = k }
  pub above : slot_at new owner ≡ record (slot_at old owner) { kin = option_map (with_children children) (slot_at old owner).kin }
  pub others : (i : ℕ) → i ≢ at → i ≢ owner → slot_at new i ≡ slot_at old i

-- the task at i is the least within the one at `start` that is there and hasn't ended
pub record IsFirstWithin (names : List Name) (nodes : Nodes) (start i : ℕ) : Type 0 where
  pub below : (x : Name) × (key names i ≡ x ++ key names start)
  pub least : (j : ℕ) (x : Name) → j < length names → key names j ≡ x ++ key names start → (node nodes j).pending ≡ true → IsAtMost (key names i) (key names j)

-- the nodes have the names' tree
abbrev pub AreNamed : List Name → Nodes → Type 0
AreNamed names nodes = (slots : List Slot) × Fits names slots nodes

-- o is the index of t, and None where neither t nor a task within it was ever generated
pub record IsPlaceOf (names : List Name) (t : Name) (o : Option ℕ) : Type 0 where
  pub found : (i : ℕ) → o ≡ Some i → (i < length names) × (key names i ≡ t)
  pub absent : o ≡ None → (i : ℕ) (x : Name) → i < length names → key names i ≡ x ++ t → ⊥
