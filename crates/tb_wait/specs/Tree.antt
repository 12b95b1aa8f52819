-- The tree of the tasks that were ever generated, by their indexes in a list: who hasn't ended, and
-- below whom. No public clause cites this module.
use Rattle.std.specs.Prelude.{◌≡◌, ◌≢◌, ◌<◌, ◌≤◌, ◌+◌, ◌-◌, ◌++◌, ℕ, suc, Bool, true, false, not, ◌||◌, List, [], ◌∷◌, Option, Some, None, length, slice_get, slice_index_or, Box}
use Rattle.std.specs.Box.{box_value}
use Rattle.tb_wait.specs.Numbers.{has, is_empty}

-- the index of the parent, the ordinal among its children, whether the task is there and hasn't
-- ended, the indexes of the children by their ordinals, the ordinals of those that haven't ended,
-- the ordinals of those within which some task hasn't ended, and how many more children fit with no
-- memory
pub record Node : Type 0 where
  pub owner : ℕ
  pub number : ℕ
  pub pending : Bool
  pub places : List ℕ
  pub unended : List ℕ
  pub live : List ℕ
  pub room : ℕ

-- the part about its children
pub record Children : Type 0 where
  pub places : List ℕ
  pub unended : List ℕ
  pub live : List ℕ
  pub room : ℕ

abbrev pub childless : Children
childless = record { places = []; unended = []; live = []; room = 0 }

-- the part that may not be made yet
abbrev pub children_in : {Z : Type 0} → Option (Box Children Z) → Children
children_in None = childless
children_in (Some children) = box_value children

abbrev pub Nodes : Type 0
Nodes = List Node

-- a node without children
abbrev pub leaf : ℕ → ℕ → Node
leaf owner number = record { owner = owner; number = number; pending = false; places = []; unended = []; live = []; room = 0 }

-- the node at an index
abbrev pub node : Nodes → ℕ → Node
node nodes i = slice_index_or nodes i (leaf 0 0)

-- some task within the node hasn't ended: its own, or one within a child
abbrev pub is_live : Node → Bool
is_live n = n.pending || not (is_empty n.live)

-- the (k + 1)th child of the node at j is at i
abbrev pub IsPlace : Nodes → ℕ → ℕ → ℕ → Type 0
IsPlace nodes j k i = slice_get (node nodes j).places k ≡ Some i

-- each node but the first is a child of one in front of it, and only of that one
pub record IsLinked (nodes : Nodes) : Type 0 where
  pub root : 0 < length nodes
  pub up : (i : ℕ) → 0 < i → i < length nodes → (k : ℕ) × ((node nodes i).number ≡ suc k) × IsPlace nodes (node nodes i).owner k i
  pub before : (j k i : ℕ) → IsPlace nodes j k i → j < i
  pub within : (j k i : ℕ) → IsPlace nodes j k i → i < length nodes
  pub owner : (j k i : ℕ) → IsPlace nodes j k i → (node nodes i).owner ≡ j
  pub number : (j k i : ℕ) → IsPlace nodes j k i → (node nodes i).number ≡ suc k

-- only children are counted
pub record AreChildren (nodes : Nodes) : Type 0 where
  pub unended : (j n : ℕ) → has (node nodes j).unended n ≡ true → (0 < n) × (n ≤ length (node nodes j).places)
  pub live : (j n : ℕ) → has (node nodes j).live n ≡ true → (0 < n) × (n ≤ length (node nodes j).places)

-- each parent knows of the child, but perhaps of the one at x, whether it hasn't ended
abbrev pub KnowsUnendedBut : Nodes → ℕ → Type 0
KnowsUnendedBut nodes x = (j k i : ℕ) → IsPlace nodes j k i → i ≢ x → has (node nodes j).unended (suc k) ≡ (node nodes i).pending

-- each parent knows of the child, but perhaps of the one at x, whether some task within it hasn't
-- ended
abbrev pub KnowsLiveBut : Nodes → ℕ → Type 0
KnowsLiveBut nodes x = (j k i : ℕ) → IsPlace nodes j k i → i ≢ x → has (node nodes j).live (suc k) ≡ is_live (node nodes i)

-- the root is nobody's child, so that all but it are all
pub record IsTree (nodes : Nodes) : Type 0 where
  pub linked : IsLinked nodes
  pub children : AreChildren nodes
  pub unended : KnowsUnendedBut nodes 0
  pub live : KnowsLiveBut nodes 0

-- what a contract sees of the tree: its nodes, and how many more fit with no memory
pub record Tree : Type 0 where
  pub nodes : Nodes
  pub room : ℕ

-- the two trees have the same tasks with the same children
pub record SameLinks (old new : Nodes) : Type 0 where
  pub len : length new ≡ length old
  pub owner : (i : ℕ) → (node new i).owner ≡ (node old i).owner
  pub number : (i : ℕ) → (node new i).number ≡ (node old i).number
  pub places : (i : ℕ) → (node new i).places ≡ (node old i).places
  pub room : (i : ℕ) → (node new i).room ≡ (node old i).room

-- nothing but who is known to be live has changed
pub record SameButLive (old new : Nodes) : Type 0 where
  pub len : length new ≡ length old
  pub same : (i : ℕ) → node new i ≡ record (node old i) { live = (node new i).live }

-- the node at x is there and hasn't ended just where the flag is set, and the others as before
pub record SetsPending (old : Nodes) (x : ℕ) (pending : Bool) (new : Nodes) : Type 0 where
  pub links : SameLinks old new
  pub set : (node new x).pending ≡ pending
  pub others : (i : ℕ) → i ≢ x → (node new i).pending ≡ (node old i).pending

-- nothing but who is known to have not ended has changed
pub record SameButUnended (old new : Nodes) : Type 0 where
  pub len : length new ≡ length old
  pub same : (i : ℕ) → node new i ≡ record (node old i) { unended = (node new i).unended }

-- nothing but who is there and hasn't ended has changed
pub record SameButPending (old new : Nodes) : Type 0 where
  pub len : length new ≡ length old
  pub same : (i : ℕ) → node new i ≡ record (node old i) { pending = (node new i).pending }

-- one more node, as the last child of the node at `owner`
pub record AddsNode (old : Nodes) (owner : ℕ) (new : Nodes) : Type 0 where
  pub len : length new ≡ length old + 1
  pub here : node new (length old) ≡ leaf owner (suc (length (node old owner).places))
  pub above : node new owner ≡ record (node old owner) { places = (node old owner).places ++ length old ∷ []; room = (node old owner).room - 1 }
  pub others : (i : ℕ) → i ≢ length old → i ≢ owner → node new i ≡ node old i

-- nothing but capacity has changed, and no node has less of it
pub record SameButRoom (old new : Nodes) : Type 0 where
  pub len : length new ≡ length old
  pub same : (i : ℕ) → node new i ≡ record (node old i) { room = (node new i).room }
  pub keeps : (i : ℕ) → (node old i).room ≤ (node new i).room

-- o is the first child of the node at j, from the (low + 1)th on, whose node passes, and None exactly where none does
pub record IsFirstPlace (nodes : Nodes) (j low : ℕ) (test : Node → Bool) (o : Option ℕ) : Type 0 where
  pub found : (i : ℕ) → o ≡ Some i → (k : ℕ) × (low ≤ k) × IsPlace nodes j k i × (test (node nodes i) ≡ true)
  pub least : (k i : ℕ) → low ≤ k → IsPlace nodes j k i → test (node nodes i) ≡ true → (m c : ℕ) × (o ≡ Some c) × IsPlace nodes j m c × (m ≤ k)

-- o is the least ordinal above `low` of a child of the node at j whose node passes, and None
-- exactly where none does
pub record IsNextNumber (nodes : Nodes) (j low : ℕ) (test : Node → Bool) (o : Option ℕ) : Type 0 where
  pub found : (n : ℕ) → o ≡ Some n → (k i : ℕ) × (n ≡ suc k) × (low ≤ k) × IsPlace nodes j k i × (test (node nodes i) ≡ true)
  pub least : (k i : ℕ) → low ≤ k → IsPlace nodes j k i → test (node nodes i) ≡ true → (m : ℕ) × (o ≡ Some m) × (m ≤ suc k)

-- the node's own task is there and hasn't ended
abbrev pub is_own : Node → Bool
is_own n = n.pending
