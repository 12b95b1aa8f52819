-- What a history says of its tasks, and how a step changes it.
use Rattle.std.specs.Prelude.{◌≡◌, ◌+◌, ℕ, Bool, false, not, List, [], ◌∷◌, ◌++◌, length, drop, reverse, slice_get, Some, if◌then◌else◌}
use Rattle.tb_model.specs.declared.action.Action.{Action}
use Rattle.tb_model.specs.declared.action.Action.TheVariants.{Spawn, Open, Close}
use Rattle.tb_model.specs.declared.item.Item.{Item}
use Rattle.tb_model.specs.Facts.{History, is_of, items_of, own}
use Rattle.tb_model.specs.Legal.{Cells, Legal, spawn_count}
use Rattle.tb_model.specs.Names.{Name}
use Rattle.tb_clocks.specs.declared.group.Group.{Group}
use Rattle.tb_clocks.specs.declared.row.Row.{Row}
use Rattle.tb_clocks.specs.declared.tasks.Tasks.{Tasks}

-- ---- tasks by their ids

-- the child that the action generates, if it generates one
abbrev pub generated : Action → List Name
generated (Spawn s) = s.child ∷ []
generated _ = []

-- the tasks in the order of spawning, the root first: each has its index as its id
abbrev pub names_in : History → List Name
names_in [] = [] ∷ []
names_in (v ∷ H) = names_in H ++ generated v.action

abbrev pub HasId : History → ℕ → Name → Type 0
HasId H i t = slice_get (names_in H) i ≡ Some t

-- ---- what is known of a task

pub record Known : Type 0 where
  pub steps : ℕ
  pub children : ℕ
  pub held : Bool
  pub items : List Item
  pub groups : List Group

abbrev pub known : Row → Known
known r = record { steps = r.steps; children = r.children; held = r.held; items = r.items; groups = reverse r.groups.items }

-- of a task that executed no step
abbrev pub child_known : List Item → Known
child_known items = record { steps = 0; children = 0; held = false; items = items; groups = [] }

abbrev pub children_with : Action → ℕ → ℕ
children_with (Spawn s) n = n + 1
children_with _ n = n

abbrev pub is_undeferred : Action → Bool
is_undeferred (Spawn s) = not s.deferred
is_undeferred _ = false

-- the open groups after the step with this index, in front of which the task had so many children; the innermost first
abbrev pub groups_with : Action → ℕ → ℕ → List Group → List Group
groups_with Open at n gs = (record { at = at; children = n }) ∷ gs
groups_with Close at n gs = drop 1 gs
groups_with _ at n gs = gs

abbrev pub advanced : ℕ → Action → Known → Known
advanced at a k = record {
  steps = k.steps + 1;
  children = children_with a k.children;
  held = is_undeferred a;
  items = k.items;
  groups = groups_with a at k.children k.groups;
}

-- the newest of these actions generated an undeferred child
abbrev pub holds_some : List Action → Bool
holds_some [] = false
holds_some (a ∷ acts) = is_undeferred a

-- the open groups of t, the innermost first
abbrev pub groups_in : Name → History → List Group
groups_in t [] = []
groups_in t (v ∷ H) = if is_of t v then groups_with v.action (length H) (spawn_count (own t H)) (groups_in t H) else groups_in t H

abbrev pub known_of : History → Name → Known
known_of H t = record { steps = length (own t H); children = spawn_count (own t H); held = holds_some (own t H); items = items_of t H; groups = groups_in t H }

-- ---- all tasks

-- the parent of t, and t itself where it is the root
abbrev pub parent_of : Name → Name
parent_of [] = []
parent_of (n ∷ t) = t

-- the ordinal of t among its parent's children, and 0 of the root
abbrev pub ordinal_of : Name → ℕ
ordinal_of [] = 0
ordinal_of (n ∷ t) = n

-- this is known of t
pub record IsRow (H : History) (t : Name) (r : Row) : Type 0 where
  pub ordinal : r.ordinal ≡ ordinal_of t
  pub known_is : known r ≡ known_of H t
  pub parent : HasId H r.parent (parent_of t)

-- each task that was generated has its row
pub record AreTasks (cells : Cells) (H : History) (tasks : Tasks) : Type 0 where
  pub legal : Legal cells H
  pub count : tasks.count ≡ length H
  pub listed : length tasks.rows.items ≡ length (names_in H)
  pub each : (i : ℕ) (t : Name) (r : Row) → HasId H i t → slice_get tasks.rows.items i ≡ Some r → IsRow H t r
