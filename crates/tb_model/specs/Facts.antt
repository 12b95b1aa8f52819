-- What a history says of its tasks and cells. A history is listed from its newest event.
use Rattle.std.specs.Prelude.{ℕ, List, [], ◌∷◌, ◌++◌, Bool, true, false, ◌&&◌, ◌||◌, ◌==◌, not, if◌then◌else◌, drop, map, ℤ, IsTrue}
use Rattle.std.specs.List.{list_any}
use Rattle.tb_model.specs.declared.item.Item.{Item}
use Rattle.tb_model.specs.declared.action.Action.{Action}
use Rattle.tb_model.specs.declared.action.Action.TheVariants.{Start, Load, Store, Print, Spawn, Open, Close, End, Fault}
use Rattle.tb_model.specs.declared.event.Event.{Event}
use Rattle.tb_model.specs.Names.{Name, same_name, is_child, is_elder, is_within}
use Rattle.tb_model.specs.Items.{is_before, is_apart, some_meet, has_no_items}

-- the events of a run, the newest first
abbrev pub History : Type 0
History = List Event

-- ---- tests of one action or event

-- the task is over: a fault is an end
abbrev pub is_end : Action → Bool
is_end End = true
is_end Fault = true
is_end _ = false

abbrev pub is_start : Action → Bool
is_start Start = true
is_start _ = false

abbrev pub is_print : Action → Bool
is_print (Print x) = true
is_print _ = false

-- the action stores to cell c
abbrev pub is_store_to : ℕ → Action → Bool
is_store_to c (Store d x) = c == d
is_store_to c _ = false

-- the action loads from cell c or stores to it
abbrev pub touches : ℕ → Action → Bool
touches c (Load r d x) = c == d
touches c (Store d x) = c == d
touches c _ = false

-- the action generates task t
abbrev pub is_spawn_of : Name → Action → Bool
is_spawn_of t (Spawn s) = same_name s.child t
is_spawn_of t _ = false

-- the event is one of task t
abbrev pub is_of : Name → Event → Bool
is_of t v = same_name v.task t

-- the event starts task t
abbrev pub starts : Name → Event → Bool
starts t v = is_of t v && is_start v.action

-- the event ends task t
abbrev pub ends : Name → Event → Bool
ends t v = is_of t v && is_end v.action

-- the event generates task t
abbrev pub spawns : Name → Event → Bool
spawns t v = is_spawn_of t v.action

-- ---- tasks

-- t has started
abbrev pub HasStarted : History → Name → Type 0
HasStarted H t = IsTrue (list_any (starts t) H)

-- t has ended or faulted
abbrev pub HasEnded : History → Name → Type 0
HasEnded H t = IsTrue (list_any (ends t) H)

-- t was generated; the root counts as generated at the beginning
abbrev pub is_spawned : History → Name → Bool
is_spawned H [] = true
is_spawned H (n ∷ t) = list_any (spawns (n ∷ t)) H

abbrev pub IsSpawned : History → Name → Type 0
IsSpawned H t = IsTrue (is_spawned H t)

-- x in front of xs, where the test passed
abbrev pub prepend_if : {A : Type 0} → Bool → A → List A → List A
prepend_if true x xs = x ∷ xs
prepend_if false x xs = xs

-- the actions of t, the newest first
abbrev pub own : Name → History → List Action
own t [] = []
own t (v ∷ H) = prepend_if (is_of t v) v.action (own t H)

-- ---- cells

-- the value of cell c after the action, where it was y in front of it
abbrev pub stored_or : ℕ → Action → ℤ → ℤ
stored_or c (Store d x) y = if c == d then x else y
stored_or c _ y = y

-- the value of the last store to cell c, else its first value
abbrev pub last : ℤ → ℕ → History → ℤ
last first c [] = first
last first c (v ∷ H) = stored_or c v.action (last first c H)

-- ---- siblings: OpenMP 5.2, 15.9.5 depend Clause

-- the items that the action gives to t
abbrev pub items_for : Name → Action → List Item
items_for t (Spawn s) = if same_name s.child t then s.items else []
items_for t _ = []

-- the depend items of t
abbrev pub items_of : Name → History → List Item
items_of t [] = []
items_of t (v ∷ H) = items_for t v.action ++ items_of t H

-- u is a sibling that was generated before t, and t depends on it
abbrev pub before : History → Name → Name → Bool
before H u t = is_elder u t && some_meet is_before (items_of t H) (items_of u H)

-- u and t are siblings that exclude each other
abbrev pub apart : History → Name → Name → Bool
apart H u t =
    (is_elder u t && some_meet is_apart (items_of t H) (items_of u H))
    || (is_elder t u && some_meet is_apart (items_of u H) (items_of t H))

-- a `taskwait` of t with these items waits for its child u: without items for each child, else for those it depends on
abbrev pub covers : History → Name → List Item → Name → Bool
covers H t items u = is_child t u && (has_no_items items || some_meet is_before items (items_of u H))

-- ---- groups: OpenMP 5.2, 15.4 taskgroup Construct

-- for each open group, the innermost first, the children that were generated in it
abbrev pub groups : List Action → List (List Name)
groups [] = []
groups (Open ∷ acts) = [] ∷ groups acts
groups (Close ∷ acts) = drop 1 (groups acts)
groups (Spawn s ∷ acts) = map (λ us. s.child ∷ us) (groups acts)
groups (_ ∷ acts) = groups acts

-- the children of the innermost open group
abbrev pub innermost : List (List Name) → List Name
innermost [] = []
innermost (us ∷ uss) = us

-- m is a child that was generated in the innermost open group, or a descendant of one
abbrev pub is_member : List Action → Name → Bool
is_member acts m = list_any (λ c. is_within c m) (innermost (groups acts))

-- ---- undeferred tasks: OpenMP 5.2, 12.5 task Construct, if clause

-- the newest of these actions generated the undeferred child u
abbrev pub holds : List Action → Name → Bool
holds (Spawn s ∷ acts) u = not s.deferred && same_name s.child u
holds _ u = false
