-- What is stored of where events are: for each task, for each cell, and for the output.
use Rattle.std.specs.Prelude.{◌≡◌, ◌≤◌, ℕ, suc, List, true, Option, Some, None, is_some, length, filter}
use Rattle.std.specs.List.{AllByRecursion}
use Rattle.tb_model.specs.declared.action.Action.{Action}
use Rattle.tb_model.specs.declared.action.Action.TheVariants.{Load, Store, Print}
use Rattle.tb_model.specs.declared.event.Event.{Event}
use Rattle.tb_model.specs.Names.{Name}
use Rattle.tb_places.specs.declared.places.Places.{Places}
use Rattle.tb_places.specs.Numbers.{number_of}
use Rattle.tb_places.specs.Rows.{room_of, HasRoomAt, is_of_row, AreRows, KeepsRooms}

-- the index of the action's row among the marks: the output's is the first, then comes each cell's
abbrev pub mark_of : Action → Option ℕ
mark_of (Load r c x) = Some (suc c)
mark_of (Store c x) = Some (suc c)
mark_of (Print x) = Some 0
mark_of _ = None

abbrev pub event_mark : Event → Option ℕ
event_mark e = mark_of e.action

abbrev pub event_number : List Name → Event → Option ℕ
event_number names e = number_of names e.task

-- the event's task has a row
abbrev pub IsNamed : List Name → Event → Type 0
IsNamed names e = is_some (event_number names e) ≡ true

-- ---- the rows are those of these events, the oldest first, where each task has the id of its name among these

pub record IsIndexOf (names : List Name) (events : List Event) (p : Places) : Type 0 where
  pub named : AllByRecursion (IsNamed names) events
  pub own : AreRows (event_number names) events p.own
  pub marks : AreRows event_mark events p.marks

-- ---- capacity

-- the indexes of an event with this action, whose task has this id, take no memory
pub record HasRoomAs (p : Places) (number : Option ℕ) (a : Action) : Type 0 where
  pub own : HasRoomAt p.own number
  pub mark : HasRoomAt p.marks (mark_of a)

-- the indexes of an event take no memory, where its task's id is that of its name among these
abbrev pub HasRoomFor : List Name → Places → Event → Type 0
HasRoomFor names p e = HasRoomAs p (event_number names e) e.action

-- the indexes of all of these events take no memory
pub record HasRoomForAll (names : List Name) (events : List Event) (p : Places) : Type 0 where
  pub named : AllByRecursion (IsNamed names) events
  pub own : (k : ℕ) → length (filter (is_of_row (event_number names) k) events) ≤ room_of p.own k
  pub marks : (k : ℕ) → length (filter (is_of_row event_mark k) events) ≤ room_of p.marks k

-- the memory stays as it is
pub record KeepsRoom (old new : Places) : Type 0 where
  pub own : KeepsRooms old.own new.own
  pub marks : KeepsRooms old.marks new.marks
