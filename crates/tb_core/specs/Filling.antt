-- What a step fills in of a planned action.
use Rattle.std.specs.Prelude.{◌≡◌, ◌≤◌, ℕ, suc, List, Option, Some, None, length}
use Rattle.tb_model.specs.declared.action.Action.{Action}
use Rattle.tb_model.specs.declared.action.Action.TheVariants.{Spawn, Load}
use Rattle.tb_model.specs.declared.event.Event.{Event}
use Rattle.tb_model.specs.declared.spawn.Spawn.{Spawn as TheSpawn}
use Rattle.tb_model.specs.Names.{Name, child}
use Rattle.tb_model.specs.Facts.{History, own, last, IsSpawned}
use Rattle.tb_model.specs.Legal.{Cells, Legal, first_number, spawn_count}
use Rattle.tb_model.specs.Lines.{Departure, events_of}
use Rattle.tb_undo.specs.State.{Seen as Tables, IsState}

-- the action, with the value that a load reads and the ordinal of a spawned child
abbrev pub completed : Cells → History → Name → Action → Action
completed cells H t (Load r c x) = Load r c (last (first_number cells c) c H)
completed cells H t (Spawn s) = Spawn (record s { child = child t (suc (spawn_count (own t H))) })
completed cells H t a = a

-- nothing is filled in
abbrev pub IsWhole : Action → Type 0
IsWhole a = (cells : Cells) (H : History) (t : Name) → completed cells H t a ≡ a

-- the tables are those of a run in which the task is there
pub record IsRunOf (s : Tables) (t : Name) : Type 0 where
  pub first : Cells
  pub root_line : ℕ
  pub steps : List Departure
  pub legal : Legal first (events_of steps)
  pub state : IsState first root_line steps s
  pub few : length steps ≤ 1000000
  pub spawned : IsSpawned (events_of steps) t

-- whatever run that is, the second is the first with the name of the task's next child
abbrev pub IsNextSpawn : Tables → Name → TheSpawn → TheSpawn → Type 0
IsNextSpawn s t a b = (first : Cells) (root_line : ℕ) (D : List Departure) → IsState first root_line D s → IsSpawned (events_of D) t → b ≡ record a { child = child t (suc (spawn_count (own t (events_of D)))) }

-- whatever run the tables are of, the event is the task's action with what it reads there filled in
abbrev pub Fills : Tables → Name → Action → Event → Type 0
Fills s t a v =
    (first : Cells) (root_line : ℕ) (D : List Departure) → IsState first root_line D s → IsSpawned (events_of D) t → v ≡ record { task = t; action = completed first (events_of D) t a }

-- what can be used again of an event
abbrev pub spawn_in : Action → Option TheSpawn
spawn_in (Spawn s) = Some s
spawn_in _ = None

abbrev pub spare_spawn : Option Event → Option TheSpawn
spare_spawn None = None
spare_spawn (Some v) = spawn_in v.action
