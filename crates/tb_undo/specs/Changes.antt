-- What a step changes of the joined tables, table by table, and what taking it back changes.
use Rattle.std.specs.Prelude.{◌≡◌, ◌<◌, ◌≤◌, ◌-◌, ◌++◌, ℕ, ℤ, List, [], ◌∷◌, Bool, Option, Some, None, drop, take, length, slice_set, if◌then◌else◌, ⊤}
use Rattle.std.specs.Option.{option_map}
use Rattle.tb_model.specs.declared.item.Item.{Item}
use Rattle.tb_model.specs.declared.action.Action.{Action}
use Rattle.tb_model.specs.declared.action.Action.TheVariants.{Start, Store, Print, Spawn, Open, End, Fault}
use Rattle.tb_model.specs.declared.event.Event.{Event}
use Rattle.tb_model.specs.Names.{Name, same_name}
use Rattle.tb_model.specs.Facts.{is_of}
use Rattle.tb_store.specs.declared.replaced.Replaced.{Replaced}
use Rattle.tb_store.specs.Contents.{number_at, with_number}
use Rattle.tb_ready.specs.Tasks.{mark_of}
use Rattle.tb_ready.specs.Histories.{MarkedBy, MarkedBackBy}
use Rattle.tb_wait.specs.Kin.{IsNext, IsLast, HasRoomFor as HasRoomForChild, HasGroupRoom, IsSame as IsSameWaits, KeepsRoom as KeepsWaitRoom}
use Rattle.tb_wait.specs.Histories.{ChangesBy, ChangesBackBy}
use Rattle.tb_undo.specs.declared.row.Row.{Row}
use Rattle.tb_undo.specs.Tasks.{Task, Rows, row, task, holders_of, advanced, retreated, fresh_task, HasChildRoomIn, HasRowRoom, IsRegister, register_by, register_over}
use Rattle.tb_undo.specs.Places.{HasPlaceOrRoom}
use Rattle.tb_undo.specs.Sets.{number_of, IsLinked, HasSetRoom, Holds, Founds, Reserves}
use Rattle.tb_undo.specs.State.{Seen}

-- ---- cells and output

-- the cells after the action
abbrev pub cells_by : Action → List ℤ → List ℤ
cells_by (Store c x) cells = slice_set cells c x
cells_by _ cells = cells

-- the output after it
abbrev pub output_by : Action → List ℤ → List ℤ
output_by (Print x) output = output ++ x ∷ []
output_by _ output = output

-- the cells in front of the action, by the value that it replaced
abbrev pub cells_back : Action → Option ℤ → List ℤ → List ℤ
cells_back (Store c x) number cells = with_number cells c number
cells_back _ number cells = cells

-- the output in front of it
abbrev pub output_back : Action → List ℤ → List ℤ
output_back (Print x) output = take (length output - 1) output
output_back _ output = output

-- the value that the action writes over in the cells
abbrev pub cell_over : Action → List ℤ → Option ℤ
cell_over (Store c x) cells = Some (number_at cells c)
cell_over _ cells = None

-- the value that it writes over in the cells or in the registers
abbrev pub number_over : Action → List ℤ → List ℤ → Option ℤ
number_over (Store c x) cells regs = Some (number_at cells c)
number_over a cells regs = register_over a regs

-- what the action replaces, of these cells and this task
abbrev pub replaced_in : Action → List ℤ → Task → Replaced
replaced_in a cells k = record { number = number_over a cells k.regs; reg = register_by a; at = k.at }

-- ---- tasks

-- the task that the action of p generates
abbrev pub spawned_task : Name → Action → Task
spawned_task p (Spawn s) = fresh_task p s.body s.args
spawned_task p _ = fresh_task p 0 []

-- the tasks with it
abbrev pub with_task : Name → Action → (Name → Option Task) → Name → Option Task
with_task p (Spawn s) f u = if same_name s.child u then Some (fresh_task p s.body s.args) else f u
with_task p _ f u = f u

-- the tasks after the event, which leaves its task at this line
abbrev pub task_by : Event → ℕ → (Name → Option Task) → Name → Option Task
task_by v to f u = if is_of u v then option_map (advanced v.action to) (with_task v.task v.action f u) else with_task v.task v.action f u

-- the tasks without that one
abbrev pub without_task : Action → (Name → Option Task) → Name → Option Task
without_task (Spawn s) f u = if same_name s.child u then None else f u
without_task _ f u = f u

-- the tasks in front of it, by what it replaced
abbrev pub task_back : Event → Replaced → (Name → Option Task) → Name → Option Task
task_back v replaced f u =
    if is_of u v then option_map (retreated v.action replaced.number replaced.at) (without_task v.action f u) else without_task v.action f u

-- ---- who holds what

-- what a start takes is held, an end frees it, and among a new task's children nothing is held
abbrev pub HoldersFor : Name → Action → Rows → Rows → Type 0
HoldersFor t Start old new = Holds old t (number_of t) new
HoldersFor t End old new = Holds old t None new
HoldersFor t Fault old new = Holds old t None new
HoldersFor t (Spawn s) old new = Founds old s.child new
HoldersFor t _ old new = (p : Name) → holders_of new p ≡ holders_of old p

-- an undone start frees what it took, an undone end takes it again, and of an undone spawn's child
-- nothing is stored
abbrev pub HoldersBack : Name → Action → Rows → Rows → Type 0
HoldersBack t Start old new = Holds old t None new
HoldersBack t End old new = Holds old t (number_of t) new
HoldersBack t Fault old new = Holds old t (number_of t) new
HoldersBack t (Spawn s) old new = (p : Name) → holders_of new p ≡ (if same_name s.child p then None else holders_of old p)
HoldersBack t _ old new = (p : Name) → holders_of new p ≡ holders_of old p

-- ---- all tables

-- only the tasks' own parts may have changed
pub record IsRest (old new : Seen) : Type 0 where
  pub store : new.store ≡ old.store
  pub waits : new.waits ≡ old.waits
  pub marks : new.marks ≡ old.marks

-- what the tables retain of the tasks after the event, which leaves its task at this line
pub record ChangedTasks (v : Event) (to : ℕ) (old new : Seen) : Type 0 where
  pub waits : ChangesBy v.task v.action old.waits.tasks new.waits.tasks
  pub marks : MarkedBy v.task v.action old.marks.tasks new.marks.tasks
  pub tasks : (u : Name) → task new.rows u ≡ task_by v to (task old.rows) u
  pub holders : HoldersFor v.task v.action old.rows new.rows

-- the tables after the event, which leaves its task at this line
pub record Changed (v : Event) (to : ℕ) (old new : Seen) : Type 0 where
  pub cells : new.store.cells ≡ cells_by v.action old.store.cells
  pub output : new.store.output ≡ output_by v.action old.store.output
  pub of_tasks : ChangedTasks v to old new

-- the tables after the event but for the cells, the output and the task's own step
pub record Acted (v : Event) (old new : Seen) : Type 0 where
  pub store : new.store ≡ old.store
  pub waits : ChangesBy v.task v.action old.waits.tasks new.waits.tasks
  pub marks : MarkedBy v.task v.action old.marks.tasks new.marks.tasks
  pub tasks : (u : Name) → task new.rows u ≡ with_task v.task v.action (task old.rows) u
  pub holders : HoldersFor v.task v.action old.rows new.rows
  pub own : task new.rows v.task ≡ task old.rows v.task
  pub room : (r : Row) → row new.rows v.task ≡ Some r → HasRowRoom r v.action

-- the tables once the event is taken back by what it replaced
pub record ChangedBack (v : Event) (replaced : Replaced) (old new : Seen) : Type 0 where
  pub cells : new.store.cells ≡ cells_back v.action replaced.number old.store.cells
  pub output : new.store.output ≡ output_back v.action old.store.output
  pub waits : ChangesBackBy v.task v.action old.waits.tasks new.waits.tasks
  pub marks : MarkedBackBy v.task v.action old.marks.tasks new.marks.tasks
  pub tasks : (u : Name) → task new.rows u ≡ task_back v replaced (task old.rows) u
  pub holders : HoldersBack v.task v.action old.rows new.rows

-- the tables once the event is taken back, but for the cells, the output and the task's own step
pub record ActedBack (v : Event) (old new : Seen) : Type 0 where
  pub store : new.store ≡ old.store
  pub waits : ChangesBackBy v.task v.action old.waits.tasks new.waits.tasks
  pub marks : MarkedBackBy v.task v.action old.marks.tasks new.marks.tasks
  pub tasks : (u : Name) → task new.rows u ≡ without_task v.action (task old.rows) u
  pub holders : HoldersBack v.task v.action old.rows new.rows

-- the tables say what they said; only capacity may have grown
pub record AreSame (old new : Seen) : Type 0 where
  pub cells : new.store.cells ≡ old.store.cells
  pub output : new.store.output ≡ old.store.output
  pub waits : IsSameWaits old.waits.tasks new.waits.tasks
  pub marks : new.marks.tasks ≡ old.marks.tasks
  pub rows : Reserves old.rows new.rows

-- ---- capacity

-- for the spawn of u, but for the copies of its name
pub record HasFamilyRoom (s : Seen) (p u : Name) (items : List Item) (deferred : Bool) : Type 0 where
  pub waits : HasRoomForChild s.waits p u
  pub marks : 0 < s.marks.room
  pub row : HasPlaceOrRoom s.waits.tasks u s.row_room
  pub child : HasChildRoomIn s.rows p items deferred

-- for the spawn of u
pub record HasSpawnRoom (s : Seen) (p u : Name) (items : List Item) (deferred : Bool) : Type 0 where
  pub waits : HasRoomForChild s.waits p u
  pub marks : 0 < s.marks.room
  pub row : HasPlaceOrRoom s.waits.tasks u s.row_room
  pub child : HasChildRoomIn s.rows p items deferred
  pub copied : s.copied ≡ Some u

-- for the action of t
abbrev pub HasRoomOf : Seen → Name → Action → Type 0
HasRoomOf s t Start = HasSetRoom s.rows t
HasRoomOf s t (Print x) = 0 < s.store.room
HasRoomOf s t (Spawn spawn) = HasSpawnRoom s t spawn.child spawn.items spawn.deferred
HasRoomOf s t Open = HasGroupRoom s.waits.tasks t
HasRoomOf s t _ = ⊤

-- for what the action of t changes of the tasks
abbrev pub HasTaskRoomOf : Seen → Name → Action → Type 0
HasTaskRoomOf s t Start = HasSetRoom s.rows t
HasTaskRoomOf s t (Spawn spawn) = HasSpawnRoom s t spawn.child spawn.items spawn.deferred
HasTaskRoomOf s t Open = HasGroupRoom s.waits.tasks t
HasTaskRoomOf s t _ = ⊤

-- the event takes no memory where cells and output are left out
abbrev pub HasTaskRoomFor : Seen → Event → Type 0
HasTaskRoomFor s v = HasTaskRoomOf s v.task v.action

-- the event takes no memory
abbrev pub HasRoomFor : Seen → Event → Type 0
HasRoomFor s v = HasRoomOf s v.task v.action

-- none is lost, and the names that are copied are those that were
pub record KeepsRoom (old new : Seen) : Type 0 where
  pub store : old.store.room ≤ new.store.room
  pub waits : KeepsWaitRoom old.waits new.waits
  pub marks : old.marks.room ≤ new.marks.room
  pub rows : Reserves old.rows new.rows
  pub row_room : old.row_room ≤ new.row_room
  pub copied : new.copied ≡ old.copied

-- ---- what each table asks for

-- the cell that the action stores to is one of so many
abbrev pub IsCell : ℕ → Action → Type 0
IsCell count (Store c x) = c < count
IsCell count _ = ⊤

-- a spawn is that of the task's next child, which isn't there yet, and passes at most 16 arguments
abbrev pub IsNextSpawn : Seen → Name → Action → Type 0
IsNextSpawn s p (Spawn spawn) = IsNext s.waits.tasks p spawn.child × (p ≡ drop 1 spawn.child) × (length spawn.args ≤ 16) × (mark_of s.marks.tasks spawn.child ≡ None)
IsNextSpawn s p _ = ⊤

-- what the tables ask for where the event is applied, but for the cell
pub record CanChangeTasks (s : Seen) (v : Event) : Type 0 where
  pub register : IsRegister v.action
  pub few : (k : Task) → task s.rows v.task ≡ Some k → k.steps < 4294967295
  pub linked : IsLinked s.rows v.task
  pub spawn : IsNextSpawn s v.task v.action

-- what the tables ask for where the event is applied
pub record CanChange (s : Seen) (v : Event) : Type 0 where
  pub cell : IsCell (length s.store.cells) v.action
  pub of_tasks : CanChangeTasks s v

-- the spawn that is taken back was the task's last
abbrev pub IsLastSpawn : Seen → Name → Action → Type 0
IsLastSpawn s p (Spawn spawn) = IsLast s.waits.tasks p spawn.child
IsLastSpawn s p _ = ⊤

-- what the end of the task freed has its capacity
abbrev pub HasEndRoom : Seen → Name → Action → Type 0
HasEndRoom s t End = HasSetRoom s.rows t
HasEndRoom s t Fault = HasSetRoom s.rows t
HasEndRoom s t _ = ⊤

-- what the tables ask for where the event is taken back
pub record CanChangeBack (s : Seen) (v : Event) : Type 0 where
  pub register : IsRegister v.action
  pub cell : IsCell (length s.store.cells) v.action
  pub linked : IsLinked s.rows v.task
  pub spawn : IsLastSpawn s v.task v.action
  pub room : HasEndRoom s v.task v.action
