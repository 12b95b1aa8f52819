-- What the joined tables hold of a history that retains its lines: its state, table by table.
use Rattle.std.specs.Prelude.{◌≡◌, ◌<◌, ℕ, suc, ℤ, List, [], ◌∷◌, Option, Some, None, IsTrue, drop, length, reverse, if◌then◌else◌}
use Rattle.tb_model.specs.declared.action.Action.{Action}
use Rattle.tb_model.specs.declared.action.Action.TheVariants.{Spawn}
use Rattle.tb_model.specs.Names.{Name}
use Rattle.tb_model.specs.Facts.{History, own, last, is_spawned}
use Rattle.tb_model.specs.Legal.{Cells, Legal, first_number}
use Rattle.tb_model.specs.State.{printed, spawn_of, called_by, is_unended}
use Rattle.tb_model.specs.Lines.{Departure, events_of, line_of}
use Rattle.tb_model.specs.Records.{args_in}
use Rattle.tb_store.specs.Contents.{Contents, number_at}
use Rattle.tb_depend.specs.Relations.{spawned_items}
use Rattle.tb_excl.specs.Holders.{Holders}
use Rattle.tb_excl.specs.Histories.{AreHolders}
use Rattle.tb_ready.specs.Tasks.{Tasks as Marks}
use Rattle.tb_ready.specs.Histories.{AreMarks}
use Rattle.tb_wait.specs.Kin.{Table as Waits}
use Rattle.tb_wait.specs.Histories.{AreKin}
use Rattle.tb_undo.specs.Tasks.{Task, Rows, task, holders_of, written, first_registers}

-- the joined tables: cells and output, who waits for whom, which tasks are marked, each task's own part; how many more tasks
-- fit with no memory; and the child whose names were copied for the spawn to come
pub record Seen : Type 0 where
  pub store : Contents
  pub waits : Waits
  pub marks : Marks
  pub rows : Rows
  pub row_room : ℕ
  pub copied : Option Name

-- the cells have the last values
pub record AreLast (first : Cells) (H : History) (numbers : List ℤ) : Type 0 where
  pub count : length numbers ≡ length first
  pub number : (c : ℕ) → c < length first → number_at numbers c ≡ last (first_number first c) c H

-- the sixteen registers of a task with these arguments after its own actions
abbrev pub registers : List ℤ → List Action → List ℤ
registers args [] = first_registers args
registers args (a ∷ acts) = written a (registers args acts)

-- at which of its steps a task generated an undeferred child, the newest first
abbrev pub undeferred_at : List Action → List ℕ
undeferred_at [] = []
undeferred_at (Spawn s ∷ acts) = if s.deferred then undeferred_at acts else suc (length acts) ∷ undeferred_at acts
undeferred_at (_ ∷ acts) = undeferred_at acts

-- a task that was generated
abbrev pub known_task : ℕ → List Departure → Name → Task
known_task root_line D t = record {
  parent = drop 1 t;
  body = (called_by root_line (spawn_of t (events_of D))).line;
  at = line_of (called_by root_line (spawn_of t (events_of D))).line t D;
  steps = length (own t (events_of D));
  regs = registers (args_in (spawn_of t (events_of D))) (own t (events_of D));
  undeferred = undeferred_at (own t (events_of D));
  children = spawned_items (own t (events_of D));
}

-- what is stored of t after a history, and None where it wasn't generated
abbrev pub task_of : ℕ → List Departure → Name → Option Task
task_of root_line D t = if is_spawned (events_of D) t then Some (known_task root_line D t) else None

-- what the tables retain of the tasks is that of the history, with the root's body at this line; of
-- cells and output it says nothing
pub record IsTaskState (root_line : ℕ) (D : List Departure) (s : Seen) : Type 0 where
  pub waiting : AreKin (events_of D) s.waits.tasks
  pub marked : AreMarks (events_of D) s.marks.tasks
  pub tasks : (t : Name) → task s.rows t ≡ task_of root_line D t
  pub holders : (p : Name) (h : Holders) → holders_of s.rows p ≡ Some h → AreHolders (events_of D) p h

-- the tables are those of the history, with these first values, and the root's body at this line
pub record IsState (first : Cells) (root_line : ℕ) (D : List Departure) (s : Seen) : Type 0 where
  pub cells : AreLast first (events_of D) s.store.cells
  pub output : s.store.output ≡ reverse (printed (events_of D))
  pub of_tasks : IsTaskState root_line D s

-- ---- whatever history the tables are of

-- this holds of its first values, of the line of the root's body, and of the history with the lines
-- of its steps
abbrev pub ForState : Seen → (Cells → ℕ → List Departure → Type 0) → Type 0
ForState s P = (first : Cells) (root_line : ℕ) (D : List Departure) → IsState first root_line D s → P first root_line D

-- this holds of the line of the root's body, and of the history with the lines of its steps
abbrev pub ForTasks : Seen → (ℕ → List Departure → Type 0) → Type 0
ForTasks s P = (root_line : ℕ) (D : List Departure) → IsTaskState root_line D s → P root_line D

-- this holds of its events, where it is legal
abbrev pub ForHistory : Seen → (History → Type 0) → Type 0
ForHistory s P = (first : Cells) (root_line : ℕ) (D : List Departure) → Legal first (events_of D) → IsTaskState root_line D s → P (events_of D)

-- this holds of its events, where it is legal, and t was generated and hasn't ended
abbrev pub ForUnended : Seen → Name → (History → Type 0) → Type 0
ForUnended s t P = ForHistory s (λ H. IsTrue (is_unended H t) → P H)
