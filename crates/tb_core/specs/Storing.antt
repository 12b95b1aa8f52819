-- What the stored steps that are stored say: each has its task's id in place of its name. The line
-- to which a step led isn't stored: it is that at which its task's next step was, and that of the
-- tables where there is none.
use Rattle.std.specs.Prelude.{◌≡◌, ℕ, ℤ, List, [], ◌∷◌, Some, get_or, reverse, slice_get, unwrap_or, if◌then◌else◌}
use Rattle.std.specs.Option.{option_map_or}
use Rattle.tb_model.specs.declared.action.Action.{Action}
use Rattle.tb_model.specs.Names.{Name, same_name}
use Rattle.tb_store.specs.declared.replaced.Replaced.{Replaced}
use Rattle.tb_undo.specs.State.{Seen as Tables}
use Rattle.tb_undo.specs.Tasks.{Task, task, register_by}
use Rattle.tb_core.specs.declared.entry.Entry.{Entry as Stored}
use Rattle.tb_steps.specs.Entries.{Entry}
use Rattle.tb_core.specs.Packing.{number_in}
use Rattle.tb_core.specs.Soundness.{names_in}

-- the stored step is stored so, where the tasks' names have these ids
pub record IsStored (names : List Name) (s : Stored) (e : Entry) : Type 0 where
  pub task : slice_get names s.task ≡ Some e.event.task
  pub action : s.action ≡ e.event.action
  pub at : s.at ≡ e.at
  pub number : s.number ≡ e.number

-- what is stored of an action of the task with this id, which replaced so much
abbrev pub stored : ℕ → Action → Replaced → Stored
stored n a r = record { action = a; number = unwrap_or r.number (ℤ.pos 0); task = n; at = r.at }

-- what the step replaced
abbrev pub replaced_stored : Stored → Replaced
replaced_stored s = record { number = number_in s.action s.number; reg = register_by s.action; at = s.at }

-- ---- all stored steps

-- the line at which a task is now
abbrev pub line_in : Tables → Name → ℕ
line_in tables t = option_map_or (λ (k : Task). k.at) (task tables.rows t) 0

abbrev pub name_of : List Name → Stored → Name
name_of names s = get_or names s.task []

-- the lines before the step
abbrev pub lines_before : List Name → (Name → ℕ) → Stored → Name → ℕ
lines_before names lines s t = if same_name t (name_of names s) then s.at else lines t

-- the newest first, where tasks are at these lines after them
abbrev pub entries_of : List Name → (Name → ℕ) → List Stored → List Entry
entries_of names lines [] = []
entries_of names lines (s ∷ ss) =
    (record { event = record { task = name_of names s; action = s.action }; to = lines (name_of names s); at = s.at; number = s.number })
    ∷ entries_of names (lines_before names lines s) ss

-- all that a core stores, the oldest first
abbrev pub entries_in : Tables → List Stored → List Entry
entries_in tables ss = reverse (entries_of (names_in tables) (line_in tables) (reverse ss))
