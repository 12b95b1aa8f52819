-- The histories of which the tables are, where a step is executed and where it is taken back.
use Rattle.std.specs.Prelude.{◌≡◌, ◌<◌, ◌++◌, ℕ, List, ◌∷◌, length}
use Rattle.tb_model.specs.declared.event.Event.{Event}
use Rattle.tb_model.specs.Legal.{Cells, Legal}
use Rattle.tb_model.specs.State.{spawn_of, called_by}
use Rattle.tb_model.specs.Lines.{Departure, events_of, line_of}
use Rattle.tb_model.specs.Records.{replaced_by}
use Rattle.tb_model.specs.Reordering.{IsUnneeded}
use Rattle.tb_model.specs.Needs.{step_of}
use Rattle.tb_store.specs.declared.replaced.Replaced.{Replaced}
use Rattle.tb_undo.specs.Tasks.{register_by}
use Rattle.tb_undo.specs.State.{Seen, IsTaskState, IsState}

-- what the event replaces after this history: a value, of a register or a cell, and the line at
-- which its task was
abbrev pub replaced_for : Cells → ℕ → List Departure → Event → Replaced
replaced_for first root_line D v = record {
  number = replaced_by first (events_of D) v;
  reg = register_by v.action;
  at = line_of (called_by root_line (spawn_of v.task (events_of D))).line v.task D;
}

-- the tables are those of a history that the event may follow
pub record Follows (first : Cells) (root_line : ℕ) (D : List Departure) (v : Event) (s : Seen) : Type 0 where
  pub legal : Legal first (v ∷ events_of D)
  pub state : IsState first root_line D s
  pub few : length D < 4294967295

-- what the tables retain of the tasks is that of a history that the event may follow
pub record FollowsTasks (first : Cells) (root_line : ℕ) (D : List Departure) (v : Event) (s : Seen) : Type 0 where
  pub legal : Legal first (v ∷ events_of D)
  pub state : IsTaskState root_line D s
  pub few : length D < 4294967295

-- the tables are those of a history in which the event is between these, nothing needs it, and this
-- is what it replaced
pub record Precedes (first : Cells) (root_line : ℕ) (later front : List Departure) (d : Departure) (r : Replaced) (s : Seen) : Type 0 where
  pub legal : Legal first (events_of (later ++ d ∷ front))
  pub unneeded : IsUnneeded (step_of (events_of front) d.event) (events_of (later ++ d ∷ front))
  pub replaced : r ≡ replaced_for first root_line front d.event
  pub state : IsState first root_line (later ++ d ∷ front) s

-- ---- the calls

-- the event may follow a history of which the tables are
abbrev pub IsAhead : Seen → Event → Type 0
IsAhead s v = (first : Cells) × (root_line : ℕ) × (D : List Departure) × Follows first root_line D v s

-- whatever history that is, the tables are now those of it with the event, which leaves its task at this line
abbrev pub IsBehind : Seen → Event → ℕ → Seen → Type 0
IsBehind old v to new =
    (first : Cells) (root_line : ℕ) (D : List Departure) → Follows first root_line D v old
    → IsState first root_line (record { event = v; to = to } ∷ D) new

-- the event may follow a history of whose tasks the tables are
abbrev pub IsAheadOfTasks : Seen → Event → Type 0
IsAheadOfTasks s v = (first : Cells) × (root_line : ℕ) × (D : List Departure) × FollowsTasks first root_line D v s

-- whatever history that is, the tables are now those of the tasks of it with the event, which leaves its task at this line
abbrev pub IsBehindTasks : Seen → Event → ℕ → Seen → Type 0
IsBehindTasks old v to new =
    (first : Cells) (root_line : ℕ) (D : List Departure) → FollowsTasks first root_line D v old
    → IsTaskState root_line (record { event = v; to = to } ∷ D) new

-- whatever history that is, this is what the event replaced
abbrev pub IsRecord : Seen → Event → Replaced → Type 0
IsRecord old v r = (first : Cells) (root_line : ℕ) (D : List Departure) → Follows first root_line D v old → r ≡ replaced_for first root_line D v

-- the event is in a history of which the tables are, nothing needs it, and this is what it replaced
abbrev pub Stands : Seen → Event → Replaced → Type 0
Stands s v r =
    (first : Cells) × (root_line : ℕ) × (later : List Departure) × (front : List Departure) × (to : ℕ)
    × Precedes first root_line later front (record { event = v; to = to }) r s

-- whatever history that is, and wherever the event is there, the tables are now those of it without
-- the event
abbrev pub IsWithout : Seen → Event → Replaced → Seen → Type 0
IsWithout old v r new =
    (first : Cells) (root_line : ℕ) (later front : List Departure) (to : ℕ)
    → Precedes first root_line later front (record { event = v; to = to }) r old → IsState first root_line (later ++ front) new
