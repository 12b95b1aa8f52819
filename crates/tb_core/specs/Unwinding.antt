-- How the stored steps come off the end, one by one, where steps are taken back. No public clause
-- cites this module.
use Rattle.std.specs.Prelude.{◌≡◌, ℕ, List, [], ◌∷◌, ◌++◌, not, map, reverse}
use Rattle.tb_model.specs.declared.step_id.StepId.{StepId}
use Rattle.tb_model.specs.Facts.{History, prepend_if}
use Rattle.tb_model.specs.Legal.{Cells}
use Rattle.tb_model.specs.Lines.{events_of, without_lines}
use Rattle.tb_model.specs.Needs.{is_removed, step_of}
use Rattle.tb_undo.specs.State.{Seen as Tables}
use Rattle.tb_steps.specs.Entries.{Entry, departure}
use Rattle.tb_core.specs.declared.removed.Removed.{Removed}
use Rattle.tb_core.specs.Rolled.{removed_places, removed_steps, removals}
use Rattle.tb_core.specs.Soundness.{IsSound}

-- the history of stored steps that are listed from the newest
abbrev pub events : List Entry → History
events entries = events_of (map departure entries)

-- of the stored steps after these in front, those that stay
abbrev pub kept_entries : StepId → List Entry → List Entry → List Entry
kept_entries e [] front = []
kept_entries e (w ∷ later) front = prepend_if (not (is_removed e (events (later ++ front)) w.event)) w (kept_entries e later front)

-- of the stored steps after these in front, those that go
abbrev pub gone_entries : StepId → List Entry → List Entry → List Removed
gone_entries e [] front = []
gone_entries e (w ∷ later) front =
    prepend_if (is_removed e (events (later ++ front)) w.event) (record { id = step_of (events (later ++ front)) w.event; action = w.event.action }) (gone_entries e later front)

-- of the old stored steps these are there yet, those after them are retained or gone, and these
-- indexes and steps are still to go
pub record Unwinds (e : StepId) (old entries kept : List Entry) (places : List ℕ) (steps : List StepId) (removed : List Removed) : Type 0 where
  pub later : List Entry
  pub parts : reverse old ≡ later ++ reverse entries
  pub stay : kept ≡ kept_entries e later (reverse entries)
  pub gone : removed ≡ gone_entries e later (reverse entries)
  pub places_left : places ≡ reverse (removed_places e (events (reverse entries)))
  pub steps_left : steps ≡ reverse (removed_steps e (events (reverse entries)))

-- the stored steps, the newest first, are sound with the tables
abbrev pub AreTied : List Entry → Tables → Type 0
AreTied entries tables = (first : Cells) × (root_line : ℕ) × (limit : ℕ) × IsSound first root_line limit entries tables

-- what was sound with the tables before is so now
abbrev pub StayTied : List Entry → Tables → List Entry → Tables → Type 0
StayTied old before entries tables =
    (first : Cells) (root_line limit : ℕ) → IsSound first root_line limit old before → IsSound first root_line limit entries tables

-- the old stored steps, now these with those that were retained
pub record Unwound (e : StepId) (old : List Entry) (before : Tables) (entries kept : List Entry) (tables : Tables) (removed : List Removed) : Type 0 where
  pub rest : map departure (kept ++ reverse entries) ≡ without_lines e (map departure (reverse old))
  pub gone : removed ≡ removals e (events (reverse old))
  pub tied : StayTied (reverse old) before (kept ++ reverse entries) tables
