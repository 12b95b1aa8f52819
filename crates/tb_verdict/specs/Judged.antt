-- What the tables say of the run so far, and what an event comes to.
use Rattle.std.specs.Prelude.{◌≡◌, ◌<◌, ◌∷◌, ℕ, List, length, Option, Some, None}
use Rattle.tb_model.specs.declared.event.Event.{Event}
use Rattle.tb_model.specs.Facts.{History}
use Rattle.tb_model.specs.Legal.{Cells, Legal}
use Rattle.tb_model.specs.Lines.{Departure, events_of}
use Rattle.tb_undo.specs.State.{IsTaskState}
use Rattle.tb_verdict.specs.Refusals.{refusal_of}
use Rattle.tb_verdict.specs.Values.{AreValues, AreSameValues}
use Rattle.tb_verdict.specs.declared.refusal.Refusal.{Refusal}
use Rattle.tb_verdict.specs.declared.run_state.RunState.{RunState}
use Rattle.tb_undo.specs.Changes.{AreSame}

-- this is stored of a legal history, with these first values; a run has no lines, so they may be
-- any
pub record IsRun (first : Cells) (root_line : ℕ) (D : List Departure) (s : RunState) : Type 0 where
  pub legal : Legal first (events_of D)
  pub cells : s.cells ≡ length first
  pub state : IsTaskState root_line D s.tables
  pub values : AreValues first (events_of D) s.values.entries
  pub few : length D < 4294967295

-- the state is that of some run
abbrev pub AreOfRun : RunState → Type 0
AreOfRun s = (first : Cells) × (root_line : ℕ) × (D : List Departure) × IsRun first root_line D s

-- whatever run that is, this holds of its first values and of its history
abbrev pub ForRun : RunState → (Cells → History → Type 0) → Type 0
ForRun s P = (first : Cells) (root_line : ℕ) (D : List Departure) → IsRun first root_line D s → P first (events_of D)

-- the state says what it said
pub record IsSame (old new : RunState) : Type 0 where
  pub cells : new.cells ≡ old.cells
  pub tables : AreSame old.tables new.tables
  pub values : AreSameValues old.values.entries new.values.entries

-- this is stored of a history with one event more
pub record HasTaken (first : Cells) (root_line : ℕ) (D : List Departure) (v : Event) (s : RunState) : Type 0 where
  pub legal : Legal first (v ∷ events_of D)
  pub cells : s.cells ≡ length first
  pub state : IsTaskState root_line (record { event = v; to = 0 } ∷ D) s.tables
  pub values : AreValues first (v ∷ events_of D) s.values.entries

-- the event is accepted, where nothing refuses it; else nothing changes
abbrev pub Takes : Option ℕ → Event → RunState → RunState → Option Refusal → Type 0
Takes k v old new None =
    (first : Cells) (root_line : ℕ) (D : List Departure) → IsRun first root_line D old
    → (refusal_of first (events_of D) k v ≡ None) × HasTaken first root_line D v new
Takes k v old new (Some r) = (new ≡ old) × ForRun old (λ first H. refusal_of first H k v ≡ Some r)
