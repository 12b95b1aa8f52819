-- A rollback and its entry, and the same for the undo of one step.
use Rattle.std.specs.Prelude.{◌≡◌, ◌++◌, ℕ, List, [], ◌∷◌, Some, IsTrue, IsFalse}
use Rattle.tb_model.specs.declared.entry.Entry.{Entry}
use Rattle.tb_model.specs.declared.entry.Entry.TheVariants.{Rolled}
use Rattle.tb_model.specs.declared.step_id.StepId.{StepId}
use Rattle.tb_model.specs.Equivalent.{stands}
use Rattle.tb_model.specs.Needers.{first_needer}
use Rattle.tb_core.specs.declared.removed.Removed.{Removed}
use Rattle.tb_core.specs.declared.undo_refusal.UndoRefusal.{UndoRefusal}
use Rattle.tb_core.specs.declared.undo_refusal.UndoRefusal.TheVariants.{Memory as NoMemory}
use Rattle.tb_core.specs.Naming.{IsLongName}
use Rattle.tb_core.specs.Outcomes.{TakesBack, Keeps}
use Rattle.tb_core.specs.Rolled.{RollsBack}
use Rattle.tb_core.specs.Seen.{Seen, history}
use Rattle.tb_roll.specs.declared.roll_refusal.RollRefusal.{RollRefusal}
use Rattle.tb_roll.specs.declared.roll_refusal.RollRefusal.TheVariants.{Memory, NoSuchStep, Full}
use Rattle.tb_live.specs.Entering.{has_no_place}

-- the step and all that need it are gone, and it is the newest entry
pub record EntersRollback (limit seat : ℕ) (run : Seen) (i : StepId) (new : Seen) (old entries : List Entry) (removed : List Removed) : Type 0 where
  pub room : IsFalse (has_no_place limit old)
  pub stood : IsTrue (stands i (history run))
  pub rolls : RollsBack run i new removed
  pub grows : entries ≡ old ++ Rolled seat i ∷ []

-- why nothing goes: a step that isn't there comes before a full journal, and want of memory last
abbrev pub RefusesRollback : ℕ → Seen → StepId → List Entry → RollRefusal → Type 0
RefusesRollback limit run i old NoSuchStep = IsFalse (stands i (history run))
RefusesRollback limit run i old Full = IsTrue (stands i (history run)) × IsTrue (has_no_place limit old)
RefusesRollback limit run i old Memory = IsTrue (stands i (history run)) × IsFalse (has_no_place limit old)

-- the one step is gone, and it is the newest entry
pub record EntersUndo (seat : ℕ) (run : Seen) (i : StepId) (new : Seen) (old entries : List Entry) (removed : Removed) : Type 0 where
  pub takes : TakesBack run i new removed
  pub grows : entries ≡ old ++ Rolled seat i ∷ []

-- why it stays; want of memory comes last, or in place of a name of more than three ordinals
abbrev pub RefusesUndo : Seen → StepId → UndoRefusal → Type 0
RefusesUndo run i NoMemory = IsTrue (stands i (history run)) × ((by : StepId) → first_needer i (history run) ≡ Some by → IsLongName by.task)
RefusesUndo run i e = Keeps run i e
