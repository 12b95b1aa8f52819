-- The entry that the plan of a step becomes.
use Rattle.std.specs.Prelude.{◌≡◌, ◌++◌, ℕ, List, [], ◌∷◌, Bool, nat_le, length, None, Result, Ok, Err, IsTrue, IsFalse}
use Rattle.tb_model.specs.declared.action.Action.{Action}
use Rattle.tb_model.specs.declared.entry.Entry.{Entry}
use Rattle.tb_model.specs.declared.entry.Entry.TheVariants.{Stepped}
use Rattle.tb_model.specs.declared.step_id.StepId.{StepId}
use Rattle.tb_model.specs.Names.{Name}
use Rattle.tb_model.specs.Hindrances.{Hindrance}
use Rattle.tb_plan.specs.declared.planned.Plan.{Plan}
use Rattle.tb_core.specs.declared.step_refusal.StepRefusal.{StepRefusal}
use Rattle.tb_core.specs.declared.step_refusal.StepRefusal.TheVariants.{Memory, Full}
use Rattle.tb_core.specs.Seen.{Seen}
use Rattle.tb_control.specs.declared.control.Control.{Control}
use Rattle.tb_control.specs.Controls.{behind_step, claimed_by}
use Rattle.tb_core.specs.Outcomes.{IsCurrent, IsHindered, IsKept, Steps, Takes, event_for, event_of, hindrance_of}
use Rattle.tb_core.specs.Naming.{IsLong}

-- the journal is so long that it has no slot
abbrev pub has_no_place : ℕ → List Entry → Bool
has_no_place limit entries = nat_le limit (length entries)

-- the plan's event was taken, and is the newest entry, of this seat
pub record IsEntered (seat : ℕ) (run : Seen) (p : Plan) (new : Seen) (old entries : List Entry) (i : StepId) : Type 0 where
  pub steps : Steps run p new i
  pub grows : entries ≡ old ++ Stepped seat (event_of run p) ∷ []

-- the event of an action was executed, and is the newest entry, of this seat
pub record IsTaken (seat : ℕ) (run : Seen) (t : Name) (a : Action) (to : ℕ) (new : Seen) (old entries : List Entry) : Type 0 where
  pub taken : Takes run t a to new (event_for run t a)
  pub grows : entries ≡ old ++ Stepped seat (event_for run t a) ∷ []

-- what blocks the task's action comes before a full journal, and want of memory last: at a full
-- journal it takes the place of a name alone, and only of a long one
abbrev pub IsKeptFrom : Seen → Plan → Bool → StepRefusal → Type 0
IsKeptFrom run p full Full = IsCurrent run p × (hindrance_of run p ≡ None) × IsTrue full
IsKeptFrom run p full Memory = (IsCurrent run p → hindrance_of run p ≡ None → IsFalse full) × ((h : Hindrance) → IsHindered run p h → IsLong h)
IsKeptFrom run p full e = IsKept run p e

-- a planned step by its answer
abbrev pub Enters : ℕ → ℕ → Seen → Plan → Seen → List Entry → List Entry → Control → Control → Result StepId StepRefusal → Type 0
Enters limit seat run p new old entries before after (Ok i) =
    IsEntered seat run p new old entries i × IsFalse (has_no_place limit old) × (after ≡ behind_step p.config.at (event_of run p) before)
Enters limit seat run p new old entries before after (Err e) = (new ≡ run) × (entries ≡ old) × (after ≡ before) × IsKeptFrom run p (has_no_place limit old) e

-- a planned step by its answer, for a seat that claims the task still
abbrev pub EntersOn : ℕ → ℕ → Seen → Plan → Seen → List Entry → List Entry → Control → Control → Result StepId StepRefusal → Type 0
EntersOn limit seat run p new old entries before after (Ok i) =
    IsEntered seat run p new old entries i × IsFalse (has_no_place limit old)
    × (after ≡ claimed_by seat p.config.task (behind_step p.config.at (event_of run p) before))
EntersOn limit seat run p new old entries before after (Err e) = (new ≡ run) × (entries ≡ old) × (after ≡ before) × IsKeptFrom run p (has_no_place limit old) e
