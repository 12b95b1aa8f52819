-- What a step, an undo and a rollback answer, and what they leave.
use Rattle.std.specs.Prelude.{◌≡◌, ◌≢◌, ℕ, List, ◌∷◌, reverse, Bool, Option, Some, None, Result, Ok, Err, IsSomeAnd, IsTrue, IsFalse}
use Rattle.std.specs.List.{list_any}
use Rattle.tb_model.specs.declared.entry.Entry.{Entry}
use Rattle.tb_model.specs.declared.entry.Entry.TheVariants.{Stepped, Rolled}
use Rattle.tb_model.specs.declared.event.Event.{Event}
use Rattle.tb_model.specs.declared.step_id.StepId.{StepId}
use Rattle.tb_model.specs.Names.{Name}
use Rattle.tb_model.specs.Facts.{is_spawned, ends}
use Rattle.tb_model.specs.Alike.{Alike}
use Rattle.tb_model.specs.Needs.{step_of, without}
use Rattle.tb_model.specs.Needers.{first_needer}
use Rattle.tb_model.specs.Equivalent.{Equivalent, stands}
use Rattle.tb_model.specs.Program.{IsNext, situation}
use Rattle.tb_model.specs.Hindrances.{Hindrance, Refusal, By, refusal_of, least_ready, next_event}
use Rattle.tb_core.specs.declared.removed.Removed.{Removed}
use Rattle.tb_core.specs.declared.step_refusal.StepRefusal.{StepRefusal}
use Rattle.tb_core.specs.declared.step_refusal.StepRefusal.TheVariants.{Memory, Full}
use Rattle.tb_core.specs.declared.undo_refusal.UndoRefusal.{UndoRefusal}
use Rattle.tb_core.specs.declared.undo_refusal.UndoRefusal.TheVariants.{Memory as NoMemory, NoSuchStep, Needed, Full as JournalFull}
use Rattle.tb_core.specs.Naming.{IsLong, IsLongName}
use Rattle.tb_core.specs.Refusals.{told_by}
use Rattle.tb_core.specs.Rolled.{removals}
use Rattle.tb_roll.specs.declared.roll_refusal.RollRefusal.{RollRefusal}
use Rattle.tb_roll.specs.declared.roll_refusal.RollRefusal.TheVariants.{NoSuchStep as StepIsMissing, Full as NoPlace, Memory as NoRoom}
use Rattle.tb_live.specs.Session.{Session, Held, history, is_full, with_entry}

abbrev pub has_ended : Session → Name → Bool
has_ended s t = list_any (ends t) (history s)

-- what blocks the task's step, but for the journal's limit
abbrev pub refusal_for : Session → Name → Option Refusal
refusal_for s t = refusal_of s.program (history s) t

-- the least task that can step, but for the journal's limit
abbrev pub least_task : Session → Option Name
least_task s = least_ready s.program (history s)

-- what the task does next
abbrev pub coming : Session → Name → Event
coming s t = next_event s.program (history s) t

-- nothing blocks the task's step, and the journal has a slot
pub record MayStep (s : Session) (t : Name) : Type 0 where
  pub unrefused : refusal_for s t ≡ None
  pub room : IsFalse (is_full s)

-- the task's next event is the journal's newest entry, of this seat; its undo would leave the history as it was
pub record StepsFor (seat : ℕ) (s : Session) (t : Name) (new : Session) (i : StepId) : Type 0 where
  pub may : MayStep s t
  pub next : IsNext s.program (history s) (coming s t)
  pub id : i ≡ step_of (history s) (coming s t)
  pub now : new ≡ with_entry s (Stepped seat (coming s t))
  pub back : without i (history new) ≡ history s

abbrev pub Steps : Session → Name → Session → StepId → Type 0
Steps = StepsFor 0

-- the refusal says what blocks the task's next step, a full journal aside
abbrev pub Hinders : Session → Name → StepRefusal → Type 0
Hinders s t e = IsSomeAnd (told_by e) (λ told. refusal_for s t ≡ Some told)

-- when a task executes no step; want of memory comes last: it takes the place of a name of more
-- than three ordinals, and else it comes only where the journal has a slot
abbrev pub Refuses : Session → Name → StepRefusal → Type 0
Refuses s t Full = (refusal_for s t ≡ None) × IsTrue (is_full s)
Refuses s t Memory =
    IsTrue (is_spawned (history s) t) × IsFalse (has_ended s t) × (refusal_for s t ≡ None → IsFalse (is_full s))
    × ((h : Hindrance) → refusal_for s t ≡ Some (By h) → IsLong h)
Refuses s t e = Hinders s t e

-- a step by its answer: the first refusal that holds; a refusal changes nothing
abbrev pub StepsBy : Session → Name → Session → Result StepId StepRefusal → Type 0
StepsBy s t new (Ok i) = Steps s t new i
StepsBy s t new (Err e) = (new ≡ s) × Refuses s t e

-- a step of the least task that can step, taken for this seat, by its answer: None where all tasks
-- have ended, else the first refusal that holds
abbrev pub LeastStepsFor : ℕ → Session → Session → Result (Option StepId) StepRefusal → Type 0
LeastStepsFor seat s new (Ok None) = (new ≡ s) × (least_task s ≡ None)
LeastStepsFor seat s new (Ok (Some i)) = (t : Name) × (least_task s ≡ Some t) × StepsFor seat s t new i
LeastStepsFor seat s new (Err Full) = (new ≡ s) × ((t : Name) × (least_task s ≡ Some t)) × IsTrue (is_full s)
LeastStepsFor seat s new (Err Memory) = (new ≡ s) × (least_task s ≢ None → IsFalse (is_full s))
LeastStepsFor seat s new (Err _) = ⊥

-- a step for the look for its task
abbrev pub for_least : Result StepId StepRefusal → Result (Option StepId) StepRefusal
for_least (Ok i) = Ok (Some i)
for_least (Err e) = Err e

abbrev pub LeastStepsBy : Session → Session → Result (Option StepId) StepRefusal → Type 0
LeastStepsBy = LeastStepsFor 0

-- the step is there, nothing needs it, and the journal has a slot
pub record MayUndo (s : Session) (i : StepId) : Type 0 where
  pub stands : IsTrue (stands i (history s))
  pub unneeded : first_needer i (history s) ≡ None
  pub room : IsFalse (is_full s)

-- the event of a step that was taken back
abbrev pub event_back : StepId → Removed → Event
event_back i removed = record { task = i.task; action = removed.action }

-- the undo is the journal's newest entry, of this seat; the step is the next one of its task then,
-- with the same values, and with it all is as it was: the histories are equivalent and alike in all
-- that a state says, and each task is in its situation
pub record UndoesFor (seat : ℕ) (s : Session) (i : StepId) (new : Session) (removed : Removed) : Type 0 where
  pub may : MayUndo s i
  pub id : removed.id ≡ i
  pub now : new ≡ with_entry s (Rolled seat i)
  pub next : IsNext s.program (history new) (event_back i removed)
  pub equivalent : Equivalent (history s) (event_back i removed ∷ history new)
  pub alike : Alike (history s) (event_back i removed ∷ history new)
  pub situations : (t : Name) → situation s.program t (history s) ≡ situation s.program t (event_back i removed ∷ history new)

abbrev pub Undoes : Session → StepId → Session → Removed → Type 0
Undoes = UndoesFor 0

-- an undo by its answer; memory may be wanted for the name of what needs the step, where it has
-- more than three ordinals, and else only where the journal has a slot
abbrev pub UndoneFor : ℕ → Session → StepId → Session → Result Removed UndoRefusal → Type 0
UndoneFor seat s i new (Ok removed) = UndoesFor seat s i new removed
UndoneFor seat s i new (Err NoSuchStep) = (new ≡ s) × IsFalse (stands i (history s))
UndoneFor seat s i new (Err (Needed by)) = (new ≡ s) × IsTrue (stands i (history s)) × (first_needer i (history s) ≡ Some by)
UndoneFor seat s i new (Err JournalFull) = (new ≡ s) × IsTrue (stands i (history s)) × (first_needer i (history s) ≡ None) × IsTrue (is_full s)
UndoneFor seat s i new (Err NoMemory) =
    (new ≡ s) × IsTrue (stands i (history s)) × (first_needer i (history s) ≡ None → IsFalse (is_full s))
    × ((by : StepId) → first_needer i (history s) ≡ Some by → IsLongName by.task)

abbrev pub UndoneBy : Session → StepId → Session → Result Removed UndoRefusal → Type 0
UndoneBy = UndoneFor 0

-- the step and all that need it are gone, and nothing else; the rollback is the journal's newest entry, of this seat
pub record RollsFor (seat : ℕ) (s : Session) (i : StepId) (new : Session) (removed : List Removed) : Type 0 where
  pub stands : IsTrue (stands i (history s))
  pub room : IsFalse (is_full s)
  pub now : new ≡ with_entry s (Rolled seat i)
  pub gone : removed ≡ reverse (removals i (history s))

abbrev pub Rolls : Session → StepId → Session → List Removed → Type 0
Rolls = RollsFor 0

-- the rollback may come, and its entry is the one that is prepared
pub record IsRollPrepared (seat : ℕ) (held : Held) (i : StepId) (e : Entry) : Type 0 where
  pub stands : IsTrue (stands i (history held.session))
  pub room : IsFalse (is_full held.session)
  pub entry : e ≡ Rolled seat i
  pub prepared : held.prepared ≡ Some e

-- when all stays: want of memory comes last
abbrev pub KeepsAll : Session → StepId → RollRefusal → Type 0
KeepsAll s i StepIsMissing = IsFalse (stands i (history s))
KeepsAll s i NoPlace = IsTrue (stands i (history s)) × IsTrue (is_full s)
KeepsAll s i NoRoom = IsTrue (stands i (history s)) × IsFalse (is_full s)
