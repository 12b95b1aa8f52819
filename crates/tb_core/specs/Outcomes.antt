-- What a step and an undo answer, and what they leave.
use Rattle.std.specs.Prelude.{◌≡◌, ◌≢◌, ◌<◌, ◌≤◌, ◌↔◌, ◌⊎◌, ◌++◌, ℕ, List, [], Option, ◌∷◌, length, Bool, Some, None, Result, Ok, Err, IsTrue, IsFalse}
use Rattle.std.specs.List.{list_any}
use Rattle.tb_model.specs.declared.action.Action.{Action}
use Rattle.tb_model.specs.declared.action.Action.TheVariants.{Close}
use Rattle.tb_model.specs.Hindrances.{Hindrance, Refusal, By, in_the_way}
use Rattle.tb_model.specs.Hindrances.{NoSuchTask as TheTaskIsMissing, Ended as TheTaskIsOver}
use Rattle.tb_plan.specs.declared.config.Config.{Config}
use Rattle.tb_model.specs.declared.event.Event.{Event}
use Rattle.tb_model.specs.declared.step_id.StepId.{StepId}
use Rattle.tb_model.specs.Names.{Name}
use Rattle.tb_model.specs.Facts.{own, is_spawned, is_start, ends, groups}
use Rattle.tb_model.specs.Legal.{MayFollow}
use Rattle.tb_model.specs.Alike.{Alike}
use Rattle.tb_model.specs.Needs.{step_of, without}
use Rattle.tb_model.specs.Needers.{first_needer}
use Rattle.tb_model.specs.Equivalent.{Equivalent, stands}
use Rattle.tb_plan.specs.declared.planned.Plan.{Plan}
use Rattle.tb_plan.specs.Plans.{line_behind, names_allowed}
use Rattle.tb_core.specs.declared.removed.Removed.{Removed}
use Rattle.tb_core.specs.declared.step_refusal.StepRefusal.{StepRefusal}
use Rattle.tb_core.specs.declared.step_refusal.StepRefusal.TheVariants.{Memory, Full, Stale}
use Rattle.tb_core.specs.declared.undo_refusal.UndoRefusal.{UndoRefusal}
use Rattle.tb_core.specs.declared.undo_refusal.UndoRefusal.TheVariants.{Memory as NoMemory, NoSuchStep, Needed, Full as JournalFull}
use Rattle.tb_model.specs.Lines.{Departure, events_of, line_of, without_lines}
use Rattle.tb_core.specs.Seen.{Seen, history}
use Rattle.tb_core.specs.Situation.{config_of}
use Rattle.tb_core.specs.Filling.{completed}
use Rattle.tb_core.specs.Refusals.{told_by}
use Rattle.tb_core.specs.Naming.{IsLong, IsLongName, IsNamed}

-- the event of an action of the task
abbrev pub event_for : Seen → Name → Action → Event
event_for s t a = record { task = t; action = completed s.cells (history s) t a }

-- the event of a plan, and the same with the line at which it leaves its task
abbrev pub event_of : Seen → Plan → Event
event_of s p = event_for s p.config.task p.action

abbrev pub departure_of : Seen → Plan → Departure
departure_of s p = record { event = event_of s p; to = line_behind p.instr p.config p.action }

abbrev pub has_ended : Seen → Name → Bool
has_ended s t = list_any (ends t) (history s)

-- the plan is for this many cells; where it is of its task's situation, it starts exactly a pending task, and it closes a
-- group only where one is open
pub record Fits (s : Seen) (p : Plan) : Type 0 where
  pub cells : p.instr.cells ≡ length s.cells
  pub starts : p.config ≡ config_of s p.config.task → IsTrue (is_start p.action) ↔ (own p.config.task (history s) ≡ [])
  pub closes : p.config ≡ config_of s p.config.task → p.action ≡ Close → groups (own p.config.task (history s)) ≢ []

-- the task is there, isn't over, and is where the plan takes it to be
pub record IsCurrent (s : Seen) (p : Plan) : Type 0 where
  pub spawned : IsTrue (is_spawned (history s) p.config.task)
  pub going : IsFalse (has_ended s p.config.task)
  pub here : p.config ≡ config_of s p.config.task

-- the event is after the others, which it may follow, and its undo leaves them as they were, each
-- with its line
pub record Steps (s : Seen) (p : Plan) (new : Seen) (i : StepId) : Type 0 where
  pub current : IsCurrent s p
  pub room : length s.steps < s.limit
  pub may : MayFollow s.cells (history s) (event_of s p)
  pub now : new ≡ record s { steps = departure_of s p ∷ s.steps }
  pub id : i ≡ step_of (history s) (event_of s p)
  pub back : without i (history new) ≡ history s
  pub lines : without_lines i new.steps ≡ s.steps

-- what blocks the plan's task's action, where the plan is of its situation
abbrev pub hindrance_of : Seen → Plan → Option Hindrance
hindrance_of s p = in_the_way (history s) p.config.task p.action

-- nothing blocks the task's action, and the history has a slot
pub record IsOpen (s : Seen) (p : Plan) : Type 0 where
  pub current : IsCurrent s p
  pub clear : hindrance_of s p ≡ None
  pub room : length s.steps < s.limit

-- ---- an action of a task that is at the line where it was evaluated

-- nothing blocks the action of the task, which is there and isn't over, and the history has a slot;
-- it is for this many cells, it starts exactly a pending task, and it closes a group only where one
-- is open
pub record MayTake (s : Seen) (t : Name) (a : Action) : Type 0 where
  pub spawned : IsTrue (is_spawned (history s) t)
  pub going : IsFalse (has_ended s t)
  pub allowed : IsTrue (names_allowed (length s.cells) a)
  pub starts : IsTrue (is_start a) ↔ (own t (history s) ≡ [])
  pub closes : a ≡ Close → groups (own t (history s)) ≢ []
  pub clear : in_the_way (history s) t a ≡ None
  pub room : length s.steps < s.limit

-- with the event after the others, which leaves its task at this line
abbrev pub grown_by : Event → ℕ → Seen → Seen
grown_by v to s = record s { steps = record { event = v; to = to } ∷ s.steps }

-- the event of the action is after the others, which it may follow, and leaves its task at this
-- line; its undo leaves them as they were, each with its line
pub record Takes (s : Seen) (t : Name) (a : Action) (to : ℕ) (new : Seen) (v : Event) : Type 0 where
  pub event : v ≡ event_for s t a
  pub may : MayFollow s.cells (history s) v
  pub now : new ≡ grown_by v to s
  pub back : without (step_of (history s) v) (history new) ≡ history s
  pub lines : without_lines (step_of (history s) v) new.steps ≡ s.steps

-- the refusal names what blocks the task's action, or says that there was no memory for the name
pub record IsKeptBy (s : Seen) (t : Name) (a : Action) (e : StepRefusal) : Type 0 where
  pub hindrance : Hindrance
  pub found : in_the_way (history s) t a ≡ Some hindrance
  pub named : IsNamed hindrance e

-- ---- why a plan isn't executed

-- the task is there and going, but is at another line than the plan takes it to be, now so
pub record IsStale (s : Seen) (p : Plan) (now : Config) : Type 0 where
  pub spawned : IsTrue (is_spawned (history s) p.config.task)
  pub going : IsFalse (has_ended s p.config.task)
  pub now_is : now ≡ config_of s p.config.task
  pub elsewhere : p.config ≢ now

-- this blocks the task's action
pub record IsHindered (s : Seen) (p : Plan) (h : Hindrance) : Type 0 where
  pub current : IsCurrent s p
  pub hindrance : hindrance_of s p ≡ Some h

-- memory is wanted for what a refusal would say: where the task is now, or a name of more than
-- three ordinals
abbrev pub WantsToTell : Seen → Plan → Type 0
WantsToTell s p = ((now : Config) × IsStale s p now) ⊎ ((h : Hindrance) × IsHindered s p h × IsLong h)

-- memory is wanted for the step, or for what a refusal would say
abbrev pub WantsMemory : Seen → Plan → Type 0
WantsMemory s p = IsOpen s p ⊎ WantsToTell s p

-- what is so where a refusal says this of the plan's task
abbrev pub IsTold : Seen → Plan → Option Refusal → Type 0
IsTold s p (Some TheTaskIsMissing) = IsFalse (is_spawned (history s) p.config.task)
IsTold s p (Some TheTaskIsOver) = IsTrue (is_spawned (history s) p.config.task) × IsTrue (has_ended s p.config.task)
IsTold s p (Some (By h)) = IsHindered s p h
IsTold s p None = ⊥

-- when a plan isn't executed; want of memory comes last
abbrev pub Refuses : Seen → Plan → StepRefusal → Type 0
Refuses s p (Stale now) = IsStale s p now
Refuses s p Full = IsCurrent s p × (hindrance_of s p ≡ None) × (s.limit ≤ length s.steps)
Refuses s p Memory = WantsMemory s p
Refuses s p r = IsTold s p (told_by r)

-- why a plan isn't executed, where memory may be wanted for what the refusal names, but not for the
-- step
abbrev pub IsKept : Seen → Plan → StepRefusal → Type 0
IsKept s p Memory = WantsToTell s p
IsKept s p r = Refuses s p r

-- a step by its answer; a refusal leaves the core as it was
abbrev pub Stepped : Seen → Plan → Seen → Result StepId StepRefusal → Type 0
Stepped s p new (Ok i) = Steps s p new i
Stepped s p new (Err e) = (new ≡ s) × Refuses s p e

-- the step is there, and nothing needs it
pub record IsFree (s : Seen) (i : StepId) : Type 0 where
  pub stands : IsTrue (stands i (history s))
  pub unneeded : first_needer i (history s) ≡ None

-- so many steps are before the step
pub record IsPlaceOfStep (s : Seen) (i : StepId) (at : ℕ) : Type 0 where
  pub later : List Departure
  pub step : Departure
  pub front : List Departure
  pub parts : s.steps ≡ later ++ step ∷ front
  pub place : at ≡ length front
  pub id : step_of (events_of front) step.event ≡ i

-- the step is gone, and nothing else; it may be executed again, and then all is as it was, each
-- task's line too, and the histories are equivalent
pub record TakesBack (s : Seen) (i : StepId) (new : Seen) (removed : Removed) : Type 0 where
  pub free : IsFree s i
  pub cells : new.cells ≡ s.cells
  pub root_line : new.root_line ≡ s.root_line
  pub limit : new.limit ≡ s.limit
  pub steps : new.steps ≡ without_lines i s.steps
  pub rest : history new ≡ without i (history s)
  pub id : removed.id ≡ i
  pub again : MayFollow s.cells (history new) (record { task = i.task; action = removed.action })
  pub alike : Alike (history s) (record { task = i.task; action = removed.action } ∷ history new)
  pub equivalent : Equivalent (history s) (record { task = i.task; action = removed.action } ∷ history new)
  pub line : ℕ
  pub lines : (body : ℕ) (t : Name) → line_of body t s.steps ≡ line_of body t (record { event = record { task = i.task; action = removed.action }; to = line } ∷ new.steps)

-- when a step stays: memory is wanted for the name of what needs it alone, where that is long
abbrev pub Keeps : Seen → StepId → UndoRefusal → Type 0
Keeps s i NoSuchStep = IsFalse (stands i (history s))
Keeps s i (Needed by) = IsTrue (stands i (history s)) × (first_needer i (history s) ≡ Some by)
Keeps s i NoMemory = IsTrue (stands i (history s)) × ((by : StepId) × (first_needer i (history s) ≡ Some by) × IsLongName by.task)
Keeps s i JournalFull = ⊥

-- an undo by its answer; a refusal leaves the core as it was
abbrev pub Undone : Seen → StepId → Seen → Result Removed UndoRefusal → Type 0
Undone s i new (Ok removed) = TakesBack s i new removed
Undone s i new (Err e) = (new ≡ s) × Keeps s i e
