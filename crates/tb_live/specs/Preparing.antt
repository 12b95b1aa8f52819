-- What is prepared for the next change, and the capacity that is made for it.
use Rattle.std.specs.Prelude.{◌≡◌, ◌<◌, ℕ, List, Option, Some, None, IsTrue, IsFalse, ⊤}
use Rattle.tb_model.specs.declared.entry.Entry.{Entry}
use Rattle.tb_model.specs.declared.entry.Entry.TheVariants.{Stepped, Rolled}
use Rattle.tb_model.specs.declared.event.Event.{Event}
use Rattle.tb_model.specs.declared.step_id.StepId.{StepId}
use Rattle.tb_model.specs.Equivalent.{stands}
use Rattle.tb_model.specs.Names.{Name}
use Rattle.tb_model.specs.Hindrances.{next_event}
use Rattle.tb_model.specs.Program.{Program}
use Rattle.tb_plan.specs.declared.planned.Plan.{Plan}
use Rattle.tb_core.specs.Outcomes.{IsOpen, event_of}
use Rattle.tb_core.specs.Rolled.{IsOfHistory}
use Rattle.tb_core.specs.Seen.{Held, history}
use Rattle.tb_roll.specs.declared.readied.Ready.{Ready}
use Rattle.tb_live.specs.declared.prepared.Prepared.{Prepared}
use Rattle.tb_live.specs.declared.prepared.Prepared.TheVariants.{Step, Roll}
use Rattle.tb_live.specs.Entering.{has_no_place}

-- the entry to come
abbrev pub entry_of : Prepared → Entry
entry_of (Step seat v) = Stepped seat v
entry_of (Roll seat i ready) = Rolled seat i

-- a step of the task by the seat is prepared
abbrev pub HoldsStep : Option Prepared → ℕ → Name → Type 0
HoldsStep (Some (Step whose v)) seat t = (whose ≡ seat) × (v.task ≡ t)
HoldsStep _ seat t = ⊥

-- the rollback of the step by the seat is prepared
abbrev pub HoldsRoll : Option Prepared → ℕ → StepId → Type 0
HoldsRoll (Some (Roll whose i ready)) seat j = (whose ≡ seat) × (i ≡ j)
HoldsRoll _ seat j = ⊥

-- the event of the step that is prepared
abbrev pub held_event : Option Prepared → Option Event
held_event (Some (Step seat v)) = Some v
held_event _ = None

-- the step whose rollback is prepared, twice named
abbrev pub held_names : Option Prepared → Option (StepId × StepId)
held_names (Some (Roll seat i ready)) = Some (i, ready.rollback.step)
held_names _ = None

-- the rollback that is prepared
abbrev pub held_roll : Option Prepared → Option (StepId × Ready)
held_roll (Some (Roll seat i ready)) = Some (i, ready)
held_roll _ = None

-- so many slots of the journal are free, and the plan's event may be executed without memory
pub record IsReadied (limit : ℕ) (core : Held) (p : Plan) (entries : List Entry) (spare : ℕ) (v : Event) : Type 0 where
  pub is_open : IsOpen core.run p
  pub event : v ≡ event_of core.run p
  pub reserved : core.reserved ≡ Some v
  pub room : IsFalse (has_no_place limit entries)
  pub free : 0 < spare

-- the step and all that need it may be taken back without memory
pub record IsRollReadied (limit : ℕ) (core : Held) (i : StepId) (entries : List Entry) (spare : ℕ) (ready : Ready) : Type 0 where
  pub stands : IsTrue (stands i (history core.run))
  pub step : ready.rollback.step ≡ i
  pub readied : IsOfHistory (history core.run) ready.rollback
  pub room : IsFalse (has_no_place limit entries)
  pub free : 0 < spare

-- the rollback of the step is prepared, under two of its names, and a slot of the journal is free
abbrev pub MayRoll : ℕ → StepId → Option Prepared → Type 0
MayRoll spare i o = (0 < spare) × (held_names o ≡ Some (i, i))

-- the event is the next of its task
pub record HasStepRoom (limit : ℕ) (P : Program) (core : Held) (entries : List Entry) (spare : ℕ) (v : Event) : Type 0 where
  pub next : v ≡ next_event P (history core.run) v.task
  pub reserved : core.reserved ≡ Some v
  pub room : IsFalse (has_no_place limit entries)
  pub free : 0 < spare

-- what is prepared still serves
abbrev pub HasRoom : ℕ → Program → Held → List Entry → ℕ → Option Prepared → Type 0
HasRoom limit P core entries spare None = ⊤
HasRoom limit P core entries spare (Some (Step seat v)) = HasStepRoom limit P core entries spare v
HasRoom limit P core entries spare (Some (Roll seat i ready)) = IsRollReadied limit core i entries spare ready
