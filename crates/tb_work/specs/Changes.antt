-- What a change of a seat leaves in its hands.
use Rattle.std.specs.Prelude.{ℕ, ℤ, ◌≡◌, List, reverse}
use Rattle.tb_model.specs.declared.entry.Entry.{Entry}
use Rattle.tb_model.specs.declared.entry.Entry.TheVariants.{Stepped, Rolled}
use Rattle.tb_model.specs.declared.event.Event.{Event}
use Rattle.tb_model.specs.declared.step_id.StepId.{StepId}
use Rattle.tb_model.specs.Program.{Program, action_of}
use Rattle.tb_plan.specs.declared.planned.Plan.{Plan}
use Rattle.tb_live.specs.Session.{Session}
use Rattle.tb_work.specs.Receipts.{Seated, Grew}

-- the journal from its oldest entry on
abbrev pub entries : Session → List Entry
entries s = reverse s.journal

-- the event is the plan's, for some value that a load reads and for some ordinal of a spawned child
pub record IsPlanned (P : Program) (p : Plan) (v : Event) : Type 0 where
  pub task : v.task ≡ p.config.task
  pub child : ℕ
  pub number : ℤ
  pub action : v.action ≡ action_of P.cells p.config.task child p.config.regs number p.instr.statement

-- the plan's event is the seat's newest receipt
pub record Commits (P : Program) (p : Plan) (old new : Seated) (place : ℕ) : Type 0 where
  pub event : Event
  pub planned : IsPlanned P p event
  pub grew : Grew old new place (Stepped old.number event)

-- the rollback of the step is the seat's newest receipt
abbrev pub RollsBack : StepId → Seated → Seated → Type 0
RollsBack i old new = (place : ℕ) × Grew old new place (Rolled old.number i)
