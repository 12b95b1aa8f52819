-- The plan of a task's next step by the program, and the work of whoever asks for it.
use Rattle.std.specs.Prelude.{◌≡◌, ◌≢◌, ℕ, length, Option, Some, None, IsSomeAnd, IsTrue, IsFalse, ⊤}
use Rattle.tb_model.specs.Names.{Name}
use Rattle.tb_model.specs.Facts.{History, is_spawned}
use Rattle.tb_model.specs.Program.{Program, instr_at}
use Rattle.tb_model.specs.Hindrances.{can_step, in_the_way, least_ready, refusal_of}
use Rattle.tb_model.specs.LeastNames.{IsLeastName}
use Rattle.tb_plan.specs.declared.instr.Instr.{Instr}
use Rattle.tb_plan.specs.declared.planned.Plan.{Plan}
use Rattle.tb_plan.specs.Plans.{instruction, line_behind}
use Rattle.tb_read.specs.Meaning.{IsPosition}
use Rattle.tb_read.specs.Strips.{IsStripOf}
use Rattle.tb_core.specs.declared.step_refusal.StepRefusal.{StepRefusal}
use Rattle.tb_core.specs.declared.step_refusal.StepRefusal.TheVariants.{Memory, NoSuchTask, Ended, Full, Stale}
use Rattle.tb_core.specs.Refusals.{told_by}
use Rattle.tb_core.specs.Seen.{Seen, history}
use Rattle.tb_core.specs.Situation.{config_of}
use Rattle.tb_next.specs.declared.offer.Offer.{Offer}
use Rattle.tb_next.specs.declared.offer.Offer.TheVariants.{Task, Later, Done, Stopped}
use Rattle.tb_next.specs.declared.situated.Situated.{Situated}
use Rattle.tb_next.specs.declared.work.Work.{Work}
use Rattle.tb_next.specs.declared.coming.Coming.{Coming}
use Rattle.tb_control.specs.declared.claim_refusal.ClaimRefusal.{ClaimRefusal}
use Rattle.tb_control.specs.declared.claim_refusal.ClaimRefusal.TheVariants.{Memory as NoMemory, NoSuchTask as NoTask, Ended as Over, Claimed}
use Rattle.tb_control.specs.Claims.{Claims, IsHeldBeside, IsFreeBeside}
use Rattle.tb_core.specs.Outcomes.{Fits, IsCurrent, has_ended}

-- the instruction is the program's at its line
pub record IsOfProgram (P : Program) (i : Instr) : Type 0 where
  pub position : IsPosition P i.line
  pub instr : instruction i ≡ instr_at P i.line
  pub cells : i.cells ≡ length P.cells

-- the plan is the program's for the task's situation, and the task goes on
pub record IsPlanOf (P : Program) (run : Seen) (t : Name) (p : Plan) : Type 0 where
  pub of_task : p.config.task ≡ t
  pub current : IsCurrent run p
  pub instr : instruction p.instr ≡ instr_at P p.config.at
  pub fits : Fits run p

-- why a task has no plan
abbrev pub HasNone : Seen → Name → StepRefusal → Type 0
HasNone run t NoSuchTask = IsFalse (is_spawned (history run) t)
HasNone run t Ended = IsTrue (is_spawned (history run) t) × IsTrue (has_ended run t)
HasNone run t Memory = IsTrue (is_spawned (history run) t) × IsFalse (has_ended run t)
HasNone run t _ = ⊥

-- the refusal says what blocks a task's next step by the definitions, a full journal aside
abbrev pub IsRefusalTo : Program → Seen → Name → StepRefusal → Type 0
IsRefusalTo P run t e = IsSomeAnd (told_by e) (λ told. refusal_of P (history run) t ≡ Some told)

abbrev pub IsRefusalOf : Program → Seen → Name → Option StepRefusal → Type 0
IsRefusalOf P run t None = refusal_of P (history run) t ≡ None
IsRefusalOf P run t (Some e) = IsRefusalTo P run t e

-- what is said of a refusal
abbrev pub IsTold : StepRefusal → Option StepRefusal → Type 0
IsTold e None = e ≡ Full
IsTold e (Some told) = (told ≡ e) × (e ≢ Full) × (e ≢ Memory)

-- what comes is the plan's action for this task, with the lines at which the task is and at which
-- it is left, and its steps
pub record IsStepOf (t : Name) (m : Coming) (p : Plan) : Type 0 where
  pub task : p.config.task ≡ t
  pub action : p.action ≡ m.action
  pub at : p.config.at ≡ m.at
  pub to : line_behind p.instr p.config p.action ≡ m.to
  pub steps : p.config.steps ≡ m.steps

-- what comes is what the program's plan of the task's next step says
pub record IsComing (P : Program) (run : Seen) (t : Name) (m : Coming) : Type 0 where
  pub plan : Plan
  pub of_task : IsPlanOf P run t plan
  pub says : IsStepOf t m plan

-- what comes is what a plan for the task's situation says
pub record IsNext (run : Seen) (t : Name) (m : Coming) : Type 0 where
  pub plan : Plan
  pub says : IsStepOf t m plan
  pub fits : Fits run plan
  pub current : IsCurrent run plan

-- what comes is what a plan for the task's situation says, and nothing blocks it
pub record IsClear (run : Seen) (t : Name) (m : Coming) : Type 0 where
  pub next : IsNext run t m
  pub clear : in_the_way (history run) t m.action ≡ None

-- the least task that can step with what it does, and None where no task can
abbrev pub IsLeastComing : Program → Seen → Option (Name × Coming) → Type 0
IsLeastComing P run None = least_ready P (history run) ≡ None
IsLeastComing P run (Some r) = IsComing P run r.0 r.1 × (least_ready P (history run) ≡ Some r.0)

-- ---- claims

-- the program's statement for the task's situation
pub record IsSituatedOf (P : Program) (run : Seen) (t : Name) (n : Situated) : Type 0 where
  pub config : n.config ≡ config_of run t
  pub line : n.instr.line ≡ n.config.at
  pub position : IsPosition P n.config.at
  pub instr : instruction n.instr ≡ instr_at P n.config.at
  pub cells : n.instr.cells ≡ length P.cells

-- the program's statement for the task's situation, and the private statements around it
pub record IsWorkOf (P : Program) (run : Seen) (t : Name) (w : Work) : Type 0 where
  pub config : w.config ≡ config_of run t
  pub line : w.instr.line ≡ w.config.at
  pub position : IsPosition P w.config.at
  pub instr : instruction w.instr ≡ instr_at P w.config.at
  pub cells : w.instr.cells ≡ length P.cells
  pub strip : IsStripOf P w.config.at w.strip

-- why a seat can't claim the task
abbrev pub IsBarred : Seen → Claims → ℕ → Name → ClaimRefusal → Type 0
IsBarred run claims seat t NoTask = IsFalse (is_spawned (history run) t)
IsBarred run claims seat t Over = IsTrue (is_spawned (history run) t) × IsTrue (has_ended run t)
IsBarred run claims seat t (Claimed other) = IsTrue (is_spawned (history run) t) × IsFalse (has_ended run t) × IsHeldBeside claims seat t other
IsBarred run claims seat t NoMemory = ⊥

-- the task is there, goes on, and no other seat claims it
pub record IsUnbarred (run : Seen) (claims : Claims) (seat : ℕ) (t : Name) : Type 0 where
  pub there : IsTrue (is_spawned (history run) t)
  pub going : IsFalse (has_ended run t)
  pub free : IsFreeBeside claims seat t

-- the task can step, and no other seat claims it
abbrev pub CanTake : Program → History → Claims → ℕ → Name → Type 0
CanTake P H claims seat t = IsTrue (can_step P H t) × IsFreeBeside claims seat t

-- the answer is the task with its statement
abbrev pub IsOfferOn : Program → Seen → Name → Offer → Type 0
IsOfferOn P run t (Task n) = IsSituatedOf P run t n
IsOfferOn P run t _ = ⊥

-- the least task that can step and that no other seat claims; else only tasks that others claim can step, or none can
abbrev pub IsFound : Program → Seen → Claims → ℕ → Offer → Type 0
IsFound P run claims seat (Task n) = IsLeastName (CanTake P (history run) claims seat) (Some n.config.task) × IsSituatedOf P run n.config.task n
IsFound P run claims seat Later = IsLeastName (CanTake P (history run) claims seat) None × (least_ready P (history run) ≢ None)
IsFound P run claims seat Done = least_ready P (history run) ≡ None
IsFound P run claims seat Stopped = ⊥

-- the task that is offered
abbrev pub claimed : Offer → Option Name
claimed (Task n) = Some n.config.task
claimed _ = None

-- ---- a plan that was made at some time

-- why a plan isn't one of the program for a task that is there and goes on
abbrev pub IsForeign : Program → Seen → Plan → StepRefusal → Type 0
IsForeign P run p NoSuchTask = IsFalse (is_spawned (history run) p.config.task)
IsForeign P run p Ended = IsTrue (is_spawned (history run) p.config.task) × IsTrue (has_ended run p.config.task)
IsForeign P run p (Stale now) =
    IsTrue (is_spawned (history run) p.config.task) × IsFalse (has_ended run p.config.task)
    × (now ≡ config_of run p.config.task) × (IsOfProgram P p.instr → ⊥)
IsForeign P run p Memory = IsTrue (is_spawned (history run) p.config.task) × IsFalse (has_ended run p.config.task) × (IsOfProgram P p.instr → ⊥)
IsForeign P run p _ = ⊥

-- the plan is of the program, for a task that is there and goes on, be it up to date or not
pub record IsNative (P : Program) (run : Seen) (p : Plan) : Type 0 where
  pub spawned : IsTrue (is_spawned (history run) p.config.task)
  pub going : IsFalse (has_ended run p.config.task)
  pub program : IsOfProgram P p.instr

-- where the task is now
abbrev pub IsStaleAnswer : Seen → Name → StepRefusal → Type 0
IsStaleAnswer run t (Stale now) = now ≡ config_of run t
IsStaleAnswer run t Memory = ⊤
IsStaleAnswer run t _ = ⊥
