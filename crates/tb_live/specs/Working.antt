-- What a claim answers, and what it leaves.
use Rattle.std.specs.Prelude.{◌≡◌, ◌≢◌, ◌↔◌, ℕ, length, ◌||◌, Bool, Some, None, Result, Ok, Err, IsTrue, IsFalse}
use Rattle.tb_model.specs.Names.{Name}
use Rattle.tb_model.specs.Facts.{History, HasEnded, IsSpawned, own, is_spawned}
use Rattle.tb_model.specs.LeastNames.{IsLeastName}
use Rattle.tb_model.specs.Program.{Program, instr_at, situation}
use Rattle.tb_plan.specs.declared.config.Config.{Config}
use Rattle.tb_plan.specs.Plans.{instruction}
use Rattle.tb_read.specs.Meaning.{IsPosition}
use Rattle.tb_read.specs.Strips.{IsStripOf}
use Rattle.tb_next.specs.declared.work.Work.{Work}
use Rattle.tb_next.specs.declared.claim.Claim.{Claim}
use Rattle.tb_next.specs.declared.claim.Claim.TheVariants.{Work as Works, Later, Done, Stopped}
use Rattle.tb_next.specs.declared.offer.Offer.{Offer}
use Rattle.tb_next.specs.declared.offer.Offer.TheVariants.{Task, Later as LaterOn, Done as NoTask, Stopped as Halted}
use Rattle.tb_next.specs.declared.situated.Situated.{Situated}
use Rattle.tb_control.specs.declared.claim_refusal.ClaimRefusal.{ClaimRefusal}
use Rattle.tb_control.specs.declared.claim_refusal.ClaimRefusal.TheVariants.{Memory, NoSuchTask, Ended, Claimed}
use Rattle.tb_control.specs.Claims.{IsHeldBeside, IsFreeBeside}
use Rattle.tb_control.specs.Modes.{is_paused}
use Rattle.tb_live.specs.Session.{Session, history, is_full, with_seat}
use Rattle.tb_live.specs.Moves.{has_ended, least_task}
use Rattle.tb_next.specs.Plans.{CanTake}

-- the situation of a task after a history
abbrev pub configuration : Program → History → Name → Config
configuration P H t = record { task = t; steps = length (own t H); at = (situation P t H).line; regs = (situation P t H).regs }

-- the program's statement for the task, and its situation
pub record IsSituated (P : Program) (H : History) (t : Name) (n : Situated) : Type 0 where
  pub config : n.config ≡ configuration P H t
  pub line : n.instr.line ≡ n.config.at
  pub position : IsPosition P n.config.at
  pub instr : instruction n.instr ≡ instr_at P n.config.at
  pub cells : n.instr.cells ≡ length P.cells

-- the program's statement for the task, its situation, and the private statements around it
pub record IsWork (P : Program) (H : History) (t : Name) (w : Work) : Type 0 where
  pub config : w.config ≡ configuration P H t
  pub line : w.instr.line ≡ w.config.at
  pub position : IsPosition P w.config.at
  pub instr : instruction w.instr ≡ instr_at P w.config.at
  pub cells : w.instr.cells ≡ length P.cells
  pub strip : IsStripOf P w.config.at w.strip

-- ---- one task

-- the task is there, goes on, and no other seat claims it
pub record IsFree (s : Session) (seat : ℕ) (t : Name) : Type 0 where
  pub there : IsTrue (is_spawned (history s) t)
  pub going : IsFalse (has_ended s t)
  pub free : IsFreeBeside s.control.claims seat t

-- why the seat doesn't get the task: want of memory comes last
abbrev pub RefusesClaim : Session → ℕ → Name → ClaimRefusal → Type 0
RefusesClaim s seat t NoSuchTask = IsFalse (is_spawned (history s) t)
RefusesClaim s seat t Ended = IsTrue (is_spawned (history s) t) × IsTrue (has_ended s t)
RefusesClaim s seat t (Claimed other) = IsTrue (is_spawned (history s) t) × IsFalse (has_ended s t) × IsHeldBeside s.control.claims seat t other
RefusesClaim s seat t Memory = IsFree s seat t

-- the seat claims the task in place of its former one, whether the task can step or not
abbrev pub ClaimsTask : Session → ℕ → Name → Session → Result Work ClaimRefusal → Type 0
ClaimsTask s seat t new (Ok w) = IsFree s seat t × (new ≡ with_seat s seat (Some t)) × IsWork s.program (history s) t w
ClaimsTask s seat t new (Err e) = (new ≡ s) × RefusesClaim s seat t e

-- ---- the least task

-- the run is paused, or its journal is full
abbrev pub is_stopped : Session → Bool
is_stopped s = is_paused s.control.mode || is_full s

-- the seat's former claim is given up; it gets the least task that can step and that no other seat claims
abbrev pub ClaimsWork : Session → ℕ → Session → Claim → Type 0
ClaimsWork s seat new (Works w) =
    IsFalse (is_stopped s)
    × IsLeastName (CanTake s.program (history s) s.control.claims seat) (Some w.config.task)
    × (new ≡ with_seat s seat (Some w.config.task)) × IsWork s.program (history s) w.config.task w
ClaimsWork s seat new Later =
    IsFalse (is_stopped s) × IsLeastName (CanTake s.program (history s) s.control.claims seat) None × (least_task s ≢ None) × (new ≡ with_seat s seat None)
ClaimsWork s seat new Done = IsFalse (is_stopped s) × (least_task s ≡ None) × (new ≡ with_seat s seat None)
ClaimsWork s seat new Stopped = IsTrue (is_stopped s) × (new ≡ with_seat s seat None)

-- the claim that this offer says, but for the private statements
abbrev pub IsOffered : Session → ℕ → Session → Offer → Type 0
IsOffered s seat new (Task n) =
    IsFalse (is_stopped s)
    × IsLeastName (CanTake s.program (history s) s.control.claims seat) (Some n.config.task)
    × (new ≡ with_seat s seat (Some n.config.task)) × IsSituated s.program (history s) n.config.task n
IsOffered s seat new LaterOn = ClaimsWork s seat new Later
IsOffered s seat new NoTask = ClaimsWork s seat new Done
IsOffered s seat new Halted = ClaimsWork s seat new Stopped

-- each task that is there has ended or faulted
abbrev pub HaveAllEnded : Session → Type 0
HaveAllEnded s = (t : Name) → IsSpawned (history s) t → HasEnded (history s) t

-- where the run isn't stopped, that is so exactly where the claim says that all is done
abbrev pub SaysDone : Session → Claim → Type 0
SaysDone s claim = IsFalse (is_stopped s) → (claim ≡ Done) ↔ HaveAllEnded s

abbrev pub OffersDone : Session → Offer → Type 0
OffersDone s offer = IsFalse (is_stopped s) → (offer ≡ NoTask) ↔ HaveAllEnded s
