-- When a plan is committed, and what that leaves.
use Rattle.std.specs.Prelude.{◌≡◌, ◌≢◌, ◌<◌, ℕ, length, Some, None, Result, Ok, Err, IsTrue, IsFalse}
use Rattle.tb_model.specs.declared.entry.Entry.{Entry}
use Rattle.tb_model.specs.declared.entry.Entry.TheVariants.{Stepped}
use Rattle.tb_model.specs.declared.step_id.StepId.{StepId}
use Rattle.tb_model.specs.Facts.{is_spawned}
use Rattle.tb_model.specs.Hindrances.{Hindrance, By}
use Rattle.tb_plan.specs.declared.planned.Plan.{Plan}
use Rattle.tb_core.specs.declared.step_refusal.StepRefusal.{StepRefusal}
use Rattle.tb_core.specs.declared.step_refusal.StepRefusal.TheVariants.{Memory, NoSuchTask, Ended, Stale}
use Rattle.tb_core.specs.Naming.{IsLong}
use Rattle.tb_live.specs.declared.commit_refusal.CommitRefusal.{CommitRefusal}
use Rattle.tb_live.specs.declared.commit_refusal.CommitRefusal.TheVariants.{Paused, Withdrawn, Step}
use Rattle.tb_control.specs.Claims.{claim_of}
use Rattle.tb_control.specs.Modes.{is_paused}
use Rattle.tb_live.specs.Session.{Session, Held, history, is_full, with_seat}
use Rattle.tb_live.specs.Moves.{MayStep, StepsFor, Refuses, has_ended, coming, refusal_for}
use Rattle.tb_next.specs.Plans.{IsOfProgram}
use Rattle.tb_live.specs.Working.{configuration}

-- the run goes on, and the seat claims the plan's task
pub record IsClaimed (s : Session) (seat : ℕ) (p : Plan) : Type 0 where
  pub going : IsFalse (is_paused s.control.mode)
  pub claims : claim_of s.control.claims seat ≡ Some p.config.task

-- the plan is the program's for the task's situation
pub record IsUpToDate (s : Session) (p : Plan) : Type 0 where
  pub program : IsOfProgram s.program p.instr
  pub here : p.config ≡ configuration s.program (history s) p.config.task

-- the run goes on, the seat claims the plan's task, which is there and goes on, and the plan is one of the program
pub record IsOffered (s : Session) (seat : ℕ) (p : Plan) : Type 0 where
  pub claimed : IsClaimed s seat p
  pub spawned : IsTrue (is_spawned (history s) p.config.task)
  pub going : IsFalse (has_ended s p.config.task)
  pub program : IsOfProgram s.program p.instr

-- the step of the plan may be executed by the seat
pub record MayCommit (s : Session) (seat : ℕ) (p : Plan) : Type 0 where
  pub claimed : IsClaimed s seat p
  pub up_to_date : IsUpToDate s p
  pub may : MayStep s p.config.task

-- the entry that the commit would make
abbrev pub entry_to_come : ℕ → Session → Plan → Entry
entry_to_come seat s p = Stepped seat (coming s p.config.task)

-- what blocks the plan's step of the task; a plan that isn't up to date is stale, before anything
-- is in the task's way; memory may be wanted for the situation of a stale plan and for a name of
-- more than three ordinals, and else only where the journal has a slot
abbrev pub RefusesPlan : Session → Plan → StepRefusal → Type 0
RefusesPlan s p NoSuchTask = Refuses s p.config.task NoSuchTask
RefusesPlan s p Ended = Refuses s p.config.task Ended
RefusesPlan s p (Stale now) =
    IsTrue (is_spawned (history s) p.config.task) × IsFalse (has_ended s p.config.task)
    × (now ≡ configuration s.program (history s) p.config.task) × (IsUpToDate s p → ⊥)
RefusesPlan s p Memory =
    IsTrue (is_spawned (history s) p.config.task) × IsFalse (has_ended s p.config.task)
    × (IsUpToDate s p → refusal_for s p.config.task ≡ None → IsFalse (is_full s))
    × ((h : Hindrance) → IsUpToDate s p → refusal_for s p.config.task ≡ Some (By h) → IsLong h)
RefusesPlan s p e = IsUpToDate s p × Refuses s p.config.task e

-- why a plan isn't committed: a pause comes first, then a claim that isn't there
abbrev pub RefusesCommit : Session → ℕ → Plan → CommitRefusal → Type 0
RefusesCommit s seat p Paused = IsTrue (is_paused s.control.mode)
RefusesCommit s seat p Withdrawn = IsFalse (is_paused s.control.mode) × (claim_of s.control.claims seat ≢ Some p.config.task)
RefusesCommit s seat p (Step e) = IsClaimed s seat p × RefusesPlan s p e

-- the step is executed, and its entry is at the slot
pub record IsCommitted (seat : ℕ) (s : Session) (p : Plan) (new : Session) (at : ℕ) : Type 0 where
  pub may : MayCommit s seat p
  pub place : at ≡ length s.journal
  pub step : StepId
  pub steps : StepsFor seat s p.config.task new step

-- a commit by its answer, the slot of its entry; a refusal changes nothing
abbrev pub Commits : ℕ → Session → Plan → Session → Result ℕ CommitRefusal → Type 0
Commits seat s p new (Ok place) = IsCommitted seat s p new place
Commits seat s p new (Err e) = (new ≡ s) × RefusesCommit s seat p e

-- the step is executed as by a commit, and the seat claims the task still
pub record IsCommittedOn (seat : ℕ) (s : Session) (p : Plan) (new : Session) (at : ℕ) : Type 0 where
  pub ended : Session
  pub committed : IsCommitted seat s p ended at
  pub claims : new ≡ with_seat ended seat (Some p.config.task)

-- a commit after which the seat claims the task still, by its answer, the slot of its entry; a
-- refusal changes nothing
abbrev pub CommitsMore : ℕ → Session → Plan → Session → Result ℕ CommitRefusal → Type 0
CommitsMore seat s p new (Ok place) = IsCommittedOn seat s p new place
CommitsMore seat s p new (Err e) = (new ≡ s) × RefusesCommit s seat p e

-- the commit may come, and its entry is the one that is prepared
pub record IsPrepared (seat : ℕ) (held : Held) (p : Plan) (e : Entry) : Type 0 where
  pub may : MayCommit held.session seat p
  pub entry : e ≡ entry_to_come seat held.session p
  pub prepared : held.prepared ≡ Some e
  pub place : length held.session.journal < 1000000
