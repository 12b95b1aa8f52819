-- What a call answers under the lock.
use Rattle.std.specs.Prelude.{ℕ, ◌≡◌, ◌≤◌, List, length, take, Result, Ok, Err, None, Vec}
use Rattle.std.specs.declared.alloc.AllocError.{AllocError}
use Rattle.std.specs.declared.alloc.Global.{Global}
use Rattle.tb_model.specs.declared.entry.Entry.{Entry}
use Rattle.tb_model.specs.declared.entry.Entry.TheVariants.{Rolled}
use Rattle.tb_model.specs.declared.step_id.StepId.{StepId}
use Rattle.tb_model.specs.Journal.{Sound}
use Rattle.tb_model.specs.Names.{Name}
use Rattle.tb_model.specs.Program.{Program, LegalFor}
use Rattle.tb_plan.specs.declared.planned.Plan.{Plan}
use Rattle.tb_core.specs.declared.removed.Removed.{Removed}
use Rattle.tb_core.specs.declared.undo_refusal.UndoRefusal.{UndoRefusal}
use Rattle.tb_roll.specs.declared.roll_refusal.RollRefusal.{RollRefusal}
use Rattle.tb_next.specs.declared.claim.Claim.{Claim}
use Rattle.tb_next.specs.declared.offer.Offer.{Offer}
use Rattle.tb_control.specs.declared.claim_refusal.ClaimRefusal.{ClaimRefusal}
use Rattle.tb_control.specs.declared.mode.Mode.TheVariants.{Resumed}
use Rattle.tb_control.specs.Claims.{AreLawful}
use Rattle.tb_live.specs.declared.commit_refusal.CommitRefusal.{CommitRefusal}
use Rattle.tb_next.specs.declared.work.Work.{Work}
use Rattle.tb_live.specs.Breaks.{Points}
use Rattle.tb_live.specs.Commits.{MayCommit, entry_to_come}
use Rattle.tb_live.specs.Modes as modes
use Rattle.tb_live.specs.Moves.{RollsFor, UndoesFor}
use Rattle.tb_live.specs.Pauses.{with_mode}
use Rattle.tb_live.specs.Session.{Session, history, with_entry, with_seat}
use Rattle.tb_live.specs.Working.{ClaimsTask, ClaimsWork, IsOffered}
use Rattle.tb_work.specs.declared.refused.Refused.{Refused}
use Rattle.tb_work.specs.declared.why.Why.{Why}
use Rattle.tb_work.specs.Changes.{entries}
use Rattle.tb_work.specs.Going.{IsWhy}
use Rattle.tb_work.specs.Receipts.{Seated, Grew}
use Rattle.tb_work.specs.Refusing.{RefusesPlan, RefusesRoll, RefusesUndo}

-- what each run retains: its journal is sound and within its limit, the history that it leaves is
-- legal for the program, each claim is on a task that is there, and no task is claimed by two
pub record IsRun (s : Session) : Type 0 where
  pub sound : Sound s.program s.journal
  pub within : length s.journal ≤ s.limit
  pub legal : LegalFor s.program (history s)
  pub lawful : AreLawful (history s) s.control.claims

-- a run of the team: of this program, under this limit, with these breakpoints and so many seats, and with a journal that
-- begins so
pub record IsOfTeam (P : Program) (limit : ℕ) (points : Points) (seats : ℕ) (begun : List Entry) (s : Session) : Type 0 where
  pub program : s.program ≡ P
  pub limited : s.limit ≡ limit
  pub breakpoints : s.control.breakpoints ≡ points
  pub seated : length s.control.claims ≡ seats
  pub begins : take (length begun) (entries s) ≡ begun
  pub run : IsRun s

-- the answer is right for some run of the team, and for what the call left of it
pub record IsAnswer (P : Program) (limit : ℕ) (points : Points) (seats : ℕ) (begun : List Entry) (IsRight : Session → Session → Type 0) : Type 0 where
  pub old : Session
  pub new : Session
  pub team : IsOfTeam P limit points seats begun old
  pub right : IsRight old new

-- the run's newest entry is the seat's newest receipt, at the slot that the journal had next, which
-- is above its last one
abbrev pub Takes : Session → Entry → Seated → Seated → Type 0
Takes s entry old seat = Grew old seat (length s.journal) entry

-- a commit by its answer, the slot of its entry: the step ends the claim; a refusal changes nothing
abbrev pub CommitsBy : Seated → Seated → Plan → Result ℕ (Refused CommitRefusal) → Session → Session → Type 0
CommitsBy old seat p (Ok place) s new =
    MayCommit s old.number p × (place ≡ length s.journal) × (new ≡ with_entry s (entry_to_come old.number s p)) × Takes s (entry_to_come old.number s p) old seat
CommitsBy old seat p (Err r) s new = (new ≡ s) × (seat ≡ old) × RefusesPlan old.number s p r

-- a claim of the least task by its answer; want of memory changes nothing
abbrev pub ClaimsBy : ℕ → Result Claim AllocError → Session → Session → Type 0
ClaimsBy seat (Ok c) s new = ClaimsWork s seat new c
ClaimsBy seat (Err e) s new = new ≡ s

abbrev pub OffersBy : ℕ → Result Offer AllocError → Session → Session → Type 0
OffersBy seat (Ok o) s new = IsOffered s seat new o
OffersBy seat (Err e) s new = new ≡ s

-- a claim of this task by its answer
abbrev pub ClaimsOneBy : ℕ → Name → Result Work ClaimRefusal → Session → Session → Type 0
ClaimsOneBy seat t r s new = ClaimsTask s seat t new r

-- a rollback by its answer; a refusal changes nothing
abbrev pub RollsBy : Seated → Seated → StepId → Result (Vec Removed Global) (Refused RollRefusal) → Session → Session → Type 0
RollsBy old seat i (Ok removed) s new = RollsFor old.number s i new removed.items × Takes s (Rolled old.number i) old seat
RollsBy old seat i (Err r) s new = (new ≡ s) × (seat ≡ old) × RefusesRoll s i r

-- an undo by its answer; a refusal changes nothing
abbrev pub UndoesBy : Seated → Seated → StepId → Result Removed (Refused UndoRefusal) → Session → Session → Type 0
UndoesBy old seat i (Ok removed) s new = UndoesFor old.number s i new removed × Takes s (Rolled old.number i) old seat
UndoesBy old seat i (Err r) s new = (new ≡ s) × (seat ≡ old) × RefusesUndo old.number s i r

-- the seat's claim ends
abbrev pub LetsGo : ℕ → Session → Session → Type 0
LetsGo seat s new = new ≡ with_seat s seat None

-- the run is paused by a call, unless it was; goes on; goes on for so many steps
abbrev pub Pauses : Session → Session → Type 0
Pauses s new = new ≡ with_mode s (modes.paused s.control.mode)

abbrev pub Resumes : Session → Session → Type 0
Resumes s new = new ≡ with_mode s Resumed

abbrev pub ResumesFor : ℕ → Session → Session → Type 0
ResumesFor steps s new = new ≡ with_mode s (modes.counting steps)

-- the run says why it executes no step, and stays as it is
abbrev pub Tells : Why → Session → Session → Type 0
Tells w s new = (new ≡ s) × IsWhy s w
