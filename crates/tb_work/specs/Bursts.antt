-- Plans that a seat commits one after another.
use Rattle.std.specs.Prelude.{ℕ, zero, suc, ◌≡◌, ◌↔◌, List, [], ◌∷◌, length, Option, Some, None, IfSome}
use Rattle.tb_model.specs.Program.{Program}
use Rattle.tb_plan.specs.declared.planned.Plan.{Plan}
use Rattle.tb_live.specs.declared.commit_refusal.CommitRefusal.{CommitRefusal}
use Rattle.tb_live.specs.Commits.{MayCommit, entry_to_come}
use Rattle.tb_live.specs.Session.{Session, with_entry, with_seat}
use Rattle.tb_work.specs.declared.burst.Burst.{Burst}
use Rattle.tb_work.specs.declared.refused.Refused.{Refused}
use Rattle.tb_work.specs.Changes.{Commits}
use Rattle.tb_work.specs.Receipts.{Seated}
use Rattle.tb_work.specs.Refusing.{RefusesPlan}

-- the first so many plans are the seat's newest receipts, one by one, at slots that follow one
-- another from this slot on
abbrev pub CommitsEach : Program → ℕ → ℕ → List Plan → Seated → Seated → Type 0
CommitsEach P zero place ps old new = new ≡ old
CommitsEach P (suc taken) place [] old new = ⊥
CommitsEach P (suc taken) place (p ∷ ps) old new = (mid : Seated) × Commits P p old mid place × CommitsEach P taken (suc place) ps mid new

-- as many as the burst says are committed, and all of them where none is refused
pub record CommitsBurst (P : Program) (plans : List Plan) (old new : Seated) (b : Burst) : Type 0 where
  pub place : ℕ
  pub each : CommitsEach P b.taken place plans old new
  pub whole : (b.refusal ≡ None) ↔ (b.taken ≡ length plans)

-- ---- the same of the run

-- the plan's step is executed for the seat, which claims the task still
abbrev pub stepped_on : ℕ → Session → Plan → Session
stepped_on seat s p = with_seat (with_entry s (entry_to_come seat s p)) seat (Some p.config.task)

-- the first so many plans may be committed, each after those in front of it, and lead from the one run to the other, which
-- refuses the next plan, if it is refused
abbrev pub TakesEach : ℕ → ℕ → List Plan → Option (Refused CommitRefusal) → Session → Session → Type 0
TakesEach seat zero [] o s last = last ≡ s
TakesEach seat zero (p ∷ ps) o s last = (last ≡ s) × IfSome o (RefusesPlan seat s p)
TakesEach seat (suc taken) [] o s last = ⊥
TakesEach seat (suc taken) (p ∷ ps) o s last = MayCommit s seat p × TakesEach seat taken ps o (stepped_on seat s p) last

-- so many plans are executed, and then the claim ends
pub record TakesBurst (seat : ℕ) (plans : List Plan) (b : Burst) (old new : Session) : Type 0 where
  pub last : Session
  pub each : TakesEach seat b.taken plans b.refusal old last
  pub ended : new ≡ with_seat last seat None

-- so many plans are executed, then the claim ends, and the seat's newest receipts are of their
-- entries, from the journal's next slot on
pub record BurstsBy (P : Program) (old seat : Seated) (plans : List Plan) (b : Burst) (s new : Session) : Type 0 where
  pub takes : TakesBurst old.number plans b s new
  pub each : CommitsEach P b.taken (length s.journal) plans old seat
