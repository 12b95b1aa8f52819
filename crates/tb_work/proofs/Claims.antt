-- What claims and pauses leave.
use Rattle.std.proofs.Common.{ℕ, ◌≡◌, ap, length, length-set, ◌∙◌, Option, Result, Ok, Err, IfOk, OnErr}
use Rattle.std.specs.declared.alloc.AllocError.{AllocError}
use Rattle.tb_model.specs.Names.{Name}
use Rattle.tb_next.specs.declared.work.Work.{Work}
use Rattle.tb_next.specs.declared.claim.Claim.{Claim}
use Rattle.tb_next.specs.declared.claim.Claim.TheVariants.{Work as Works, Later, Done, Stopped}
use Rattle.tb_control.specs.declared.claim_refusal.ClaimRefusal.{ClaimRefusal}
use Rattle.tb_control.specs.declared.mode.Mode.{Mode}
use Rattle.tb_live.specs.Session.{Session, Held, with_seat}
use Rattle.tb_live.specs.Pauses.{with_mode}
use Rattle.tb_next.specs.declared.offer.Offer.{Offer}
use Rattle.tb_next.specs.declared.offer.Offer.TheVariants.{Task, Later as LaterOn, Done as NoTask, Stopped as Halted}
use Rattle.tb_live.specs.Working.{ClaimsTask, ClaimsWork, IsOffered}
use Rattle.tb_work.specs.Claiming.{IsWorkFor, IsClaim, IsOffer, Keeps}

pub keeps_same : (s new : Session) → new ≡ s → Keeps s new
keeps_same s new is = record {
  program = ap (λ t. t.program) is;
  limit = ap (λ t. t.limit) is;
  journal = ap (λ t. t.journal) is;
  breakpoints = ap (λ t. t.control.breakpoints) is;
  seats = ap (λ t. length t.control.claims) is;
}

pub keeps_seat : (s new : Session) (seat : ℕ) (claim : Option Name) → new ≡ with_seat s seat claim → Keeps s new
keeps_seat s new seat claim is = record {
  program = ap (λ t. t.program) is;
  limit = ap (λ t. t.limit) is;
  journal = ap (λ t. t.journal) is;
  breakpoints = ap (λ t. t.control.breakpoints) is;
  seats = ap (λ t. length t.control.claims) is ∙ length-set s.control.claims seat claim;
}

pub keeps_mode : (s new : Session) (m : Mode) → new ≡ with_mode s m → Keeps s new
keeps_mode s new m is = record {
  program = ap (λ t. t.program) is;
  limit = ap (λ t. t.limit) is;
  journal = ap (λ t. t.journal) is;
  breakpoints = ap (λ t. t.control.breakpoints) is;
  seats = ap (λ t. length t.control.claims) is;
}

keeps_work : (s new : Session) (seat : ℕ) (c : Claim) → ClaimsWork s seat new c → Keeps s new
keeps_work s new seat (Works w) h = keeps_seat s new seat _ h.2
keeps_work s new seat Later h = keeps_seat s new seat _ h.3
keeps_work s new seat Done h = keeps_seat s new seat _ h.2
keeps_work s new seat Stopped h = keeps_seat s new seat _ h.1

-- a refusal that retains all retains the session
pub session_kept : (old new : Held) (r : Result Claim AllocError) → OnErr r (new ≡ old) → OnErr r (new.session ≡ old.session)
session_kept old new (Ok c) e = tt
session_kept old new (Err x) e = ap (λ (h : Held). h.session) e

pub keeps_claim : (s new : Session) (seat : ℕ) (r : Result Claim AllocError) → IfOk r (ClaimsWork s seat new) → OnErr r (new ≡ s) → Keeps s new
keeps_claim s new seat (Ok c) h err = keeps_work s new seat c h
keeps_claim s new seat (Err e) h err = keeps_same s new err

is_claim : (s new : Session) (seat : ℕ) (c : Claim) → ClaimsWork s seat new c → IsClaim s.program c
is_claim s new seat (Works w) h = record { line = h.3.line; history = _; work = h.3 }
is_claim s new seat Later h = tt
is_claim s new seat Done h = tt
is_claim s new seat Stopped h = tt

pub claim_is : (s new : Session) (seat : ℕ) (r : Result Claim AllocError) → IfOk r (ClaimsWork s seat new) → IfOk r (IsClaim s.program)
claim_is s new seat (Ok c) h = is_claim s new seat c h
claim_is s new seat (Err e) h = tt

keeps_offered : (s new : Session) (seat : ℕ) (o : Offer) → IsOffered s seat new o → Keeps s new
keeps_offered s new seat (Task n) h = keeps_seat s new seat _ h.2
keeps_offered s new seat LaterOn h = keeps_work s new seat Later h
keeps_offered s new seat NoTask h = keeps_work s new seat Done h
keeps_offered s new seat Halted h = keeps_work s new seat Stopped h

pub offer_kept : (old new : Held) (r : Result Offer AllocError) → OnErr r (new ≡ old) → OnErr r (new.session ≡ old.session)
offer_kept old new (Ok o) e = tt
offer_kept old new (Err x) e = ap (λ (h : Held). h.session) e

pub keeps_offer : (s new : Session) (seat : ℕ) (r : Result Offer AllocError) → IfOk r (IsOffered s seat new) → OnErr r (new ≡ s) → Keeps s new
keeps_offer s new seat (Ok o) h err = keeps_offered s new seat o h
keeps_offer s new seat (Err e) h err = keeps_same s new err

is_offer : (s new : Session) (seat : ℕ) (o : Offer) → IsOffered s seat new o → IsOffer s.program o
is_offer s new seat (Task n) h = record { line = h.3.line; history = _; situated = h.3 }
is_offer s new seat LaterOn h = tt
is_offer s new seat NoTask h = tt
is_offer s new seat Halted h = tt

pub offer_is : (s new : Session) (seat : ℕ) (r : Result Offer AllocError) → IfOk r (IsOffered s seat new) → IfOk r (IsOffer s.program)
offer_is s new seat (Ok o) h = is_offer s new seat o h
offer_is s new seat (Err e) h = tt

pub keeps_task : (s new : Session) (seat : ℕ) (t : Name) (r : Result Work ClaimRefusal) → ClaimsTask s seat t new r → Keeps s new
keeps_task s new seat t (Ok w) h = keeps_seat s new seat _ h.1
keeps_task s new seat t (Err e) h = keeps_same s new h.0

pub task_is : (s new : Session) (seat : ℕ) (t : Name) (r : Result Work ClaimRefusal) → ClaimsTask s seat t new r → IfOk r (IsWorkFor s.program t)
task_is s new seat t (Ok w) h = record { line = h.2.line; history = _; work = h.2 }
task_is s new seat t (Err e) h = tt
