-- A seat that goes on with its task after a commit.
use Rattle.std.proofs.Common.{◌≡◌, ◌<◌, ℕ, zero, suc, List, [], ◌∷◌, Bool, true, set, length, reverse, refl, sym, ap, ◌∙◌, subst, Some, None, Option, arith}
use Rattle.std.specs.Prelude.{Result, Ok, Err}
use Rattle.std.proofs.lemmas.List.{map-set, set-get_or, length-map, length-set, reverse-append}
use Rattle.tb_model.specs.declared.entry.Entry.{Entry}
use Rattle.tb_model.specs.declared.entry.Entry.TheVariants.{Stepped}
use Rattle.tb_model.specs.declared.step_id.StepId.{StepId}
use Rattle.tb_model.specs.Names.{Name, same_name}
use Rattle.tb_model.specs.Facts.{is_spawned, IsSpawned}
use Rattle.tb_model.specs.Journal.{hist}
use Rattle.tb_model.specs.Program.{Program}
use Rattle.tb_plan.specs.declared.planned.Plan.{Plan}
use Rattle.tb_core.specs.declared.step_refusal.StepRefusal.{StepRefusal}
use Rattle.tb_core.specs.Outcomes.{event_of}
use Rattle.tb_core.specs.Seen.{Seen}
use Rattle.tb_core.specs.Seen as core
use Rattle.tb_control.specs.declared.control.Control.{Control}
use Rattle.tb_live.specs.declared.commit_refusal.CommitRefusal.{CommitRefusal}
use Rattle.tb_control.specs.Claims.{Claims, claim_of, with_claim, withdrawn, unless, AreLawful, IsFreeBeside}
use Rattle.tb_live.specs.Commits.{CommitsMore, IsClaimed, IsCommittedOn, MayCommit, entry_to_come}
use Rattle.tb_control.specs.Controls.{behind_step}
use Rattle.tb_live.specs.Entering.{Enters, EntersOn}
use Rattle.tb_next.specs.Floor.{IsCarried, IsFloor}
use Rattle.tb_next.specs.Plans.{IsNative}
use Rattle.tb_live.specs.Session.{Session, with_entry, with_seat}
use Rattle.tb_live.specs.Soundness.{IsSound, IsLawful}
use Rattle.tb_live.proofs.CommitLemmas.{as_commit, live_commits}
use Rattle.tb_control.proofs.ControlLemmas.{left, lawful_given, still_spawned}
use Rattle.tb_live.proofs.FloorAfterLemmas.{floor_committed}
use Rattle.tb_live.proofs.RunLemmas.{shown}
use Rattle.tb_live.proofs.StepLemmas.{Keeps}
use Rattle.tb_live.proofs.WorkLemmas.{with_claims}

-- ---- a claim that is set aside and given back

pub set_again : {A : Type 0} (xs : List A) (i : ℕ) (x y : A) → set (set xs i x) i y ≡ set xs i y
set_again [] i x y = refl
set_again (z ∷ xs) zero x y = refl
set_again (z ∷ xs) (suc i) x y = ap (λ ys. z ∷ ys) (set_again xs i x y)

pub given_back : (claims : Claims) (seat : ℕ) (o : Option Name) → claim_of claims seat ≡ o → with_claim (with_claim claims seat None) seat o ≡ claims
given_back claims seat o e = set_again claims seat None o ∙ ap (set claims seat) (sym e) ∙ set-get_or claims seat None

-- the claim on the task is withdrawn at its seat alone, and given back
pub given_behind : (p : Name → Bool) (claims : Claims) (seat : ℕ) (o : Option Name) → with_claim (withdrawn p (with_claim claims seat None)) seat o ≡ with_claim (withdrawn p claims) seat o
given_behind p claims seat o = ap (λ cs. set cs seat o) (map-set (unless p) claims seat None) ∙ set_again (withdrawn p claims) seat None o

pub claimed_within : (claims : Claims) (seat : ℕ) (t : Name) → claim_of claims seat ≡ Some t → seat < length claims
claimed_within [] seat t e = absurd cc
claimed_within (c ∷ claims) zero t e = omega arith
claimed_within (c ∷ claims) (suc seat) t e = omega (arith, claimed_within claims seat t e)

-- ---- a planned step in between

pub entered_on : (limit seat : ℕ) (run : Seen) (p : Plan) (new : Seen) (old entries : List Entry) (before mid after : Control) (left : Claims) (o : Option Name) (r : Result StepId StepRefusal) → claim_of before.claims seat ≡ Some p.config.task
    → o ≡ claim_of before.claims seat → left ≡ with_claim before.claims seat None → Enters limit seat run p new old entries (with_claims before left) mid r → after ≡ with_claims mid (with_claim mid.claims seat o) → EntersOn limit seat run p new old entries before after r
entered_on limit seat run p new old entries before mid after left o (Ok i) claims taken aside e given =
    let v = event_of run p in
    let name : o ≡ Some p.config.task = taken ∙ claims in
    let so : mid ≡ behind_step p.config.at v (with_claims before (with_claim before.claims seat None)) = e.2 ∙ ap (λ cs. behind_step p.config.at v (with_claims before cs)) aside in
    let back : with_claim mid.claims seat o ≡ with_claim (withdrawn (same_name v.task) before.claims) seat (Some p.config.task) =
    ap (λ (m : Control). with_claim m.claims seat o) so ∙ given_behind (same_name v.task) before.claims seat o ∙ ap (with_claim (withdrawn (same_name v.task) before.claims) seat) name in
    (e.0, e.1, given ∙ ap (with_claims mid) back ∙ ap (λ (m : Control). with_claims m (with_claim (withdrawn (same_name v.task) before.claims) seat (Some p.config.task))) so)
entered_on limit seat run p new old entries before mid after left o (Err r) claims taken aside e given =
    let so : mid ≡ with_claims before (with_claim before.claims seat None) = e.2 ∙ ap (with_claims before) aside in
    (e.0, e.1, given ∙ ap (λ (m : Control). with_claims m (with_claim m.claims seat o)) so ∙ ap (with_claims before) (given_back before.claims seat o (sym taken)), e.3)

-- there are as many seats as before
pub still_within : (limit seat : ℕ) (run : Seen) (p : Plan) (new : Seen) (old entries : List Entry) (before mid : Control) (left : Claims) (r : Result StepId StepRefusal) → seat < length before.claims → left ≡ with_claim before.claims seat None
    → Enters limit seat run p new old entries (with_claims before left) mid r → seat < length mid.claims
still_within limit seat run p new old entries before mid left (Ok i) within aside e =
    let v = event_of run p in
    let as_many : length mid.claims ≡ length left = ap (λ (m : Control). length m.claims) e.2 ∙ length-map left (unless (same_name v.task)) in
    omega (arith, within, as_many, ap length aside, length-set before.claims seat None)
still_within limit seat run p new old entries before mid left (Err r) within aside e =
    omega (arith, within, ap (λ (m : Control). length m.claims) e.2, ap length aside, length-set before.claims seat None)

-- the step as a commit takes it, which ends the claim
pub as_ended : (limit seat : ℕ) (run : Seen) (p : Plan) (new : Seen) (old entries : List Entry) (before after : Control) (r : Result StepId StepRefusal) → EntersOn limit seat run p new old entries before after r → (ended : Control) × Enters limit seat run p new old entries before ended r
as_ended limit seat run p new old entries before after (Ok i) e = (behind_step p.config.at (event_of run p) before, (e.0, e.1, refl))
as_ended limit seat run p new old entries before after (Err r) e = (after, e)

-- ---- the answers of a Live

pub record LiveCommitsMore (seat : ℕ) (P : Program) (limit : ℕ) (s : Session) (p : Plan) (pushed : List Entry) (after : Control) (new : Seen) (result : Result ℕ CommitRefusal) : Type 0 where
  pub keeps : Keeps P limit pushed after new
  pub answer : CommitsMore seat s p (shown P limit pushed after) result

pub live_commits_more : (seat : ℕ) (P : Program) (limit : ℕ) (entries : List Entry) (before : Control) (run : Seen) (s : Session) → shown P limit entries before ≡ s → IsSound P limit (reverse entries) run × IsLawful (reverse entries) before
    → (p : Plan) → IsClaimed s seat p → IsNative P run p → (place : ℕ) → place ≡ length entries → (pushed : List Entry) (after : Control) (new : Seen) (result : Result StepId StepRefusal)
    → EntersOn limit seat run p new entries pushed before after result → LiveCommitsMore seat P limit s p pushed after new (as_commit place result)
live_commits_more seat P limit entries before run s shows both p claimed native place at pushed after new (Ok i) e =
    let v = event_of run p in
    let t = p.config.task in
    let ended = behind_step p.config.at v before in
    let l = live_commits seat P limit entries before run s shows both p claimed native place at pushed ended new (Ok i) (e.0, e.1, refl) in
    let claim : claim_of before.claims seat ≡ Some t = ap (λ (z : Session). claim_of z.control.claims seat) shows ∙ claimed.claims in
    let all : reverse pushed ≡ Stepped seat v ∷ reverse entries = ap reverse e.0.grows ∙ reverse-append entries (Stepped seat v ∷ []) in
    let was : is_spawned (hist (reverse entries)) t ≡ true = ap (λ H. is_spawned H t) (sym both.0.leaves) ∙ native.spawned in
    let there : IsSpawned (hist (reverse pushed)) t = subst (λ K. IsSpawned (hist K) t) (sym all) (still_spawned v (hist (reverse entries)) t was) in
    let free : IsFreeBeside ended.claims seat t = λ other h. both.1.apart other seat t (left (same_name v.task) before.claims other t h).was claim in
    record {
      keeps = record {
        sound = l.keeps.sound;
        lawful = subst (λ (c : Control). AreLawful (hist (reverse pushed)) c.claims) (sym e.2) (lawful_given (hist (reverse pushed)) ended.claims seat t there free l.keeps.lawful);
      };
      answer = record {
        ended = shown P limit pushed ended;
        committed = l.answer;
        claims = ap (shown P limit pushed) e.2;
      };
    }
live_commits_more seat P limit entries before run s shows both p claimed native place at pushed after new (Err r) e =
    let l = live_commits seat P limit entries before run s shows both p claimed native place at pushed after new (Err r) e in
    record { keeps = l.keeps; answer = l.answer }

-- what a commit leaves after which the seat claims the task still
pub taken_on : (s new : Session) (seat at : ℕ) (p : Plan) → IsCommittedOn seat s p new at → new ≡ with_seat (with_entry s (entry_to_come seat s p)) seat (Some p.config.task)
taken_on s new seat at p k = k.claims ∙ ap (λ (z : Session). with_seat z seat (Some p.config.task)) k.committed.steps.now

-- ---- a prepared step, after which the claim that was set aside is given back

pub record GoesOn (seat : ℕ) (P : Program) (limit : ℕ) (s : Session) (p : Plan) (pushed : List Entry) (after : Control) (new : Seen) (at : ℕ) (now : Option Name) : Type 0 where
  pub keeps : Keeps P limit pushed after new
  pub place : at ≡ length s.journal
  pub session : shown P limit pushed after ≡ with_seat (with_entry s (entry_to_come seat s p)) seat (Some p.config.task)
  pub floor : IsFloor P (core.history new) now

module _ (seat : ℕ) (P : Program) (limit : ℕ) (entries : List Entry) (before : Control) (run : Seen) (s : Session) (shows : shown P limit entries before ≡ s) (both : IsSound P limit (reverse entries) run × IsLawful (reverse entries) before)
    (p : Plan) (m : MayCommit s seat p) (native : IsNative P run p) where
  pub claimed_here : claim_of before.claims seat ≡ Some p.config.task
  claimed_here = ap (λ (z : Session). claim_of z.control.claims seat) shows ∙ m.claimed.claims

  pub goes_on : (pushed : List Entry) (left : Claims) (mid : Control) (new : Seen) (i : StepId) (o : Option Name) (given : Claims) (at : ℕ) (old now : Option Name) → o ≡ claim_of before.claims seat → left ≡ with_claim before.claims seat None
      → Enters limit seat run p new entries pushed (with_claims before left) mid (Ok i) → given ≡ with_claim mid.claims seat o → at ≡ length entries → IsCarried (core.history new) old now → IsFloor P (core.history run) old
      → GoesOn seat P limit s p pushed (with_claims mid given) new at now
  goes_on pushed left mid new i o given at old now taken aside entered back is carried floor =
      let on = entered_on limit seat run p new entries pushed before mid (with_claims mid given) left o (Ok i) claimed_here taken aside entered (ap (with_claims mid) back) in
      let l = live_commits_more seat P limit entries before run s shows both p m.claimed native at is pushed (with_claims mid given) new (Ok i) on in
      let ended = as_ended limit seat run p new entries pushed before (with_claims mid given) (Ok i) on in
      record {
        keeps = l.keeps;
        place = l.answer.committed.place;
        session = taken_on s (shown P limit pushed (with_claims mid given)) seat at p l.answer;
        floor = floor_committed limit seat P run new p entries pushed before ended.0 (Ok i) both.0.fits native ended.1 old now carried tt floor;
      }
