-- What a claim leaves, and what it answers.
use Rattle.std.proofs.Common.{◌≡◌, ◌↔◌, IsTrue, ℕ, List, Bool, true, false, ◌||◌, length, reverse, refl, sym, ap, ap₂, ◌∙◌, subst, ℤ, Option, Some, None}
use Rattle.tb_model.specs.declared.entry.Entry.{Entry}
use Rattle.tb_model.specs.Names.{Name}
use Rattle.tb_model.specs.Facts.{History, HasEnded, IsSpawned, own, is_spawned, ends}
use Rattle.tb_model.specs.Journal.{hist}
use Rattle.tb_model.specs.LeastNames.{IsLeastName}
use Rattle.tb_model.specs.Hindrances.{can_step, least_ready}
use Rattle.tb_model.specs.Program.{Program}
use Rattle.tb_plan.specs.declared.config.Config.{Config}
use Rattle.tb_core.specs.Seen.{Seen}
use Rattle.tb_core.specs.Seen as core
use Rattle.tb_core.specs.Situation.{config_of}
use Rattle.tb_control.specs.declared.control.Control.{Control}
use Rattle.tb_next.specs.declared.work.Work.{Work}
use Rattle.tb_next.specs.declared.offer.Offer.{Offer}
use Rattle.tb_next.specs.declared.offer.Offer.TheVariants.{Task, Later as LaterOn, Done as NoTask, Stopped as Halted}
use Rattle.tb_next.specs.declared.situated.Situated.{Situated}
use Rattle.tb_control.specs.declared.claim_refusal.ClaimRefusal.{ClaimRefusal}
use Rattle.tb_control.specs.declared.claim_refusal.ClaimRefusal.TheVariants.{Memory, NoSuchTask, Ended, Claimed}
use Rattle.tb_control.specs.Claims.{Claims, with_claim, AreLawful}
use Rattle.tb_control.specs.Modes.{is_paused}
use Rattle.tb_next.specs.Plans.{CanTake, IsSituatedOf, IsWorkOf, IsFound, IsBarred, IsUnbarred, claimed}
use Rattle.tb_live.specs.Session.{Session, history, is_full, with_seat}
use Rattle.tb_live.specs.Moves.{has_ended, least_task}
use Rattle.tb_next.specs.Fitting.{Fits}
use Rattle.tb_live.specs.Soundness.{IsSound}
use Rattle.tb_live.specs.Working.{configuration, IsSituated, IsWork, IsFree, RefusesClaim, IsOffered, HaveAllEnded, OffersDone, is_stopped}
use Rattle.std.proofs.lemmas.Bool.{false≢true}
use Rattle.tb_laws.proofs.NextStepLemmas.{can_next, done_ended, least_next}
use Rattle.tb_next.proofs.PlanLemmas.{stands_at, holds_registers}
use Rattle.tb_next.proofs.ReadyLemmas.{can_spawned}
use Rattle.tb_control.proofs.ControlLemmas.{lawful_given, lawful_let_go}
use Rattle.tb_live.proofs.RunLemmas.{shown}

-- ---- the situation that the core retains is the definitions'

pub config_so : (P : Program) (run : Seen) (t : Name) → Fits P run → config_of run t ≡ configuration P (core.history run) t
config_so P run t f = ap₂ {C = Config} (λ (n : ℕ) (rs : List ℤ). record { task = t; steps = length (own t (core.history run)); at = n; regs = rs }) (stands_at P run t f) (holds_registers P run t)

pub work_so : (P : Program) (run : Seen) (H : History) (t : Name) (w : Work) → Fits P run → core.history run ≡ H → IsWorkOf P run t w → IsWork P H t w
work_so P run H t w f leaves k = record {
  config = k.config ∙ config_so P run t f ∙ ap (λ K. configuration P K t) leaves;
  line = k.line;
  position = k.position;
  instr = k.instr;
  cells = k.cells;
  strip = k.strip;
}

pub situated_so : (P : Program) (run : Seen) (H : History) (t : Name) (n : Situated) → Fits P run → core.history run ≡ H → IsSituatedOf P run t n → IsSituated P H t n
situated_so P run H t n f leaves k = record {
  config = k.config ∙ config_so P run t f ∙ ap (λ K. configuration P K t) leaves;
  line = k.line;
  position = k.position;
  instr = k.instr;
  cells = k.cells;
}

-- ---- a Live after a claim

abbrev pub with_claims : Control → Claims → Control
with_claims c claims = record { claims = claims; breakpoints = c.breakpoints; mode = c.mode }

module _ (P : Program) (limit : ℕ) (entries : List Entry) (control : Control) (run : Seen) (s : Session) (shows : shown P limit entries control ≡ s) (sound : IsSound P limit (reverse entries) run) where
  shown_so : (claims : Claims) (seat : ℕ) (o : Option Name) → claims ≡ with_claim control.claims seat o → shown P limit entries (with_claims control claims) ≡ with_seat s seat o
  shown_so claims seat o e = ap (λ cs. shown P limit entries (with_claims control cs)) e ∙ ap (λ (z : Session). with_seat z seat o) shows

  there_so : (t : Name) (b : Bool) → is_spawned (core.history run) t ≡ b → is_spawned (history s) t ≡ b
  there_so t b h = ap (λ (z : Session). is_spawned (hist z.journal) t) (sym shows) ∙ ap (λ H. is_spawned H t) (sym sound.leaves) ∙ h

  going_so : (t : Name) (b : Bool) → Rattle.tb_core.specs.Outcomes.has_ended run t ≡ b → has_ended s t ≡ b
  going_so t b h = ap (λ (z : Session). has_ended z t) (sym shows) ∙ ap (λ H. Rattle.std.specs.List.list_any (ends t) H) (sym sound.leaves) ∙ h

  pub free_so : (seat : ℕ) (t : Name) → IsUnbarred run control.claims seat t → IsFree s seat t
  free_so seat t u = record {
    there = there_so t true u.there;
    going = going_so t false u.going;
    free = subst (λ (z : Session). Rattle.tb_control.specs.Claims.IsFreeBeside z.control.claims seat t) shows u.free;
  }

  pub barred_so : (seat : ℕ) (t : Name) (e : ClaimRefusal) → IsBarred run control.claims seat t e → RefusesClaim s seat t e
  barred_so seat t NoSuchTask k = there_so t false k
  barred_so seat t Ended k = (there_so t true k.0, going_so t true k.1)
  barred_so seat t (Claimed other) k = (there_so t true k.0, going_so t false k.1, subst (λ (z : Session). Rattle.tb_control.specs.Claims.IsHeldBeside z.control.claims seat t other) shows k.2)
  barred_so seat t Memory k = absurd k

  worked_so : (t : Name) (w : Work) → IsWorkOf P run t w → IsWork s.program (history s) t w
  worked_so t w k = subst (λ (z : Session). IsWork z.program (history z) t w) shows (work_so P run (hist (reverse entries)) t w sound.fits sound.leaves k)

  told_so : (t : Name) (n : Situated) → IsSituatedOf P run t n → IsSituated s.program (history s) t n
  told_so t n k = subst (λ (z : Session). IsSituated z.program (history z) t n) shows (situated_so P run (hist (reverse entries)) t n sound.fits sound.leaves k)

  -- of one task
  pub live_claims_task : (seat : ℕ) (t name : Name) (claims : Claims) (w : Work) → IsUnbarred run control.claims seat t → name ≡ t → IsWorkOf P run t w → claims ≡ with_claim control.claims seat (Some name)
      → IsFree s seat t × (shown P limit entries (with_claims control claims) ≡ with_seat s seat (Some t)) × IsWork s.program (history s) t w
  live_claims_task seat t name claims w u same k e = (free_so seat t u, shown_so claims seat (Some t) (e ∙ ap (λ n. with_claim control.claims seat (Some n)) same), worked_so t w k)

  pub lawful_task : (seat : ℕ) (t name : Name) (claims : Claims) → IsUnbarred run control.claims seat t → name ≡ t → claims ≡ with_claim control.claims seat (Some name) → AreLawful (hist (reverse entries)) control.claims → AreLawful (hist (reverse entries)) claims
  lawful_task seat t name claims u same e l =
      subst (λ cs. AreLawful (hist (reverse entries)) cs) (sym (e ∙ ap (λ n. with_claim control.claims seat (Some n)) same))
      (lawful_given (hist (reverse entries)) control.claims seat t (ap (λ H. is_spawned H t) (sym sound.leaves) ∙ u.there) u.free l)

  -- of what the walk found
  pub lawful_found : (seat : ℕ) (offer : Offer) (claims : Claims) → IsFound P run control.claims seat offer → claims ≡ with_claim control.claims seat (claimed offer) → AreLawful (hist (reverse entries)) control.claims → AreLawful (hist (reverse entries)) claims
  lawful_found seat (Task n) claims f e l =
      let t = n.config.task in
      let can = f.0.found t refl in
      subst (λ cs. AreLawful (hist (reverse entries)) cs) (sym e)
      (lawful_given (hist (reverse entries)) control.claims seat t (ap (λ H. is_spawned H t) (sym sound.leaves) ∙ can_spawned P (core.history run) t can.0) can.1 l)
  lawful_found seat LaterOn claims f e l = subst (λ cs. AreLawful (hist (reverse entries)) cs) (sym e) (lawful_let_go (hist (reverse entries)) control.claims seat l)
  lawful_found seat NoTask claims f e l = subst (λ cs. AreLawful (hist (reverse entries)) cs) (sym e) (lawful_let_go (hist (reverse entries)) control.claims seat l)
  lawful_found seat Halted claims f e l = absurd f

  least_name_so : (seat : ℕ) (o : Option Name) → IsLeastName (CanTake P (core.history run) control.claims seat) o → IsLeastName (CanTake s.program (history s) s.control.claims seat) o
  least_name_so seat o l =
      subst (λ (z : Session). IsLeastName (CanTake z.program (history z) z.control.claims seat) o) shows
      (subst (λ H. IsLeastName (CanTake P H control.claims seat) o) sound.leaves l)

  least_task_so : least_task s ≡ least_ready P (core.history run)
  least_task_so = ap least_task (sym shows) ∙ ap (least_ready P) (sym sound.leaves)

  pub live_offers : (seat : ℕ) (offer : Offer) (claims : Claims) → is_paused control.mode ≡ false → is_full s ≡ false → IsFound P run control.claims seat offer → claims ≡ with_claim control.claims seat (claimed offer)
      → IsOffered s seat (shown P limit entries (with_claims control claims)) offer
  live_offers seat offer claims going room f e = at offer f e
    where
      on : is_stopped s ≡ false
      on = ap₂ (λ a b. a || b) (ap (λ (z : Session). is_paused z.control.mode) (sym shows) ∙ going) room

      at : (o : Offer) → IsFound P run control.claims seat o → claims ≡ with_claim control.claims seat (claimed o) → IsOffered s seat (shown P limit entries (with_claims control claims)) o
      at (Task n) f e = (on, least_name_so seat (Some n.config.task) f.0, shown_so claims seat (Some n.config.task) e, told_so n.config.task n f.1)
      at LaterOn f e = (on, least_name_so seat None f.0, (λ h. f.1 (sym least_task_so ∙ h)), shown_so claims seat None e)
      at NoTask f e = (on, least_task_so ∙ f, shown_so claims seat None e)
      at Halted f e = absurd f

-- ---- all is done

module _ (P : Program) (limit : ℕ) (entries : List Entry) (control : Control) (run : Seen) (s : Session) (shows : shown P limit entries control ≡ s) (sound : IsSound P limit (reverse entries) run) where
  -- no task can step exactly where all have ended
  done_so : (least_task s ≡ None) ↔ HaveAllEnded s
  done_so =
      subst (λ (z : Session). (least_task z ≡ None) ↔ HaveAllEnded z) shows
      (subst (λ H. (least_ready P H ≡ None) ↔ ((t : Name) → IsSpawned H t → HasEnded H t)) sound.leaves (done_ended P (core.history run) sound.fits.well_formed sound.fits.legal))

  none_can : least_task s ≡ None → (t : Name) → IsTrue (can_step s.program (history s) t) → ⊥
  none_can =
      subst (λ (z : Session). least_task z ≡ None → (t : Name) → IsTrue (can_step z.program (history z) t) → ⊥) shows
      (subst (λ H. least_ready P H ≡ None → (t : Name) → IsTrue (can_step P H t) → ⊥) sound.leaves there)
    where
      there : least_ready P (core.history run) ≡ None → (t : Name) → IsTrue (can_step P (core.history run) t) → ⊥
      there none t can =
          let m = (least_next P (core.history run) sound.fits.well_formed sound.fits.legal).least t ((can_next P (core.history run) t sound.fits.well_formed sound.fits.legal).0 can) in
          cc

  pub offers_done : (seat : ℕ) (new : Session) (offer : Offer) → IsOffered s seat new offer → OffersDone s offer
  offers_done seat new (Task n) k going = (λ z. absurd (clash z), λ all. absurd (none_can (done_so.1 all) n.config.task (k.1.found n.config.task refl).0))
    where
      clash : ◌≡◌ {A = Offer} (Task n) NoTask → ⊥
      clash z = cc
  offers_done seat new LaterOn k going = (λ z. absurd (clash z), λ all. absurd (k.2 (done_so.1 all)))
    where
      clash : ◌≡◌ {A = Offer} LaterOn NoTask → ⊥
      clash z = cc
  offers_done seat new NoTask k going = (λ z. done_so.0 k.1, λ all. refl)
  offers_done seat new Halted k going = absurd (false≢true (sym going ∙ k.0))
