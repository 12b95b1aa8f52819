-- A plan that was made at some time, and is taken now.
use Rattle.std.proofs.Common.{◌≡◌, ◌<◌, ◌≤◌, ◌↔◌, ℕ, List, Bool, true, false, nat_le, length, reverse, refl, sym, ap, ◌∙◌, subst, Option, Some, None, unwrap_or, option_map, arith, inl, inr}
use Rattle.std.specs.Prelude.{Result, Ok, Err, IfSome, IfNone, is_none}
use Rattle.std.specs.List.{list_any}
use Rattle.std.proofs.lemmas.Bool.{both_ways}
use Rattle.std.proofs.lemmas.Bool.Decides.{nat_tests}
use Rattle.std.proofs.lemmas.List.{length-reverse}
use Rattle.tb_model.specs.declared.entry.Entry.{Entry}
use Rattle.tb_model.specs.declared.entry.Entry.TheVariants.{Stepped}
use Rattle.tb_model.specs.declared.event.Event.{Event}
use Rattle.tb_model.specs.declared.step_id.StepId.{StepId}
use Rattle.tb_model.specs.Names.{Name}
use Rattle.tb_model.specs.Facts.{is_spawned, ends}
use Rattle.tb_model.specs.Journal.{hist}
use Rattle.tb_model.specs.Program.{Program, planned, zero_ℤ}
use Rattle.tb_model.specs.Hindrances.{By, Hindrance, in_the_way, refusal_of, next_event}
use Rattle.tb_plan.specs.declared.planned.Plan.{Plan}
use Rattle.tb_core.specs.declared.step_refusal.StepRefusal.{StepRefusal}
use Rattle.tb_core.specs.declared.step_refusal.StepRefusal.TheVariants.{Memory, NoSuchTask, Ended, Full, Stale}
use Rattle.tb_core.specs.Seen.{Seen, Held as HeldCore}
use Rattle.tb_core.specs.Seen as core
use Rattle.tb_core.specs.Situation.{config_of}
use Rattle.tb_core.specs.Outcomes.{event_of, has_ended, hindrance_of, IsOpen, IsCurrent, IsHindered, IsKept}
use Rattle.tb_core.specs.Outcomes as core_outcomes
use Rattle.tb_core.specs.Naming.{IsLong}
use Rattle.tb_control.specs.declared.control.Control.{Control}
use Rattle.tb_live.specs.declared.commit_refusal.CommitRefusal.{CommitRefusal}
use Rattle.tb_live.specs.declared.commit_refusal.CommitRefusal.TheVariants.{Step as NotTaken}
use Rattle.tb_control.specs.Claims.{claim_of}
use Rattle.tb_control.specs.Modes.{is_paused}
use Rattle.tb_live.specs.Session.{Session, Held, history, is_full}
use Rattle.tb_live.specs.Moves.{Refuses, refusal_for, coming}
use Rattle.tb_live.specs.Moves as moves
use Rattle.tb_live.specs.Commits.{IsClaimed, IsOffered, IsUpToDate, MayCommit, RefusesPlan, Commits, IsPrepared, entry_to_come}
use Rattle.tb_next.specs.Plans.{IsPlanOf, IsOfProgram, IsNative, IsForeign}
use Rattle.tb_live.specs.Entering.{IsKeptFrom, Enters, has_no_place}
use Rattle.tb_live.specs.declared.prepared.Prepared.{Prepared}
use Rattle.tb_live.specs.Preparing.{HasRoom, IsReadied, HasStepRoom, entry_of, held_event}
use Rattle.tb_next.specs.Fitting.{Fits}
use Rattle.tb_live.specs.Soundness.{IsSound, IsLawful}
use Rattle.tb_live.specs.Working.{configuration}
use Rattle.tb_next.proofs.FloorLemmas.{goes_on}
use Rattle.tb_next.proofs.NativeLemmas.{native_plan, native_next}
use Rattle.tb_next.proofs.PlanLemmas.{nothing_by, refusal_of_plan}
use Rattle.tb_live.proofs.PreparedLemmas.{step_held}
use Rattle.tb_live.proofs.RunLemmas.{shown, has_place}
use Rattle.tb_live.proofs.StepLemmas.{Keeps, by_some, entered, refused, stays, no_plan}
use Rattle.tb_live.proofs.WorkLemmas.{config_so}

-- what the core finds in the way blocks the task's action
pub kept_from : (run : Seen) (p : Plan) (full : Bool) (e : StepRefusal) → IsKept run p e → (run.limit ≤ length run.steps → full ≡ true) → IsKeptFrom run p full e
kept_from run p full Full k h = (k.0, k.1, h k.2)
kept_from run p full Memory k h = (λ current clear. absurd (named k current clear), λ g hindered. long k g hindered)
  where
    long : IsKept run p Memory → (g : Hindrance) → IsHindered run p g → IsLong g
    long (inl (now, stale)) g hindered = absurd (stale.elsewhere (hindered.current.here ∙ sym stale.now_is))
    long (inr (h, other, l)) g hindered = subst IsLong (ap (λ o. unwrap_or o g) (sym other.hindrance ∙ hindered.hindrance)) l

    named : IsKept run p Memory → IsCurrent run p → hindrance_of run p ≡ None → ⊥
    named (inl (now, stale)) current clear = stale.elsewhere (current.here ∙ sym stale.now_is)
    named (inr (h, hindered, long)) current clear = cc (clear, hindered.hindrance)
kept_from run p full _ k h = k

-- nothing blocks a plan that is open
pub open_wants : (run : Seen) (p : Plan) (full : Bool) → IsOpen run p → full ≡ false → IsKeptFrom run p full Memory
open_wants run p full o f = (λ current clear. f, λ h hindered. absurd (clash h (sym o.clear ∙ hindered.hindrance)))
  where
    clash : (h : Hindrance) → ◌≡◌ {A = Option Hindrance} None (Some h) → ⊥
    clash h z = cc

pub open_full : (run : Seen) (p : Plan) (full : Bool) → IsOpen run p → full ≡ true → IsKeptFrom run p full Full
open_full run p full o f = (o.current, o.clear, f)

-- what refuses a plan is what the core says, and else the journal or want of memory
pub refusal_from : (run : Seen) (p : Plan) (full : Bool) (o : Option StepRefusal) (e r : StepRefusal) → r ≡ unwrap_or o e → IfSome o (IsKept run p) → IfNone o (IsOpen run p) → (run.limit ≤ length run.steps → full ≡ true) → (IsOpen run p → IsKeptFrom run p full e) → IsKeptFrom run p full r
refusal_from run p full (Some q) e r is some none few whole = subst (IsKeptFrom run p full) (sym is) (kept_from run p full q some few)
refusal_from run p full None e r is some none few whole = subst (IsKeptFrom run p full) (sym is) (whole none)

-- the core refuses the step, where the journal has a slot
pub refuses_from : (run : Seen) (p : Plan) (full : Bool) (e : StepRefusal) → full ≡ false → (run.limit ≤ length run.steps → ⊥) → core_outcomes.Refuses run p e → IsKeptFrom run p full e
refuses_from run p full Full f few k = absurd (few k.2)
refuses_from run p full Memory f few (inl o) = open_wants run p full o f
refuses_from run p full Memory f few (inr wants) = kept_from run p full Memory wants (λ z. absurd (few z))
refuses_from run p full _ f few k = k

-- what is prepared for the task is the plan's event
pub readied_so : (limit : ℕ) (P : Program) (c : HeldCore) (entries : List Entry) (spare : ℕ) (p : Plan) (v : Event) → Fits P c.run → IsNative P c.run p → v.task ≡ p.config.task
    → HasStepRoom limit P c entries spare v → IsOpen c.run p → IsReadied limit c p entries spare v
readied_so limit P c entries spare p v f native same room o = record {
  is_open = o;
  event = room.next ∙ ap (next_event P (core.history c.run)) same ∙ sym (native_next P c.run p f native o.current.here);
  reserved = room.reserved;
  room = room.room;
  free = room.free;
}

-- what is reserved for the plan serves as what is prepared
pub room_so : (limit : ℕ) (P : Program) (c : HeldCore) (entries : List Entry) (spare : ℕ) (p : Plan) (v : Event) → Fits P c.run → IsNative P c.run p → IsReadied limit c p entries spare v → HasStepRoom limit P c entries spare v
room_so limit P c entries spare p v f native r =
    let next : v ≡ next_event P (core.history c.run) p.config.task = r.event ∙ native_next P c.run p f native r.is_open.current.here in
    record {
      next = next ∙ ap (next_event P (core.history c.run)) (sym (ap (λ (u : Event). u.task) next));
      reserved = r.reserved;
      room = r.room;
      free = r.free;
    }

-- ---- the same, said of the session

module _ (P : Program) (limit : ℕ) (entries : List Entry) (before : Control) (run : Seen) (s : Session) (shows : shown P limit entries before ≡ s) (sound : IsSound P limit (reverse entries) run) (seat : ℕ) (p : Plan) where
  abbrev t : Name
  t = p.config.task

  configuration_so : config_of run t ≡ configuration s.program (history s) t
  configuration_so =
      config_so P run t sound.fits ∙ ap (λ H. configuration P H t) sound.leaves
      ∙ ap (λ (z : Session). configuration z.program (history z) t) shows

  spawned_so : (b : Bool) → is_spawned (core.history run) t ≡ b → is_spawned (history s) t ≡ b
  spawned_so b h = ap (λ (z : Session). is_spawned (hist z.journal) t) (sym shows) ∙ ap (λ H. is_spawned H t) (sym sound.leaves) ∙ h

  ended_so : (b : Bool) → has_ended run t ≡ b → moves.has_ended s t ≡ b
  ended_so b h = ap (λ (z : Session). moves.has_ended z t) (sym shows) ∙ ap (λ H. list_any (ends t) H) (sym sound.leaves) ∙ h

  -- and back
  spawned_back : (b : Bool) → is_spawned (history s) t ≡ b → is_spawned (core.history run) t ≡ b
  spawned_back b h = ap (λ H. is_spawned H t) sound.leaves ∙ ap (λ (z : Session). is_spawned (hist z.journal) t) shows ∙ h

  ended_back : (b : Bool) → moves.has_ended s t ≡ b → has_ended run t ≡ b
  ended_back b h = ap (λ H. list_any (ends t) H) sound.leaves ∙ ap (λ (z : Session). moves.has_ended z t) shows ∙ h

  program_so : IsOfProgram P p.instr → IsOfProgram s.program p.instr
  program_so k = subst (λ (z : Session). IsOfProgram z.program p.instr) shows k

  program_back : IsOfProgram s.program p.instr → IsOfProgram P p.instr
  program_back k = subst (λ (z : Session). IsOfProgram z.program p.instr) (sym shows) k

  pub offered_native : IsOffered s seat p → IsNative P run p
  offered_native o = record {
    spawned = spawned_back true o.spawned;
    going = ended_back false o.going;
    program = program_back o.program;
  }

  -- a plan that may be committed is the program's for a task that goes on
  pub may_native : MayCommit s seat p → IsNative P run p
  may_native m =
      let g = goes_on (is_spawned (history s) t) (list_any (ends t) (history s)) (in_the_way (history s) t (planned s.program (history s) t zero_ℤ)) (ap is_none m.may.unrefused) in
      record {
        spawned = spawned_back true g.0;
        going = ended_back false g.1;
        program = program_back m.up_to_date.program;
      }

  -- a claim on a plan of the program
  pub offered : IsClaimed s seat p → IsNative P run p → IsOffered s seat p
  offered claimed n = record {
    claimed = claimed;
    spawned = spawned_so true n.spawned;
    going = ended_so false n.going;
    program = program_so n.program;
  }

  pub foreign_refused : (e : StepRefusal) → IsForeign P run p e → RefusesPlan s p e
  foreign_refused NoSuchTask k = no_plan P limit entries before run s shows sound t NoSuchTask (λ z. cc) k
  foreign_refused Ended k = no_plan P limit entries before run s shows sound t Ended (λ z. cc) k
  foreign_refused (Stale now) k = (spawned_so true k.0, ended_so false k.1, k.2 ∙ configuration_so, (λ u. k.3 (program_back u.program)))
  foreign_refused Memory k = (spawned_so true k.0, ended_so false k.1, (λ u n. absurd (k.2 (program_back u.program))), (λ h u n. absurd (k.2 (program_back u.program))))
  foreign_refused _ k = absurd k

  -- a plan that isn't native may not be committed
  pub foreign_blocks : (e : StepRefusal) → IsForeign P run p e → MayCommit s seat p → ⊥
  foreign_blocks NoSuchTask k m = cc (sym (foreign_refused NoSuchTask k) ∙ m.may.unrefused)
  foreign_blocks Ended k m = cc (sym (foreign_refused Ended k) ∙ m.may.unrefused)
  foreign_blocks (Stale now) k m = k.3 (program_back m.up_to_date.program)
  foreign_blocks Memory k m = k.2 (program_back m.up_to_date.program)
  foreign_blocks _ k m = absurd k

  module _ (native : IsNative P run p) where
    plan_so : IsCurrent run p → IsPlanOf P run t p
    plan_so k = native_plan P run p sound.fits native k.here

    up_to_date : IsCurrent run p → IsUpToDate s p
    up_to_date k = record { program = program_so native.program; here = k.here ∙ configuration_so }

    refused_so : IsCurrent run p → (e : StepRefusal) → IsKeptFrom run p (has_no_place limit entries) e → Refuses s t e
    refused_so k e r = refused P limit entries before run s shows sound t p (plan_so k) e r

    current_at : IsUpToDate s p → IsCurrent run p
    current_at u = record { spawned = native.spawned; going = native.going; here = u.here ∙ sym configuration_so }

    clear_at : IsUpToDate s p → refusal_for s t ≡ None → hindrance_of run p ≡ None
    clear_at u n =
        nothing_by (hindrance_of run p)
        (sym (refusal_of_plan P run t p sound.fits (plan_so (current_at u))) ∙ ap (λ H. refusal_of P H t) sound.leaves ∙ ap (λ (z : Session). refusal_for z t) shows ∙ n)

    hindered_at : (h : Hindrance) → IsUpToDate s p → refusal_for s t ≡ Some (By h) → hindrance_of run p ≡ Some h
    hindered_at h u n =
        by_some h (hindrance_of run p)
        (sym (refusal_of_plan P run t p sound.fits (plan_so (current_at u))) ∙ ap (λ H. refusal_of P H t) sound.leaves ∙ ap (λ (z : Session). refusal_for z t) shows ∙ n)

    pub native_refused : (e : StepRefusal) → IsKeptFrom run p (has_no_place limit entries) e → RefusesPlan s p e
    native_refused NoSuchTask k = absurd (both_ways (is_spawned (core.history run) t) k native.spawned)
    native_refused Ended k = absurd (both_ways (has_ended run t) native.going k.1)
    native_refused (Stale now) k = (spawned_so true k.spawned, ended_so false k.going, k.now_is ∙ configuration_so, (λ u. k.elsewhere (u.here ∙ sym configuration_so ∙ sym k.now_is)))
    native_refused Memory k = (
      spawned_so true native.spawned,
      ended_so false native.going,
      λ u n. ap is_full (sym shows) ∙ ap (nat_le limit) (length-reverse entries) ∙ k.0 (current_at u) (clear_at u n),
      λ h u n. k.1 h (record { current = current_at u; hindrance = hindered_at h u n }),
    )
    native_refused Full k = (up_to_date k.0, refused_so k.0 Full k)
    native_refused e k = (up_to_date k.current, refused_so k.current e k)

    -- nothing blocks the task of a plan that may be committed
    pub may_open : MayCommit s seat p → IsOpen run p
    may_open m = record {
      current = current_at m.up_to_date;
      clear = clear_at m.up_to_date m.may.unrefused;
      room = has_place P limit (reverse entries) run sound (ap is_full shows ∙ m.may.room);
    }

    -- and so is a plan that is open
    pub open_may : IsClaimed s seat p → IsOpen run p → has_no_place limit entries ≡ false → MayCommit s seat p
    open_may claimed o room = record {
      claimed = claimed;
      up_to_date = up_to_date o.current;
      may = record {
        unrefused =
            ap (λ (z : Session). refusal_for z t) (sym shows) ∙ ap (λ H. refusal_of P H t) (sym sound.leaves)
            ∙ refusal_of_plan P run t p sound.fits (plan_so o.current) ∙ ap (option_map By) o.clear;
        room = ap is_full (sym shows) ∙ ap (nat_le limit) (length-reverse entries) ∙ room;
      };
    }

    pub event_so : IsCurrent run p → event_of run p ≡ coming s t
    event_so k =
        native_next P run p sound.fits native k.here ∙ ap (λ H. next_event P H t) sound.leaves
        ∙ ap (λ (z : Session). coming z t) shows

-- ---- the answers of a Live

abbrev pub as_commit : ℕ → Result StepId StepRefusal → Result ℕ CommitRefusal
as_commit place (Ok i) = Ok place
as_commit place (Err e) = Err (NotTaken e)

pub record LiveCommits (seat : ℕ) (P : Program) (limit : ℕ) (s : Session) (p : Plan) (pushed : List Entry) (after : Control) (new : Seen) (result : Result ℕ CommitRefusal) : Type 0 where
  pub keeps : Keeps P limit pushed after new
  pub answer : Commits seat s p (shown P limit pushed after) result

pub live_commits : (seat : ℕ) (P : Program) (limit : ℕ) (entries : List Entry) (before : Control) (run : Seen) (s : Session) → shown P limit entries before ≡ s → IsSound P limit (reverse entries) run × IsLawful (reverse entries) before
    → (p : Plan) → IsClaimed s seat p → IsNative P run p → (place : ℕ) → place ≡ length entries → (pushed : List Entry) (after : Control) (new : Seen) (result : Result StepId StepRefusal)
    → Enters limit seat run p new entries pushed before after result → LiveCommits seat P limit s p pushed after new (as_commit place result)
live_commits seat P limit entries before run s shows both p claimed native place at pushed after new (Ok i) e =
    let here = e.0.steps.current in
    let l = entered P limit entries before run s shows both.0 p.config.task p (native_plan P run p both.0.fits native here.here) seat new pushed after i both.1 e.0 e.1 e.2 in
    record {
      keeps = l.keeps;
      answer = record {
        may = record { claimed = claimed; up_to_date = up_to_date P limit entries before run s shows both.0 seat p native here; may = l.steps.may };
        place = at ∙ sym (length-reverse entries) ∙ ap (λ (z : Session). length z.journal) shows;
        step = i;
        steps = l.steps;
      };
    }
live_commits seat P limit entries before run s shows both p claimed native place at pushed after new (Err r) e =
    let l = stays P limit entries pushed before after run new s shows both e.0 e.1 e.2 in
    record { keeps = l.keeps; answer = (l.same, (claimed, native_refused P limit entries before run s shows both.0 seat p native r e.3)) }

-- ---- a step that is prepared, without a second test

pub record IsDue (limit : ℕ) (P : Program) (c : HeldCore) (entries : List Entry) (spare : ℕ) (o : Option Prepared) (p : Plan) : Type 0 where
  pub native : IsNative P c.run p
  pub held : held_event o ≡ Some (event_of c.run p)
  pub readied : IsReadied limit c p entries spare (event_of c.run p)

pub due : (seat : ℕ) (P : Program) (limit : ℕ) (entries : List Entry) (before : Control) (c : HeldCore) (o : Option Prepared) (spare : ℕ) (s : Session) → shown P limit entries before ≡ s
    → IsSound P limit (reverse entries) c.run → HasRoom limit P c entries spare o → (p : Plan) → MayCommit s seat p → option_map entry_of o ≡ Some (entry_to_come seat s p) → IsDue limit P c entries spare o p
due seat P limit entries before c o spare s shows sound room p m given =
    let native = may_native P limit entries before c.run s shows sound seat p m in
    let is_open = may_open P limit entries before c.run s shows sound seat p native m in
    let event = event_so P limit entries before c.run s shows sound seat p native is_open.current in
    let h = step_held limit P c entries spare o seat (event_of c.run p) room (given ∙ ap (λ v. Some (Stepped seat v)) (sym event)) in
    record {
      native = native;
      held = h.0;
      readied = record {
        is_open = is_open;
        event = refl;
        reserved = h.1.reserved;
        room = h.1.room;
        free = h.1.free;
      };
    }

-- what is prepared is the entry of the commit
pub live_prepares : (seat : ℕ) (P : Program) (limit : ℕ) (entries : List Entry) (before : Control) (run : Seen) (s : Session) → shown P limit entries before ≡ s → IsSound P limit (reverse entries) run
    → (p : Plan) → IsClaimed s seat p → IsNative P run p → (held : Held) (e : Entry) (v : Event) → held.session ≡ s → held.prepared ≡ Some e → e ≡ Stepped seat v → v ≡ event_of run p → IsOpen run p → has_no_place limit entries ≡ false → IsPrepared seat held p e
live_prepares seat P limit entries before run s shows sound p claimed native held e v same prepared entry event o room =
    let m = open_may P limit entries before run s shows sound seat p native claimed o room in
    record {
      may = subst (λ z. MayCommit z seat p) (sym same) m;
      entry = entry ∙ ap (Stepped seat) (event ∙ event_so P limit entries before run s shows sound seat p native o.current) ∙ ap (λ z. entry_to_come seat z p) (sym same);
      prepared = prepared;
      place =
          let within : length entries < limit = grind (arith, nat_tests) in
          omega (arith, within, sound.bound, ap (λ z. length z.journal) same, ap (λ (z : Session). length z.journal) shows, length-reverse entries);
    }

-- a claim that holds in a run that goes on
pub claimed_so : (P : Program) (limit : ℕ) (entries : List Entry) (before : Control) (s : Session) → shown P limit entries before ≡ s → (seat : ℕ) (p : Plan) (paused held : Bool) → paused ≡ is_paused before.mode → paused ≡ false
    → (held ≡ true) ↔ (claim_of before.claims seat ≡ Some p.config.task) → held ≡ true → IsClaimed s seat p
claimed_so P limit entries before s shows seat p paused held e going f h = record {
  going = ap (λ (z : Session). is_paused z.control.mode) (sym shows) ∙ sym e ∙ going;
  claims = ap (λ (z : Session). claim_of z.control.claims seat) (sym shows) ∙ f.0 h;
}

-- what is reserved for the plan is retained
pub room_kept : (limit : ℕ) (P : Program) (old new : HeldCore) (entries pushed : List Entry) (spare : ℕ) (p : Plan) (v copy : Event) → Fits P old.run → IsNative P old.run p → new.run ≡ old.run → pushed ≡ entries → copy ≡ v
    → IsReadied limit new p entries spare v → HasStepRoom limit P new pushed spare copy
room_kept limit P old new entries pushed spare p v copy f native same kept copied r =
    subst (λ u. HasStepRoom limit P new pushed spare u) (sym copied)
    (subst (λ es. HasStepRoom limit P new es spare v) (sym kept)
    (room_so limit P new entries spare p v (subst (Fits P) (sym same) f) (subst (λ (z : Seen). IsNative P z p) (sym same) native) r))
