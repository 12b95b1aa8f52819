-- What a Live answers to a step, and what it leaves.
use Rattle.std.proofs.Common.{◌≡◌, ◌<◌, arith, ap₂, ℕ, List, [], ◌∷◌, Bool, true, false, nat_le, length, reverse, refl, sym, ap, ◌∙◌, subst, Option, Some, None, option_map, not, cond}
use Rattle.std.specs.Prelude.{◌≢◌, is_none, is_some, Result, Ok, Err, OnErr}
use Rattle.std.specs.List.{list_any}
use Rattle.std.proofs.lemmas.List.{reverse-append, length-reverse, length-map}
use Rattle.std.proofs.lemmas.Bool.{false≢true, both_ways}
use Rattle.tb_model.specs.declared.entry.Entry.{Entry}
use Rattle.tb_model.specs.declared.entry.Entry.TheVariants.{Stepped}
use Rattle.tb_model.specs.declared.step_id.StepId.{StepId}
use Rattle.tb_model.specs.declared.event.Event.{Event}
use Rattle.tb_model.specs.Names.{Name, same_name}
use Rattle.tb_model.specs.Facts.{History, is_spawned, ends}
use Rattle.tb_model.specs.Needs.{step_of, without}
use Rattle.tb_model.specs.Journal.{hist}
use Rattle.tb_model.specs.Program.{Program, IsNext, LegalFor, planned, situation, zero_ℤ}
use Rattle.tb_model.specs.Hindrances.{Hindrance, Refusal, By, refusal_of, can_step, least_ready, next_event, in_the_way}
use Rattle.tb_model.specs.Hindrances.{NoSuchTask as IsMissing, Ended as IsOver}
use Rattle.tb_model.proofs.LeastNameLemmas.{least_found}
use Rattle.tb_laws.proofs.NextStepLemmas.{next_computed, next_isnt_refused}
use Rattle.tb_plan.specs.declared.config.Config.{Config}
use Rattle.tb_plan.specs.declared.planned.Plan.{Plan}
use Rattle.tb_core.specs.declared.step_refusal.StepRefusal.{StepRefusal}
use Rattle.tb_core.specs.declared.step_refusal.StepRefusal.TheVariants.{Memory, NoSuchTask, Ended, Undeferred, Waiting, Excluded, Children, Group, Full, Stale}
use Rattle.tb_core.specs.Seen.{Seen}
use Rattle.tb_core.specs.Seen as core
use Rattle.tb_core.specs.Situation.{config_of}
use Rattle.tb_core.specs.Outcomes.{event_of, has_ended, hindrance_of}
use Rattle.tb_control.specs.declared.control.Control.{Control}
use Rattle.tb_live.specs.declared.prepared.Prepared.{Prepared}
use Rattle.tb_live.specs.Preparing.{entry_of}
use Rattle.tb_control.specs.Claims.{AreLawful}
use Rattle.tb_control.specs.Controls.{behind_step}
use Rattle.tb_live.specs.Session.{Session, Held, is_full}
use Rattle.tb_live.specs.Moves.{StepsFor, Refuses, StepsBy, LeastStepsFor, for_least, refusal_for, least_task}
use Rattle.tb_live.specs.Soundness.{IsSound, IsLawful}
use Rattle.tb_next.specs.Plans.{IsPlanOf, HasNone}
use Rattle.tb_live.specs.Entering.{IsEntered, IsKeptFrom, Enters, has_no_place}
use Rattle.tb_next.specs.Unevaluated.{IsWanting, IsLeastWanting}
use Rattle.tb_next.proofs.PlanLemmas.{IsPlan, IsReadyPlan, nothing_by, refusal_of_plan, stands_at}
use Rattle.tb_control.proofs.ControlLemmas.{lawful_step}
use Rattle.tb_next.proofs.ReadyLemmas.{can_spawned}
use Rattle.tb_live.proofs.RunLemmas.{shown, shorter, stepped}
use Rattle.tb_model.specs.Lines.{Departure}

-- the journal has more entries than the history has events
pub longer : (P : Program) (limit : ℕ) (entries : List Entry) (run : Seen) → IsSound P limit (reverse entries) run → length run.steps < length entries
longer P limit entries run sound =
    let front : length (hist (reverse entries)) < length (reverse entries) = shorter P (reverse entries) sound.sound in
    omega (arith, front, ap length sound.leaves, length-map run.steps (λ (d : Departure). d.event), length-reverse entries)

unrefused : (o : Option Refusal) → is_none o ≡ true → o ≡ None
unrefused None h = refl
unrefused (Some r) h = absurd (false≢true h)

pub by_some : (h : Hindrance) (o : Option Hindrance) → option_map By o ≡ Some (By h) → o ≡ Some h
by_some h None e = cc
by_some h (Some g) e = cc

-- ---- a planned step

-- what is stored of a Live
pub record Keeps (P : Program) (limit : ℕ) (pushed : List Entry) (after : Control) (new : Seen) : Type 0 where
  pub sound : IsSound P limit (reverse pushed) new
  pub lawful : IsLawful (reverse pushed) after

pub record LiveSteps (seat : ℕ) (P : Program) (limit : ℕ) (s : Session) (t : Name) (pushed : List Entry) (after : Control) (new : Seen) (i : StepId) : Type 0 where
  pub keeps : Keeps P limit pushed after new
  pub steps : StepsFor seat s t (shown P limit pushed after) i

module _ (P : Program) (limit : ℕ) (entries : List Entry) (before : Control) (run : Seen) (s : Session) (shows : shown P limit entries before ≡ s) (sound : IsSound P limit (reverse entries) run) (t : Name) (p : Plan) (plan : IsPlanOf P run t p) where
  abbrev journal : List Entry
  journal = reverse entries

  planned_so : IsPlan P run p
  planned_so = record { here = plan.current.here; instr = plan.instr }

  cells_so : p.instr.cells ≡ length P.cells
  cells_so = plan.fits.cells ∙ ap length sound.fits.cells

  legal_so : LegalFor P (hist journal)
  legal_so = subst (LegalFor P) sound.leaves sound.fits.legal

  -- the task's refusal is what the core finds in its way
  refusal_so : refusal_for s t ≡ option_map By (hindrance_of run p)
  refusal_so =
      ap (λ (z : Session). refusal_for z t) (sym shows) ∙ ap (λ H. refusal_of P H t) (sym sound.leaves) ∙ refusal_of_plan P run t p sound.fits plan

  full_so : has_no_place limit entries ≡ is_full s
  full_so = ap (nat_le limit) (sym (length-reverse entries)) ∙ ap is_full shows

  -- where the plan's task is
  line_so : p.config.at ≡ (situation P t (hist journal)).line
  line_so =
      ap (λ (k : Config). k.at) plan.current.here ∙ ap (λ u. (config_of run u).at) plan.of_task
      ∙ stands_at P run t sound.fits ∙ ap (λ H. (situation P t H).line) sound.leaves

  pub entered : (seat : ℕ) (new : Seen) (pushed : List Entry) (after : Control) (i : StepId) → IsLawful journal before → IsEntered seat run p new entries pushed i → has_no_place limit entries ≡ false
      → after ≡ behind_step p.config.at (event_of run p) before → LiveSteps seat P limit s t pushed after new i
  entered seat new pushed after i lawful e room counts =
      let room' : nat_le limit (length journal) ≡ false = ap (nat_le limit) (length-reverse entries) ∙ room in
      let done = stepped seat P limit journal run new p i sound room' planned_so plan.fits e.steps in
      let v = event_of run p in
      let w = next_event P (hist journal) t in
      let same : v ≡ w = next_computed P (hist journal) v done.next ∙ ap (next_event P (hist journal)) plan.of_task in
      let all : reverse pushed ≡ Stepped seat v ∷ journal = ap reverse e.grows ∙ reverse-append entries (Stepped seat v ∷ []) in
      let behind : after ≡ behind_step (situation P t (hist journal)).line w before = counts ∙ ap₂ (λ (n : ℕ) (u : Event). behind_step n u before) line_so same in
      let kept : IsSound P limit (reverse pushed) new = subst (λ (K : List Entry). IsSound P limit K new) (sym all) done.sound in
      record {
        keeps = record {
          sound = kept;
          lawful =
              subst (λ (K : List Entry). IsLawful K after) (sym all)
              (subst (λ (c : Control). AreLawful (v ∷ hist journal) c.claims) (sym counts) (lawful_step v (hist journal) before.claims (same_name v.task) lawful));
        };
        steps = subst (λ (z : Session). StepsFor seat z t (shown P limit pushed after) i) shows (record {
          may = record {
            unrefused = subst (λ u. refusal_of P (hist journal) u ≡ None) plan.of_task (next_isnt_refused P (hist journal) v sound.fits.well_formed legal_so done.next);
            room = room';
          };
          next = subst (IsNext P (hist journal)) same done.next;
          id = done.id ∙ ap (step_of (hist journal)) same;
          now = ap₂ (λ (K : List Entry) (c : Control). record { program = P; limit = limit; journal = K; control = c }) (all ∙ ap (λ u. Stepped seat u ∷ journal) same) behind;
          back = ap (without i) (sym kept.leaves) ∙ e.steps.back ∙ sound.leaves;
        });
      }

  -- what the core refuses is what the session refuses
  pub refused : (e : StepRefusal) → IsKeptFrom run p (has_no_place limit entries) e → Refuses s t e
  refused NoSuchTask k = absurd (both_ways (is_spawned (core.history run) p.config.task) k plan.current.spawned)
  refused Ended k = absurd (both_ways (has_ended run p.config.task) plan.current.going k.1)
  refused (Stale now) k = absurd (k.elsewhere (plan.current.here ∙ sym k.now_is))
  refused Full k = (refusal_so ∙ ap (option_map By) k.1, sym full_so ∙ k.2)
  refused Memory k = (
    subst (λ (z : Session). is_spawned (hist z.journal) t ≡ true) shows
        (subst (λ H. is_spawned H t ≡ true) sound.leaves (subst (λ u. is_spawned (core.history run) u ≡ true) plan.of_task plan.current.spawned)),
    subst (λ (z : Session). list_any (ends t) (hist z.journal) ≡ false) shows
        (subst (λ H. list_any (ends t) H ≡ false) sound.leaves (subst (λ u. list_any (ends u) (core.history run) ≡ false) plan.of_task plan.current.going)),
    λ n. sym full_so ∙ k.0 plan.current (nothing_by (hindrance_of run p) (sym refusal_so ∙ n)),
    λ h n. k.1 h (record { current = plan.current; hindrance = by_some h (hindrance_of run p) (sym refusal_so ∙ n) }),
  )
  refused _ k = refusal_so ∙ ap (option_map By) k.hindrance

  -- nothing blocks the least task that can step
  clear_so : least_ready P (core.history run) ≡ Some t → refusal_for s t ≡ None
  clear_so l =
      let least = least_found (core.history run) (can_step P (core.history run)) (can_spawned P (core.history run)) in
      ap (λ (z : Session). refusal_for z t) (sym shows)
      ∙ ap (λ H. refusal_of P H t) (sym sound.leaves)
      ∙ unrefused (refusal_of P (core.history run) t) (least.found t l)

-- ---- the answers

-- what stays after a refusal
pub record Stays (P : Program) (limit : ℕ) (s : Session) (pushed : List Entry) (after : Control) (new : Seen) : Type 0 where
  pub keeps : Keeps P limit pushed after new
  pub same : shown P limit pushed after ≡ s

pub stays : (P : Program) (limit : ℕ) (entries pushed : List Entry) (before after : Control) (run new : Seen) (s : Session) → shown P limit entries before ≡ s → IsSound P limit (reverse entries) run × IsLawful (reverse entries) before
    → new ≡ run → pushed ≡ entries → after ≡ before → Stays P limit s pushed after new
stays P limit entries pushed before after run new s shows both same kept left = record {
  keeps = record {
    sound = subst (λ (es : List Entry). IsSound P limit (reverse es) new) (sym kept) (subst (λ (z : Seen). IsSound P limit (reverse entries) z) (sym same) both.0);
    lawful = subst (λ (es : List Entry). IsLawful (reverse es) after) (sym kept) (subst (IsLawful (reverse entries)) (sym left) both.1);
  };
  same = ap₂ (shown P limit) kept left ∙ shows;
}

-- what a Live holds
abbrev pub held : Program → ℕ → List Entry → Control → Option Prepared → Held
held P limit entries control prepared = record { session = shown P limit entries control; prepared = option_map entry_of prepared }

abbrev made : Session → Option Prepared → Held
made s prepared = record { session = s; prepared = option_map entry_of prepared }

pub same_held : (P : Program) (limit : ℕ) (entries pushed : List Entry) (before after : Control) (kept now : Option Prepared) (h : Held) → held P limit entries before kept ≡ h
    → pushed ≡ entries → after ≡ before → now ≡ kept → held P limit pushed after now ≡ h
same_held P limit entries pushed before after kept now h is same left holds = ap₂ made (ap₂ (shown P limit) same left) holds ∙ is

-- a refusal that retains what is prepared changes nothing
pub enters_held : (P : Program) (limit : ℕ) (entries pushed : List Entry) (before after : Control) (kept now : Option Prepared) (h : Held) → held P limit entries before kept ≡ h
    → (seat : ℕ) (run new : Seen) (p : Plan) (result : Result StepId StepRefusal) → Enters limit seat run p new entries pushed before after result
    → OnErr result (now ≡ kept) → OnErr result (held P limit pushed after now ≡ h)
enters_held P limit entries pushed before after kept now h is seat run new p (Ok i) e k = tt
enters_held P limit entries pushed before after kept now h is seat run new p (Err r) e k = same_held P limit entries pushed before after kept now h is e.1 e.2 k

pub record LiveAnswers (P : Program) (limit : ℕ) (s : Session) (t : Name) (pushed : List Entry) (after : Control) (new : Seen) (result : Result StepId StepRefusal) : Type 0 where
  pub keeps : Keeps P limit pushed after new
  pub answer : StepsBy s t (shown P limit pushed after) result

pub live_steps : (P : Program) (limit : ℕ) (entries : List Entry) (before : Control) (run : Seen) (s : Session) → shown P limit entries before ≡ s → IsSound P limit (reverse entries) run × IsLawful (reverse entries) before
    → (t : Name) (p : Plan) → IsPlanOf P run t p → (pushed : List Entry) (after : Control) (new : Seen) (result : Result StepId StepRefusal)
    → Enters limit 0 run p new entries pushed before after result → LiveAnswers P limit s t pushed after new result
live_steps P limit entries before run s shows both t p plan pushed after new (Ok i) e =
    let l = entered P limit entries before run s shows both.0 t p plan 0 new pushed after i both.1 e.0 e.1 e.2 in
    record { keeps = l.keeps; answer = l.steps }
live_steps P limit entries before run s shows both t p plan pushed after new (Err r) e =
    let l = stays P limit entries pushed before after run new s shows both e.0 e.1 e.2 in
    record { keeps = l.keeps; answer = (l.same, refused P limit entries before run s shows both.0 t p plan r e.3) }

-- a task without a plan
pub missing_so : (P : Program) (H : History) (t : Name) → is_spawned H t ≡ false → refusal_of P H t ≡ Some IsMissing
missing_so P H t k = at (is_spawned H t) k
  where
    at : (b : Bool) → b ≡ false → cond (not b) (Some IsMissing) (cond (list_any (ends t) H) (Some IsOver) (option_map By (in_the_way H t (planned P H t zero_ℤ)))) ≡ Some IsMissing
    at false e = refl
    at true e = absurd (false≢true (sym e))

pub over_so : (P : Program) (H : History) (t : Name) → is_spawned H t ≡ true → list_any (ends t) H ≡ true → refusal_of P H t ≡ Some IsOver
over_so P H t k m = at (is_spawned H t) (list_any (ends t) H) k m
  where
    at : (b c : Bool) → b ≡ true → c ≡ true → cond (not b) (Some IsMissing) (cond c (Some IsOver) (option_map By (in_the_way H t (planned P H t zero_ℤ)))) ≡ Some IsOver
    at true true e f = refl
    at true false e f = absurd (false≢true f)
    at false c e f = absurd (false≢true e)

module _ (P : Program) (limit : ℕ) (entries : List Entry) (before : Control) (run : Seen) (s : Session) (shows : shown P limit entries before ≡ s) (sound : IsSound P limit (reverse entries) run) where
  refusal_at : (t : Name) → refusal_for s t ≡ refusal_of P (core.history run) t
  refusal_at t = ap (λ (z : Session). refusal_for z t) (sym shows) ∙ ap (λ H. refusal_of P H t) (sym sound.leaves)

  pub no_plan : (t : Name) (e : StepRefusal) → e ≢ Memory → HasNone run t e → Refuses s t e
  no_plan t NoSuchTask n k = refusal_at t ∙ missing_so P (core.history run) t k
  no_plan t Ended n k = refusal_at t ∙ over_so P (core.history run) t k.0 k.1
  no_plan t Memory n k = absurd (n refl)
  no_plan t _ n k = absurd k

  -- memory was refused for the statement
  pub wanting_so : (t : Name) (full : Bool) (e : StepRefusal) → full ≡ is_full s → HasNone run t Memory → IsWanting P run full t e → Refuses s t e
  wanting_so t full Full f k w = (refusal_at t ∙ unrefused (refusal_of P (core.history run) t) w.1, sym f ∙ w.0)
  wanting_so t full Memory f k w = (
    ap (λ (z : Session). is_spawned (hist z.journal) t) (sym shows) ∙ ap (λ H. is_spawned H t) (sym sound.leaves) ∙ k.0,
    ap (λ (z : Session). list_any (ends t) (hist z.journal)) (sym shows) ∙ ap (λ H. list_any (ends t) H) (sym sound.leaves) ∙ k.1,
    λ n. sym f ∙ w.0 (ap is_none (sym (refusal_at t) ∙ n)),
    λ h n. w.1 h (sym (refusal_at t) ∙ n),
  )
  wanting_so t full NoSuchTask f k w = refusal_at t ∙ w
  wanting_so t full Ended f k w = refusal_at t ∙ w
  wanting_so t full (Stale now) f k w = absurd w
  wanting_so t full (Undeferred u) f k w = refusal_at t ∙ w
  wanting_so t full (Waiting u) f k w = refusal_at t ∙ w
  wanting_so t full (Excluded u) f k w = refusal_at t ∙ w
  wanting_so t full (Children u) f k w = refusal_at t ∙ w
  wanting_so t full (Group u) f k w = refusal_at t ∙ w

  least_at : least_task s ≡ least_ready P (core.history run)
  least_at = ap least_task (sym shows) ∙ ap (least_ready P) (sym sound.leaves)

  -- or in the look for the least task that can step
  pub least_wanting_so : (seat : ℕ) (full : Bool) (e : StepRefusal) → full ≡ is_full s → IsLeastWanting P run full e → LeastStepsFor seat s s (Err e)
  least_wanting_so seat full Full f w = (refl, named (least_ready P (core.history run)) least_at w.1, sym f ∙ w.0)
    where
      named : (o : Option Name) → least_task s ≡ o → is_some o ≡ true → (t : Name) × (least_task s ≡ Some t)
      named None l h = absurd (false≢true h)
      named (Some t) l h = (t, l)
  least_wanting_so seat full Memory f w = (refl, λ n. sym f ∙ w (there (least_ready P (core.history run)) (λ z. n (least_at ∙ z))))
    where
      there : (o : Option Name) → o ≢ None → is_some o ≡ true
      there None h = absurd (h refl)
      there (Some t) h = refl
  least_wanting_so seat full _ f w = absurd w

-- ---- the step of the least task

least_refused : (seat : ℕ) (s new : Session) (t : Name) (e : StepRefusal) → new ≡ s → least_task s ≡ Some t → refusal_for s t ≡ None → Refuses s t e → LeastStepsFor seat s new (Err e)
least_refused seat s new t Full same l clear r = (same, (t, l), r.1)
least_refused seat s new t Memory same l clear r = (same, λ n. r.2 clear)
least_refused seat s new t (Stale now) same l clear r = absurd r
least_refused seat s new t _ same l clear r = cc (clear, r)

pub record LeastAnswers (seat : ℕ) (P : Program) (limit : ℕ) (s : Session) (pushed : List Entry) (after : Control) (new : Seen) (result : Result StepId StepRefusal) : Type 0 where
  pub keeps : Keeps P limit pushed after new
  pub answer : LeastStepsFor seat s (shown P limit pushed after) (for_least result)

-- the least task of the run is that of the session
pub least_so : (P : Program) (limit : ℕ) (entries : List Entry) (before : Control) (run : Seen) (s : Session) → shown P limit entries before ≡ s → IsSound P limit (reverse entries) run → (o : Option Name) → least_ready P (core.history run) ≡ o → least_task s ≡ o
least_so P limit entries before run s shows sound o l = least_at P limit entries before run s shows sound ∙ l

pub live_least : (seat : ℕ) (P : Program) (limit : ℕ) (entries : List Entry) (before : Control) (run : Seen) (s : Session) → shown P limit entries before ≡ s → IsSound P limit (reverse entries) run × IsLawful (reverse entries) before
    → (p : Plan) → IsReadyPlan P run p → (pushed : List Entry) (after : Control) (new : Seen) (result : Result StepId StepRefusal)
    → Enters limit seat run p new entries pushed before after result → LeastAnswers seat P limit s pushed after new result
live_least seat P limit entries before run s shows both p ready pushed after new (Ok i) e =
    let t = p.config.task in
    let l = entered P limit entries before run s shows both.0 t p ready.0 seat new pushed after i both.1 e.0 e.1 e.2 in
    record { keeps = l.keeps; answer = (t, least_so P limit entries before run s shows both.0 (Some t) ready.1, l.steps) }
live_least seat P limit entries before run s shows both p ready pushed after new (Err r) e =
    let t = p.config.task in
    let l = stays P limit entries pushed before after run new s shows both e.0 e.1 e.2 in
    record {
      keeps = l.keeps;
      answer = least_refused seat s (shown P limit pushed after) t r l.same (least_so P limit entries before run s shows both.0 (Some t) ready.1)
          (clear_so P limit entries before run s shows both.0 t p ready.0 ready.1)
          (refused P limit entries before run s shows both.0 t p ready.0 r e.3);
    }
