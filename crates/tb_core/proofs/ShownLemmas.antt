-- What a core says of a task, and why a plan is refused.
use Rattle.std.proofs.Common.{◌≡◌, ◌≢◌, ◌<◌, ◌+◌, ℕ, suc, ◌↔◌, ap₂, inl, inr, List, [], ◌∷◌, Bool, true, false, cond, length, refl, sym, ap, ◌∙◌, subst, arith, Option, Some, None, unwrap_or, nat_lt, nat_le}
use Rattle.std.specs.List.{AllByRecursion, list_all}
use Rattle.std.specs.Prelude.{IfSome, IfNone}
use Rattle.std.specs.Option.{option_map}
use Rattle.std.proofs.lemmas.Bool.{false≢true, true≢false, and_parts}
use Rattle.std.proofs.lemmas.Bool.Decides.{nat_tests}
use Rattle.tb_model.specs.declared.item.Item.{Item}
use Rattle.tb_model.specs.declared.place.Place.{Place}
use Rattle.tb_model.specs.declared.place.Place.TheVariants.{Cell, All}
use Rattle.tb_model.specs.declared.action.Action.{Action}
use Rattle.tb_model.specs.declared.action.Action.TheVariants.{Start, Let, Load, Store, Print, Spawn, Wait, Open, Close, Test, End, Fault}
use Rattle.tb_model.specs.declared.event.Event.{Event}
use Rattle.tb_model.specs.declared.step_id.StepId.{StepId}
use Rattle.tb_model.specs.Names.{Name}
use Rattle.tb_model.specs.Needs.{step_of, without}
use Rattle.tb_model.specs.Lines.{without_lines}
use Rattle.tb_model.specs.Facts.{History, own, is_start, is_spawned, groups}
use Rattle.tb_model.specs.Legal.{Cells, Legal, MayFollow, Continues, IsRunning, IsPlace}
use Rattle.tb_model.specs.State.{status_of, is_over}
use Rattle.tb_model.specs.Program.{loaded}
use Rattle.tb_model.specs.Hindrances.{Hindrance, Refusal, By, in_the_way, number_read}
use Rattle.tb_model.specs.Hindrances.{NoSuchTask as TheTaskIsMissing, Ended as TheTaskIsOver}
use Rattle.tb_model.proofs.HindranceLemmas.{nothing_in_the_way}
use Rattle.tb_model.proofs.StateLemmas.{over_ended}
use Rattle.tb_plan.specs.declared.planned.Plan.{Plan}
use Rattle.tb_plan.specs.declared.config.Config.{Config}
use Rattle.tb_plan.specs.Plans.{names_allowed, line_behind, is_placed, is_place}
use Rattle.tb_undo.specs.State.{known_task, task_of}
use Rattle.tb_undo.specs.Standings.{Standing, standing_of}
use Rattle.tb_core.specs.declared.step_refusal.StepRefusal.{StepRefusal}
use Rattle.tb_core.specs.declared.step_refusal.StepRefusal.TheVariants.{Memory, Full, Stale}
use Rattle.tb_core.specs.Seen.{Seen, history}
use Rattle.tb_core.specs.Situation.{config_of}
use Rattle.tb_core.specs.Filling.{completed}
use Rattle.tb_core.specs.Refusals.{told_by}
use Rattle.tb_core.specs.Naming.{config_with, IsStaleAnswer, IsNamed}
use Rattle.tb_core.specs.Outcomes.{IsKept, IsKeptBy, IsTold, Fits, IsCurrent, IsOpen, IsStale, IsHindered, MayTake, Takes, Steps, Refuses, hindrance_of, has_ended, event_for, grown_by}

-- ---- where a task is

module _ (s : Seen) (t : Name) (o : Option Standing) (told : o ≡ option_map standing_of (task_of s.root_line s.steps t)) where
  at_spawned : (b : Bool) → is_spawned (history s) t ≡ b → o ≡ option_map standing_of (cond b (Some (known_task s.root_line s.steps t)) None)
  at_spawned b e = told ∙ ap (λ c. option_map standing_of (cond c (Some (known_task s.root_line s.steps t)) None)) e

  pub not_there : o ≡ None → is_spawned (history s) t ≡ false
  not_there n = at (is_spawned (history s) t) refl
    where
      at : (b : Bool) → is_spawned (history s) t ≡ b → b ≡ false
      at false e = refl
      at true e = absurd (none _ (sym n ∙ at_spawned true e))
        where
          none : {A : Type 0} (x : A) → ◌≡◌ {A = Option A} None (Some x) → ⊥
          none x z = cc

  pub is_there : (st : Standing) → o ≡ Some st → is_spawned (history s) t ≡ true
  is_there st h = at (is_spawned (history s) t) refl
    where
      at : (b : Bool) → is_spawned (history s) t ≡ b → b ≡ true
      at true e = refl
      at false e = absurd (none st (sym (at_spawned false e) ∙ h))
        where
          none : {A : Type 0} (x : A) → ◌≡◌ {A = Option A} None (Some x) → ⊥
          none x z = cc

  pub stands_as : (st : Standing) → o ≡ Some st → config_of s t ≡ config_with t st
  stands_as st h = ap (config_with t) (ap (λ x. unwrap_or x st) (sym (at_spawned true (is_there st h)) ∙ h))

  -- the configuration is returned
  pub config_told : (st : Standing) → o ≡ Some st → Some (config_with t st) ≡ cond (is_spawned (history s) t) (Some (config_of s t)) None
  config_told st h = sym (ap (λ b. cond b (Some (config_of s t)) None) (is_there st h) ∙ ap Some (stands_as st h))

  pub none_told : o ≡ None → ◌≡◌ {A = Option Config} None (cond (is_spawned (history s) t) (Some (config_of s t)) None)
  none_told n = sym (ap (λ b. cond b (Some (config_of s t)) None) (not_there n))

-- where the task is, as the call's answer says it
pub some_stands : (s : Seen) (t : Name) (o : Option Standing) → o ≡ option_map standing_of (task_of s.root_line s.steps t)
    → IfSome o (λ k. (is_spawned (history s) t ≡ true) × (config_of s t ≡ config_with t k))
some_stands s t None told = tt
some_stands s t (Some k) told = (is_there s t (Some k) told k refl, stands_as s t (Some k) told k refl)

pub none_stands : (s : Seen) (t : Name) (o : Option Standing) → o ≡ option_map standing_of (task_of s.root_line s.steps t)
    → IfNone o (is_spawned (history s) t ≡ false)
none_stands s t None told = not_there s t None told refl
none_stands s t (Some k) told = tt

-- ---- the plan's event may follow

placed_all : (cells : Cells) (items : List Item) → list_all (is_placed (length cells)) items ≡ true → AllByRecursion (λ (i : Item). IsPlace cells i.place) items
placed_all cells [] h = tt
placed_all cells (i ∷ items) h =
    let parts = and_parts (is_placed (length cells) i) (list_all (is_placed (length cells)) items) h in
    (one i.place parts.0, placed_all cells items parts.1)
  where
    one : (p : Place) → is_place (length cells) p ≡ true → IsPlace cells p
    one (Cell c) e = grind (arith, nat_tests)
    one All e = tt

running : (acts : List Action) → is_over (status_of acts) ≡ false → acts ≢ [] → IsRunning acts
running [] o n = absurd (n refl)
running (End ∷ acts) o n = absurd (true≢false o)
running (Fault ∷ acts) o n = absurd (true≢false o)
running (Start ∷ acts) o n = refl
running (Let r x ∷ acts) o n = refl
running (Load r c x ∷ acts) o n = refl
running (Store c x ∷ acts) o n = refl
running (Print x ∷ acts) o n = refl
running (Spawn s ∷ acts) o n = refl
running (Wait items ∷ acts) o n = refl
running (Open ∷ acts) o n = refl
running (Close ∷ acts) o n = refl
running (Test b ∷ acts) o n = refl

continues : (cells : Cells) (H : History) (t : Name) (a : Action) → names_allowed (length cells) a ≡ true → is_over (status_of (own t H)) ≡ false
    → (is_start a ≡ true) ↔ (own t H ≡ []) → (a ≡ Close → groups (own t H) ≢ [])
    → Continues cells t (own t H) (completed cells H t a)
continues cells H t Start p o s g = s.0 refl
continues cells H t (Let r x) p o s g = (running (own t H) o (λ e. false≢true (s.1 e)), grind (arith, nat_tests))
continues cells H t (Load r c x) p o s g =
    let q = and_parts (nat_lt r 16) (nat_lt c (length cells)) p in
    (running (own t H) o (λ e. false≢true (s.1 e)), grind (arith, nat_tests, q.0), grind (arith, nat_tests, q.1))
continues cells H t (Store c x) p o s g = (running (own t H) o (λ e. false≢true (s.1 e)), grind (arith, nat_tests))
continues cells H t (Print x) p o s g = running (own t H) o (λ e. false≢true (s.1 e))
continues cells H t (Spawn spawn) p o s g =
    let q = and_parts (nat_le (length spawn.args) 16) (list_all (is_placed (length cells)) spawn.items) p in
    (running (own t H) o (λ e. false≢true (s.1 e)), refl, grind (arith, nat_tests, q.0), placed_all cells spawn.items q.1)
continues cells H t (Wait items) p o s g = (running (own t H) o (λ e. false≢true (s.1 e)), placed_all cells items p)
continues cells H t Open p o s g = running (own t H) o (λ e. false≢true (s.1 e))
continues cells H t Close p o s g = (running (own t H) o (λ e. false≢true (s.1 e)), g refl)
continues cells H t (Test b) p o s g = running (own t H) o (λ e. false≢true (s.1 e))
continues cells H t End p o s g = running (own t H) o (λ e. false≢true (s.1 e))
continues cells H t Fault p o s g = running (own t H) o (λ e. false≢true (s.1 e))

-- what is filled in blocks no action
same_way : (cells : Cells) (H : History) (t : Name) (a : Action) → in_the_way H t (completed cells H t a) ≡ in_the_way H t a
same_way cells H t (Load r c x) = refl
same_way cells H t (Spawn s) = refl
same_way cells H t Start = refl
same_way cells H t (Let r x) = refl
same_way cells H t (Store c x) = refl
same_way cells H t (Print x) = refl
same_way cells H t (Wait items) = refl
same_way cells H t Open = refl
same_way cells H t Close = refl
same_way cells H t (Test b) = refl
same_way cells H t End = refl
same_way cells H t Fault = refl

reads : (cells : Cells) (H : History) (t : Name) (a : Action) → loaded (completed cells H t a) ≡ number_read cells H (completed cells H t a)
reads cells H t (Load r c x) = refl
reads cells H t (Spawn s) = refl
reads cells H t Start = refl
reads cells H t (Let r x) = refl
reads cells H t (Store c x) = refl
reads cells H t (Print x) = refl
reads cells H t (Wait items) = refl
reads cells H t Open = refl
reads cells H t Close = refl
reads cells H t (Test b) = refl
reads cells H t End = refl
reads cells H t Fault = refl

pub may_take : (s : Seen) (t : Name) (a : Action) → Legal s.cells (history s) → MayTake s t a → MayFollow s.cells (history s) (event_for s t a)
may_take s t a legal may =
    let H = history s in
    let going : is_over (status_of (own t H)) ≡ false = sym (over_ended s.cells H t legal) ∙ may.going in
    let k = continues s.cells H t a may.allowed going may.starts may.closes in
    (nothing_in_the_way s.cells H t (completed s.cells H t a) may.spawned k (reads s.cells H t a)).0 (same_way s.cells H t a ∙ may.clear)

-- an open plan's action may be executed
pub open_takes : (s : Seen) (p : Plan) → Fits s p → IsOpen s p → MayTake s p.config.task p.action
open_takes s p fits o =
    let here = o.current.here in
    record {
      spawned = o.current.spawned;
      going = o.current.going;
      allowed = ap (λ n. names_allowed n p.action) (sym fits.cells) ∙ p.allowed;
      starts = fits.starts here;
      closes = fits.closes here;
      clear = o.clear;
      room = o.room;
    }

-- where the plan's action is executed, its step is
pub takes_steps : (s : Seen) (p : Plan) (to : ℕ) (new : Seen) (v : Event) (i : StepId) → IsCurrent s p → length s.steps < s.limit
    → Takes s p.config.task p.action to new v → line_behind p.instr p.config p.action ≡ to → i.task ≡ p.config.task → i.k ≡ p.config.steps + 1 → Steps s p new i
takes_steps s p to new v i current room k line task number =
    let counted : p.config.steps + 1 ≡ suc (length (own p.config.task (history s))) = omega (arith, ap (λ c. c.steps) current.here) in
    let here : i ≡ step_of (history s) v =
    named i ∙ ap₂ (λ (t : Name) (n : ℕ). id_of t n) task (number ∙ counted) ∙ ap (step_of (history s)) (sym k.event)
    in
    record {
      current = current;
      room = room;
      may = subst (MayFollow s.cells (history s)) k.event k.may;
      now = k.now ∙ ap₂ (λ (w : Event) (n : ℕ). grown_by w n s) k.event (sym line);
      id = here ∙ ap (step_of (history s)) k.event;
      back = subst (λ j. without j (history new) ≡ history s) (sym here) k.back;
      lines = subst (λ j. without_lines j new.steps ≡ s.steps) (sym here) k.lines;
    }
  where
    id_of : Name → ℕ → StepId
    id_of t n = record { task = t; k = n }

    named : (j : StepId) → j ≡ id_of j.task j.k
    named j = refl

-- ---- why a plan is refused

pub current : (s : Seen) (p : Plan) → is_spawned (history s) p.config.task ≡ true → has_ended s p.config.task ≡ false → p.config ≡ config_of s p.config.task
    → IsCurrent s p
current s p there going here = record { spawned = there; going = going; here = here }

pub stale_refuses : (s : Seen) (p : Plan) (now : Config) (r : StepRefusal) → is_spawned (history s) p.config.task ≡ true → has_ended s p.config.task ≡ false
    → config_of s p.config.task ≡ now → p.config ≢ now
    → IsStaleAnswer now r → IsKept s p r
stale_refuses s p now (Stale c) there going e n h = record { spawned = there; going = going; now_is = h ∙ sym e; elsewhere = λ z. n (z ∙ h) }
stale_refuses s p now Memory there going e n h = inl (now, record { spawned = there; going = going; now_is = sym e; elsewhere = n })
stale_refuses s p now _ there going e n h = absurd h

-- a refusal is right by what it says
told_refuses : (s : Seen) (p : Plan) (r : StepRefusal) (k : Refusal) → told_by r ≡ Some k → IsTold s p (Some k) → IsKept s p r
told_refuses s p Memory k e w = absurd (none e)
  where
    none : ◌≡◌ {A = Option Refusal} None (Some k) → ⊥
    none z = cc
told_refuses s p Full k e w = absurd (none e)
  where
    none : ◌≡◌ {A = Option Refusal} None (Some k) → ⊥
    none z = cc
told_refuses s p (Stale now) k e w = absurd (none e)
  where
    none : ◌≡◌ {A = Option Refusal} None (Some k) → ⊥
    none z = cc
told_refuses s p _ k e w = subst (IsTold s p) (sym e) w

pub hindered_refuses : (s : Seen) (p : Plan) (h : Hindrance) (r : StepRefusal) → IsCurrent s p → hindrance_of s p ≡ Some h → IsNamed h r → IsKept s p r
hindered_refuses s p h Memory c e n = inr (h, record { current = c; hindrance = e }, n)
hindered_refuses s p h r c e n = told_refuses s p r (By h) n (record { current = c; hindrance = e })

pub kept_by : (s : Seen) (p : Plan) (r : StepRefusal) → IsCurrent s p → IsKeptBy s p.config.task p.action r → IsKept s p r
kept_by s p r c k = hindered_refuses s p k.hindrance r c k.found k.named

-- what is blocked is refused
pub kept_refuses : (s : Seen) (p : Plan) (r : StepRefusal) → IsKept s p r → Refuses s p r
kept_refuses s p Memory k = inr k
kept_refuses s p _ k = k

hindered_closed : (s : Seen) (p : Plan) (h : Hindrance) → IsHindered s p h → IsOpen s p → ⊥
hindered_closed s p h k o = none (sym o.clear ∙ k.hindrance)
  where
    none : ◌≡◌ {A = Option Hindrance} None (Some h) → ⊥
    none z = cc

stale_closed : (s : Seen) (p : Plan) (now : Config) → IsStale s p now → IsOpen s p → ⊥
stale_closed s p now k o = k.elsewhere (o.current.here ∙ sym k.now_is)

told_closed : (s : Seen) (p : Plan) (q : Option Refusal) → IsTold s p q → IsOpen s p → ⊥
told_closed s p (Some TheTaskIsMissing) k o = false≢true (sym k ∙ o.current.spawned)
told_closed s p (Some TheTaskIsOver) k o = false≢true (sym o.current.going ∙ k.1)
told_closed s p (Some (By h)) k o = hindered_closed s p h k o
told_closed s p None k o = absurd k

-- a step that is refused isn't open
pub kept_closed : (s : Seen) (p : Plan) (r : StepRefusal) → IsKept s p r → IsOpen s p → ⊥
kept_closed s p Memory (inl k) o = stale_closed s p k.0 k.1 o
kept_closed s p Memory (inr k) o = hindered_closed s p k.0 k.1 o
kept_closed s p Full k o = omega (arith, k.2, o.room)
kept_closed s p (Stale now) k o = stale_closed s p now k o
kept_closed s p r k o = told_closed s p (told_by r) k o

-- a step that is open wants memory
pub open_refuses : (s : Seen) (p : Plan) → IsOpen s p → Refuses s p Memory
open_refuses s p o = inl o
