-- What is left without a step and all that need it is legal.
use Rattle.std.proofs.Common.{◌≡◌, ◌<◌, ◌≤◌, suc, length, eq-eqb, ne_eqb, [], ◌∷◌, Bool, true, false, ◌&&◌, ◌||◌, not, refl, sym, ap, ◌∙◌, subst, ◌==◌, arith, ⊎_elim}
use Rattle.std.specs.List.{list_any}
use Rattle.std.proofs.lemmas.Bool.{or_left, or_right, or_parts, and_parts, and_from, or_cases}
use Rattle.tb_model.specs.declared.action.Action.{Action}
use Rattle.tb_model.specs.declared.action.Action.TheVariants.{Start, Load, Wait, Close}
use Rattle.tb_model.specs.declared.event.Event.{Event}
use Rattle.tb_model.specs.Names.{Name, same_name}
use Rattle.tb_model.specs.Facts.{History, is_of, own, prepend_if, is_end, before, apart, spawns, ends, starts, is_member, holds, HasEnded, IsSpawned, is_print}
use Rattle.tb_model.specs.Legal.{Cells, first_number, Continues, IsResumed, IsTimely, MayFollow, Legal}
use Rattle.tb_model.specs.declared.step_id.StepId.{StepId}
use Rattle.tb_model.specs.Needs.{conflicts, waits_for, needs_end_of, needs, is_step, step_of, removed, is_removed, without}
use Rattle.std.proofs.Common.{ap₂}
use Rattle.tb_model.proofs.TestLemmas.{none_weaker, same_true, same_refl}
use Rattle.tb_model.proofs.PartsLemmas as parts
use Rattle.tb_model.proofs.PartsLemmas.{Parts, any_up, any_split, any_stays, own_same, last_same, before_up, apart_up, covers_up, spawned_up}
use Rattle.tb_model.proofs.PartsLemmas.{stores_to}

abbrev pub event : Name → Action → Event
event t a = record { task = t; action = a }

-- ---- the ways to need an event

module _ (H : History) (t : Name) (a : Action) (u : Event) where
  -- the kinds of need, each by itself: own events
  pub needs_own : is_of t u ≡ true → needs H (event t a) u ≡ true
  needs_own h = or_left (is_of t u) _ h

  -- the spawn of one's task
  pub needs_spawn : spawns t u ≡ true → needs H (event t a) u ≡ true
  needs_spawn h = or_right (is_of t u) _ (or_left (spawns t u) _ h)

  -- conflicts over a cell
  pub needs_cell : conflicts a u.action ≡ true → needs H (event t a) u ≡ true
  needs_cell h = or_right (is_of t u) _ (or_right (spawns t u) _ (or_left (conflicts a u.action) _ h))

  needs_end : is_end u.action ≡ true → needs_end_of H t a u.task ≡ true → needs H (event t a) u ≡ true
  needs_end e w =
      or_right (is_of t u) _ (or_right (spawns t u) _ (or_right (conflicts a u.action) _ (or_left (is_end u.action && needs_end_of H t a u.task) _ (and_from (is_end u.action) (needs_end_of H t a u.task) e w))))

-- ---- one event that stays

module _ (H K R : History) (s : Parts H K R) (t : Name) (a : Action) (n : list_any (needs H (event t a)) R ≡ false) where
  -- the end that it comes after stays
  follows_stay : (u : Name) → needs_end_of H t a u ≡ true → HasEnded H u → HasEnded K u
  follows_stay u w h =
      let f : (v : Event) → ends u v ≡ true → needs H (event t a) v ≡ true =
      λ v e. let o = and_parts (same_name v.task u) (is_end v.action) e in needs_end H t a v o.1 (subst (λ x. needs_end_of H t a x ≡ true) (sym (same_true v.task u o.0)) w)
      in any_stays (ends u) s (none_weaker (ends u) (needs H (event t a)) f R n) h

  end_stays : (u : Name) → waits_for H t a u ≡ true → HasEnded H u → HasEnded K u
  end_stays u w h = follows_stay u (or_right (holds (own t H) u) _ w) h

  own_stays : own t K ≡ own t H
  own_stays = own_same t s (none_weaker (is_of t) (needs H (event t a)) (needs_own H t a) R n)

  resumed_stays : IsResumed H t → IsResumed K t
  resumed_stays m = λ u h. let h' = subst (λ acts. holds acts u ≡ true) own_stays h in follows_stay u (or_left (holds (own t H) u) _ h') (m u h')

-- what starts had been spawned, by an event that stays
spawn_stays : (H K R : History) → Parts H K R → (t : Name) → list_any (needs H (event t Start)) R ≡ false → IsSpawned H t → IsSpawned K t
spawn_stays H K R s [] n h = refl
spawn_stays H K R s (k ∷ t) n h =
    any_stays (spawns (k ∷ t)) s (none_weaker (spawns (k ∷ t)) (needs H (event (k ∷ t) Start)) (needs_spawn H (k ∷ t) Start) R n) h

timely_stays : (cells : Cells) (H K R : History) → Parts H K R → (t : Name) (a : Action) → list_any (needs H (event t a)) R ≡ false → IsTimely cells H t a → IsTimely cells K t a
timely_stays cells H K R s t Start n m = record {
  spawned = spawn_stays H K R s t n m.spawned;
  behind = λ u b. let b' = before_up u t s b in end_stays H K R s t Start n u (or_left (before H u t) (apart H u t) b') (m.behind u b');
  alone = λ u b st. let b' = apart_up u t s b in end_stays H K R s t Start n u (or_right (before H u t) (apart H u t) b') (m.alone u b' (any_up (starts u) s st));
}
timely_stays cells H K R s t (Load r c x) n m =
    m ∙ sym (last_same (first_number cells c) c s (none_weaker (stores_to c) (needs H (event t (Load r c x))) (needs_cell H t (Load r c x)) R n))
timely_stays cells H K R s t (Wait items) n m =
    λ u b sp. let b' = covers_up t items u s b in end_stays H K R s t (Wait items) n u b' (m u b' (spawned_up u s sp))
timely_stays cells H K R s t Close n m =
    λ u b sp. let b' = subst (λ acts. is_member acts u ≡ true) (own_stays H K R s t Close n) b in end_stays H K R s t Close n u b' (m u b' (spawned_up u s sp))
timely_stays cells H K R s t _ n m = tt

-- an event that needs nothing of what goes may follow what stays
pub follows_stays : (cells : Cells) (H K R : History) → Parts H K R → (v : Event) → list_any (needs H v) R ≡ false → MayFollow cells H v → MayFollow cells K v
follows_stays cells H K R s v n m = record {
  own = subst (λ acts. Continues cells v.task acts v.action) (sym (own_stays H K R s v.task v.action n)) m.own;
  resumed = resumed_stays H K R s v.task v.action n m.resumed;
  timely = timely_stays cells H K R s v.task v.action n m.timely;
}

-- ---- what needs where less is in front, needs where all does

waits_for_up : {H K R : History} → Parts H K R → (t : Name) (a : Action) (u : Name) → own t K ≡ own t H → waits_for K t a u ≡ true → waits_for H t a u ≡ true
waits_for_up {H} {K} s t Start u o h =
    ⊎_elim (λ b. or_left (before H u t) (apart H u t) (before_up u t s b)) (λ b. or_right (before H u t) (apart H u t) (apart_up u t s b)) (or_cases (before K u t) (apart K u t) h)
waits_for_up s t (Wait items) u o h = covers_up t items u s h
waits_for_up s t Close u o h = subst (λ acts. is_member acts u ≡ true) o h
waits_for_up s t _ u o h = h

needs_end_up : {H K R : History} → Parts H K R → (t : Name) (a : Action) (u : Name) → own t K ≡ own t H → needs_end_of K t a u ≡ true → needs_end_of H t a u ≡ true
needs_end_up {H} {K} s t a u o h =
    ⊎_elim (λ x. or_left (holds (own t H) u) _ (subst (λ acts. holds acts u ≡ true) o x)) (λ x. or_right (holds (own t H) u) _ (waits_for_up s t a u o x)) (or_cases (holds (own t K) u) (waits_for K t a u) h)

-- a direct need after those that stay is one after all
pub needs_up : {H K R : History} → Parts H K R → (w u : Event) → own w.task K ≡ own w.task H → needs K w u ≡ true → needs H w u ≡ true
needs_up {H} {K} s w u o h =
    let a = is_of w.task u in
    let b = spawns w.task u in
    let c = conflicts w.action u.action in
    let p = is_print w.action && is_print u.action in
    let x = is_end u.action && needs_end_of K w.task w.action u.task in
    let y = is_end u.action && needs_end_of H w.task w.action u.task in
    ⊎_elim (λ q. or_left a _ q)
    (λ r. or_right a _ (⊎_elim (λ q. or_left b _ q)
    (λ r. or_right b _ (⊎_elim (λ q. or_left c _ q)
    (λ r. or_right c _ (⊎_elim
    (λ q. let e = and_parts (is_end u.action) (needs_end_of K w.task w.action u.task) q in or_left y p (and_from (is_end u.action) (needs_end_of H w.task w.action u.task) e.0 (needs_end_up s w.task w.action u.task o e.1)))
    (λ q. or_right y p q) (or_cases x p r)))
    (or_cases c (x || p) r)))
    (or_cases b (c || (x || p)) r)))
    (or_cases a (b || (c || (x || p))) h)

-- ---- the whole history

-- one event more stays or goes
pub part : (b : Bool) (v : Event) {H K R : History} → Parts H K R → Parts (v ∷ H) (prepend_if (not b) v K) (prepend_if b v R)
part true v s = parts.goes s
part false v s = parts.stays s

-- a history is what is left of it and what is removed
pub in_parts : (e : StepId) (H : History) → Parts H (without e H) (removed e H)
in_parts e [] = parts.none
in_parts e (v ∷ H) = part (is_removed e H v) v (in_parts e H)

removal_at : (cells : Cells) (e : StepId) (v : Event) (H : History) (b : Bool) → is_removed e H v ≡ b → Legal cells (without e H) → MayFollow cells H v → Legal cells (prepend_if (not b) v (without e H))
removal_at cells e v H true g l m = l
removal_at cells e v H false g l m =
    (l, follows_stays cells H (without e H) (removed e H) (in_parts e H) v (or_parts (is_step e H v) (list_any (needs H v) (removed e H)) g).1 m)

-- what is left is legal
pub removal : (cells : Cells) (e : StepId) (H : History) → Legal cells H → Legal cells (without e H)
removal cells e [] l = tt
removal cells e (v ∷ H) l = removal_at cells e v H (is_removed e H v) refl (removal cells e H l.0) l.1

-- ---- a step that the history doesn't have

-- a task's events grow in number
pub own_grows : (t : Name) (v : Event) (H : History) → length (own t H) ≤ length (own t (v ∷ H))
own_grows t v H = at (is_of t v)
  where
    at : (b : Bool) → length (own t H) ≤ length (prepend_if b v.action (own t H))
    at true = omega arith
    at false = omega arith

-- an ordinal that isn't reached is no step
pub not_step : (e : StepId) (H : History) (v : Event) → length (own e.task (v ∷ H)) < e.k → is_step e H v ≡ false
not_step e H v h = at (is_of e.task v) refl h
  where
    at : (b : Bool) → is_of e.task v ≡ b → length (prepend_if b v.action (own e.task H)) < e.k → (b && (e.k == suc (length (own e.task H)))) ≡ false
    at true q h = ne_eqb e.k (suc (length (own e.task H))) (λ z. omega arith)
    at false q h = refl

-- nothing needs it, and all stays
pub removed_none : (e : StepId) (H : History) → length (own e.task H) < e.k → removed e H ≡ []
removed_none e [] h = refl
removed_none e (v ∷ H) h =
    let r = removed_none e H (omega (arith, own_grows e.task v H)) in
    ap₂ (λ b R. prepend_if (b || list_any (needs H v) R) v R) (not_step e H v h) r

pub without_none : (e : StepId) (H : History) → length (own e.task H) < e.k → without e H ≡ H
without_none e [] h = refl
without_none e (v ∷ H) h =
    let l : length (own e.task H) < e.k = omega (arith, own_grows e.task v H) in
    let g : is_removed e H v ≡ false = ap₂ (λ b R. b || list_any (needs H v) R) (not_step e H v h) (removed_none e H l) in
    ap₂ (λ b K. prepend_if (not b) v K) g (without_none e H l)

-- the step that an event is, is that event
pub its_step : (H : History) (v : Event) → is_step (step_of H v) H v ≡ true
its_step H v = and_from (is_of v.task v) _ (same_refl v.task) (eq-eqb (suc (length (own v.task H))) _ refl)

-- without the newest step all else is left
pub without_newest : (H : History) (v : Event) → without (step_of H v) (v ∷ H) ≡ H
without_newest H v =
    let e = step_of H v in
    let g : is_removed e H v ≡ true = or_left (is_step e H v) _ (its_step H v) in
    ap (λ b. prepend_if (not b) v (without e H)) g ∙ without_none e H (omega arith)
