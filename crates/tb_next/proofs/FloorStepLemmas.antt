-- The search start after a step, and the look from it to the least task that can step.
use Rattle.std.proofs.Common.{◌≡◌, ◌≢◌, ⊎_elim, ℕ, [], ◌∷◌, Bool, true, false, refl, sym, ap, ◌∙◌, subst, IsTrue, Option, Some, None}
use Rattle.std.specs.Prelude.{is_none, option_map, slice_get}
use Rattle.std.specs.List.{list_any}
use Rattle.std.specs.Ordering.{ordering_reverse, is_eq, is_gt}
use Rattle.std.specs.declared.cmp.Ordering.{Ordering}
use Rattle.std.specs.declared.cmp.Ordering.TheVariants.{Less, Equal, Greater}
use Rattle.std.proofs.lemmas.Bool.{false≢true, both_ways}
use Rattle.tb_model.specs.declared.event.Event.{Event}
use Rattle.tb_model.specs.declared.step_id.StepId.{StepId}
use Rattle.tb_model.specs.Names.{Name, is_child, name_cmp}
use Rattle.tb_model.specs.NameLaws.{name_cmp_total, name_cmp_ties}
use Rattle.tb_model.specs.Facts.{History, is_end, ends}
use Rattle.tb_model.specs.LeastNames.{IsAtMost, IsLeastName}
use Rattle.tb_model.specs.Program.{Program, LegalFor}
use Rattle.tb_model.specs.Hindrances.{Hindrance, By, can_step, least_ready}
use Rattle.tb_model.proofs.TestLemmas.{same_true}
use Rattle.tb_model.proofs.LeastNameLemmas.{one_least, least_found, at_most_itself}
use Rattle.tb_laws.proofs.NextStepLemmas.{next_isnt_refused}
use Rattle.tb_plan.specs.declared.planned.Plan.{Plan}
use Rattle.tb_core.specs.Seen.{Seen}
use Rattle.tb_core.specs.Seen as core
use Rattle.tb_core.specs.Outcomes.{event_of, hindrance_of, Steps}
use Rattle.tb_control.specs.Claims.{Claims, IsFreeBeside}
use Rattle.tb_next.specs.Floor.{IsFloor, IsRaised, IsKeptBelow, IsLowered, IsCarried, IsPassed}
use Rattle.tb_next.specs.Plans.{IsPlanOf, CanTake}
use Rattle.tb_next.specs.Fitting.{Fits}
use Rattle.tb_next.proofs.NativeLemmas.{next_so}
use Rattle.tb_next.proofs.FloorLemmas.{floor_stays, floor_lowered}
use Rattle.tb_next.proofs.PlanLemmas.{IsPlan, IsReadyPlan, refusal_of_plan}
use Rattle.tb_next.proofs.ReadyLemmas.{can_spawned}

-- ---- the lesser of two names

at_most_other : (f t : Name) → name_cmp f t ≡ Greater → IsAtMost t f
at_most_other f t e g = cc (name_cmp_total.antisymm f t, e, ap ordering_reverse g)

not_greater : (o : Ordering) → is_gt o ≡ false → o ≢ Greater
not_greater Less h e = cc
not_greater Equal h e = cc
not_greater Greater h e = false≢true (sym h)

greater : (o : Ordering) → is_gt o ≡ true → o ≡ Greater
greater Less h = absurd (false≢true h)
greater Equal h = absurd (false≢true h)
greater Greater h = refl

-- by the test, the name replaces the search start or not
pub below_task : (t f : Name) (old : Option Name) (o : Ordering) (b : Bool) → old ≡ Some f → o ≡ name_cmp f t → b ≡ is_gt o → b ≡ true → IsKeptBelow t old (Some t)
below_task t f old o b e c d h = (f, e, at_most_other f t (sym c ∙ greater o (sym d ∙ h)), at_most_itself t)

pub below_floor : (t f : Name) (old : Option Name) (o : Ordering) (b : Bool) → old ≡ Some f → o ≡ name_cmp f t → b ≡ is_gt o → b ≡ false → IsKeptBelow t old old
below_floor t f old o b e c d h = subst (IsKeptBelow t old) (sym e) (f, e, at_most_itself f, subst (λ q. q ≢ Greater) c (not_greater o (sym d ∙ h)))

-- ---- what the newest step leaves

child_so : (p t : Name) → is_child p t ≡ true → (n : ℕ) × (t ≡ n ∷ p)
child_so p [] h = absurd (false≢true h)
child_so p (n ∷ t) h = (n, ap (λ u. n ∷ u) (same_true t p h))

newest_so : (H F : History) (e v : Event) → slice_get H 0 ≡ Some e → H ≡ v ∷ F → v ≡ e
newest_so H F e v s same = let q : ◌≡◌ {A = Option Event} (Some v) (Some e) = sym (ap (λ K. slice_get K 0) same) ∙ s in cc

pub carried_none : (H : History) (old new : Option Name) → slice_get H 0 ≡ None → IsCarried H old new
carried_none H old new s P v F same legal can floor = let q : ◌≡◌ {A = Option Event} (Some v) None = sym (ap (λ K. slice_get K 0) same) ∙ s in cc

pub carried_same : (H : History) (e : Event) (old : Option Name) → slice_get H 0 ≡ Some e → is_end e.action ≡ false → IsCarried H old old
carried_same H e None s no_end P v F same legal can floor = tt
carried_same H e (Some f) s no_end P v F same legal can floor =
    subst (λ K. IsFloor P K (Some f)) (sym same)
    (floor_stays P v F f (subst (LegalFor P) same legal) (ap (λ (w : Event). is_end w.action) (newest_so H F e v s same) ∙ no_end) (floor v.task can) floor)

pub carried_lowered : (H : History) (e : Event) (old new : Option Name) → slice_get H 0 ≡ Some e → IsLowered H e.task old new → IsCarried H old new
carried_lowered H e old None s low P v F same legal can floor = tt
carried_lowered H e old (Some g) s low P v F same legal can floor =
    let p = low.0 in
    let k = low.3 in
    let task = child_so p e.task low.1 in
    subst (λ K. IsFloor P K (Some g)) (sym same)
    (floor_lowered P v F k.0 g task.0 p (subst (LegalFor P) same legal) (ap (λ (w : Event). w.task) (newest_so H F e v s same) ∙ task.1) (subst (λ K. list_any (ends p) K ≡ false) same low.2)
    k.2 k.3 (subst (IsFloor P F) k.1 floor))

-- ---- a step that is executed

pub floor_stepped : (P : Program) (run new : Seen) (t : Name) (p : Plan) (i : StepId) → Fits P run → IsPlanOf P run t p → Steps run p new i → (old now : Option Name) → IsCarried (core.history new) old now → IsFloor P (core.history run) old → IsFloor P (core.history new) now
floor_stepped P run new t p i f plan k old now carried floor =
    let v = event_of run p in
    let H = core.history run in
    let is : IsPlan P run p = record { here = plan.current.here; instr = plan.instr } in
    let next = next_so P run p f is (plan.fits.cells ∙ ap Rattle.std.specs.Prelude.length f.cells) k.may in
    let same : core.history new ≡ v ∷ H = ap core.history k.now in
    let legal : LegalFor P (v ∷ H) = ((f.legal.0, next.may), (f.legal.1, next.follows)) in
    carried P v H same (subst (LegalFor P) (sym same) legal) (ap is_none (next_isnt_refused P H v f.well_formed f.legal next)) floor

-- ---- the look from the search start

module _ (P : Program) (H : History) where
  -- the search start can't step
  pub passed_floor : (f : Name) → IsFloor P H (Some f) → can_step P H f ≡ false → IsPassed P H (Some f)
  passed_floor f floor never u h = by_cmp (name_cmp f u) refl
    where
      by_cmp : (o : Ordering) → name_cmp f u ≡ o → name_cmp f u ≡ Less
      by_cmp Less e = e
      by_cmp Equal e = absurd (both_ways (can_step P H u) (subst (λ w. can_step P H w ≡ false) (same_true f u (name_cmp_ties f u ∙ ap is_eq e)) never) h)
      by_cmp Greater e = absurd (floor u h e)

  -- it can
  pub floor_ready : (f : Name) → IsFloor P H (Some f) → can_step P H f ≡ true → least_ready P H ≡ Some f
  floor_ready f floor can =
      one_least (λ u. IsTrue (can_step P H u)) (least_ready P H) (Some f) (least_found H (can_step P H) (can_spawned P H)) (record {
        found = λ u e. subst (λ w. can_step P H w ≡ true) (let s : f ≡ u = cc in s) can;
        least = λ u h. (f, refl, floor u h);
      })

  pub least_can : (t : Name) → least_ready P H ≡ Some t → can_step P H t ≡ true
  least_can t l = (least_found H (can_step P H) (can_spawned P H)).found t l

  pub least_floor : (t : Name) → least_ready P H ≡ Some t → IsFloor P H (Some t)
  least_floor t l u h =
      let m = (least_found H (can_step P H) (can_spawned P H)).least u h in
      let s : m.0 ≡ t = cc (sym m.1 ∙ l) in
      subst (λ w. IsAtMost w u) s m.2

  -- the least task that can step is a search start
  pub floor_raised : (t : Name) (o : Option Name) → least_ready P H ≡ Some t → IsRaised t o → IsFloor P H o
  floor_raised t o l r = ⊎_elim (λ e. subst (IsFloor P H) (sym e) (least_floor t l)) (λ e. subst (IsFloor P H) (sym e) tt) r

-- where no other seat claims it, it's the one for the seat
pub first_free : (P : Program) (H : History) (claims : Claims) (seat : ℕ) (t : Name) → least_ready P H ≡ Some t → IsFreeBeside claims seat t → IsLeastName (CanTake P H claims seat) (Some t)
first_free P H claims seat t l free = record {
  found = λ u e. subst (CanTake P H claims seat) (let s : t ≡ u = cc in s) (least_can P H t l, free);
  least = λ u q. (t, refl, least_floor P H t l u q.0);
}

-- ---- nothing blocks the step of the least task that can step

clear_by : (h : Option Hindrance) → is_none (option_map By h) ≡ true → h ≡ None
clear_by None e = refl
clear_by (Some h) e = absurd (false≢true e)

pub plan_clear : (P : Program) (run : Seen) (p : Plan) → Fits P run → IsReadyPlan P run p → hindrance_of run p ≡ None
plan_clear P run p fits ready =
    clear_by (hindrance_of run p) (sym (ap is_none (refusal_of_plan P run p.config.task p fits ready.0)) ∙ least_can P (core.history run) p.config.task ready.1)
