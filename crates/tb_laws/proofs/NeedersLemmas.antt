-- A step goes alone exactly where no step needs it.
use Rattle.std.proofs.Common.{◌≡◌, ◌<◌, [], ◌∷◌, ◌++◌, Bool, true, false, ◌&&◌, ◌||◌, not, ⊎_elim, ◌↔◌, refl, sym, ap, ap₂, ◌∙◌, subst, length, arith, Option, Some, None, if◌then◌else◌}
use Rattle.std.specs.List.{list_any}
use Rattle.std.proofs.lemmas.Bool.{or_cases, or_parts}
use Rattle.tb_model.specs.declared.event.Event.{Event}
use Rattle.tb_model.specs.declared.step_id.StepId.{StepId}
use Rattle.tb_model.specs.Facts.{History, own}
use Rattle.tb_model.specs.Needs.{needs, is_step, step_of, removed}
use Rattle.tb_model.specs.Needers.{is_needer, first_or, first_needer}
use Rattle.tb_model.specs.Equivalent.{stands}
use Rattle.tb_model.specs.Reordering.{IsUnneeded}
use Rattle.tb_model.proofs.RemovalLemmas.{own_grows, removed_none, not_step, its_step}
use Rattle.tb_model.proofs.LeastLemmas.{later_not_step}
use Rattle.tb_model.proofs.UndoLemmas.{Single, single, singled}
use Rattle.tb_laws.proofs.OrderedLemmas.{the_step}

-- ---- where a step is

-- the index of a step
pub record Standing (e : StepId) (H : History) : Type 0 where
  pub later : History
  pub event : Event
  pub front : History
  pub split : H ≡ later ++ event ∷ front
  pub step : step_of front event ≡ e

-- a step that is there is some event with what is after it and in front of it
pub standing : (e : StepId) (H : History) → stands e H ≡ true → Standing e H
standing e [] s = cc
standing e (v ∷ H) s =
    ⊎_elim (λ h. record { later = []; event = v; front = H; split = refl; step = the_step e H v h })
    (λ h. let r = standing e H h in record { later = v ∷ r.later; event = r.event; front = r.front; split = ap (λ K. v ∷ K) r.split; step = r.step })
    (or_cases (is_step e H v) (stands e H) s)

-- ---- no step needs it

none_first : (o : Option StepId) (b : Bool) (i : StepId) → o ≡ None → b ≡ false → first_or o b i ≡ None
none_first o b i p q = ap₂ (λ x y. first_or x y i) p q

both_none : (o : Option StepId) (b : Bool) (i : StepId) → first_or o b i ≡ None → (o ≡ None) × (b ≡ false)
both_none (Some j) b i h = cc
both_none None true i h = cc
both_none None false i h = (refl, refl)

-- a step that the history doesn't have
none_absent : (e : StepId) (H : History) → length (own e.task H) < e.k → first_needer e H ≡ None
none_absent e [] h = refl
none_absent e (v ∷ H) h =
    let l : length (own e.task H) < e.k = omega (arith, h, own_grows e.task v H) in
    none_first (first_needer e H) (is_needer e H v) (step_of H v) (none_absent e H l)
    (ap₂ (λ s R. not s && list_any (needs H v) R) (not_step e H v h) (removed_none e H l))

module _ (v : Event) (front : History) where
  -- a step doesn't need itself
  pub none_here : first_needer (step_of front v) (v ∷ front) ≡ None
  none_here =
      none_first (first_needer (step_of front v) front) (is_needer (step_of front v) front v) (step_of front v) (none_absent (step_of front v) front (omega arith))
      (ap (λ s. not s && list_any (needs front v) (removed (step_of front v) front)) (its_step front v))

  -- what goes with v next to it needs it
  needer_behind : (b : History) (w : Event) → is_needer (step_of front v) (b ++ v ∷ front) w ≡ list_any (needs (b ++ v ∷ front) w) (removed (step_of front v) (b ++ v ∷ front))
  needer_behind b w =
      ap (λ s. not s && list_any (needs (b ++ v ∷ front) w) (removed (step_of front v) (b ++ v ∷ front))) (later_not_step v front b w)

  none_of_single : (b : History) → Single v front b → first_needer (step_of front v) (b ++ v ∷ front) ≡ None
  none_of_single [] s = none_here
  none_of_single (w ∷ b) s =
      let below = singled v front b s.free.0 in
      none_first (first_needer (step_of front v) (b ++ v ∷ front)) (is_needer (step_of front v) (b ++ v ∷ front) w) (step_of (b ++ v ∷ front) w) (none_of_single b below)
      (needer_behind b w ∙ ap (list_any (needs (b ++ v ∷ front) w)) below.gone ∙ ap (λ c. c || false) s.free.1)

  single_of_none : (b : History) → first_needer (step_of front v) (b ++ v ∷ front) ≡ None → Single v front b
  single_of_none [] h = singled v front [] tt
  single_of_none (w ∷ b) h =
      let o = both_none (first_needer (step_of front v) (b ++ v ∷ front)) (is_needer (step_of front v) (b ++ v ∷ front) w) (step_of (b ++ v ∷ front) w) h in
      let below = single_of_none b o.0 in
      let n = sym (ap (list_any (needs (b ++ v ∷ front) w)) below.gone) ∙ sym (needer_behind b w) ∙ o.1 in
      singled v front (w ∷ b) (below.free, (or_parts (needs (b ++ v ∷ front) w v) false n).0)

-- nothing needs a step exactly where it has no first needer, wherever the step is
pub unneeded : (e : StepId) (H : History) → stands e H ≡ true → IsUnneeded e H ↔ (first_needer e H ≡ None)
unneeded e H s =
    let r = standing e H s in
    subst (λ K. IsUnneeded e K ↔ (first_needer e K ≡ None)) (sym r.split)
    (subst (λ i. IsUnneeded i (r.later ++ r.event ∷ r.front) ↔ (first_needer i (r.later ++ r.event ∷ r.front) ≡ None)) r.step
    (λ h. none_of_single r.event r.front r.later (single r.event r.front r.later h), λ h. ap length (single_of_none r.event r.front r.later h).gone))

-- ---- the earliest that needs a step needs it directly

module _ (v : Event) (front : History) where
  -- after a history in which none needs v
  pub next_needer : (b : History) (w : Event) → first_needer (step_of front v) (b ++ v ∷ front) ≡ None
      → first_needer (step_of front v) (w ∷ (b ++ v ∷ front)) ≡ (if needs (b ++ v ∷ front) w v then Some (step_of (b ++ v ∷ front) w) else None)
  next_needer b w h =
      let H = b ++ v ∷ front in
      ap₂ (λ o c. first_or o c (step_of H w)) h
      (needer_behind v front b w ∙ ap (list_any (needs H w)) (single_of_none v front b h).gone ∙ or_false (needs H w v))
    where
      or_false : (c : Bool) → (c || false) ≡ c
      or_false true = refl
      or_false false = refl

-- a later event isn't the earliest
pub needer_stays : (e : StepId) (later H : History) (i : StepId) → first_needer e H ≡ Some i → first_needer e (later ++ H) ≡ Some i
needer_stays e [] H i h = h
needer_stays e (w ∷ later) H i h =
    ap (λ o. first_or o (is_needer e (later ++ H) w) (step_of (later ++ H) w)) (needer_stays e later H i h)
