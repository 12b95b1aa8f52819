-- Where a step is, and what directly needs it.
use Rattle.std.proofs.Common.{◌≡◌, ◌≤◌, ◌<◌, ℕ, suc, List, [], ◌∷◌, ◌++◌, length, Bool, true, false, ◌&&◌, ◌||◌, refl, sym, ap, ap₂, ◌∙◌, subst, ◌==◌, arith, cond, eq-eqb, ne_eqb, Some}
use Rattle.std.specs.List.{list_any}
use Rattle.std.proofs.lemmas.Bool.{or_left, or_right, or_parts, and_from}
use Rattle.tb_model.specs.declared.action.Action.{Action}
use Rattle.tb_model.specs.declared.event.Event.{Event}
use Rattle.tb_model.specs.declared.step_id.StepId.{StepId}
use Rattle.tb_model.specs.Names.{Name}
use Rattle.tb_model.specs.Facts.{History, is_of, own, prepend_if}
use Rattle.tb_model.specs.Needs.{needs, is_step, step_of, removed}
use Rattle.tb_model.specs.Equivalent.{stands, needs_step, needs_in}
use Rattle.tb_model.specs.Reordering.{IsUnneeded}
use Rattle.tb_model.proofs.TestLemmas.{same_refl}
use Rattle.tb_model.proofs.FactsLemmas.{own_mine, own_other}
use Rattle.tb_model.proofs.NeighboursLemmas.{same_sym}
use Rattle.tb_model.proofs.RemovalLemmas.{own_grows, not_step, its_step}
use Rattle.tb_model.proofs.LeastLemmas.{later_not_step}
use Rattle.tb_laws.proofs.NeedersLemmas.{standing}
use Rattle.tb_model.proofs.UndoLemmas.{AreFree, single, singled}
use Rattle.tb_causal.specs.Runs.{kth}

-- ---- a step that is removed is there

-- what isn't there takes nothing with it
pub none_removed : (e : StepId) (H : History) → stands e H ≡ false → removed e H ≡ []
none_removed e [] s = refl
none_removed e (v ∷ H) s =
    let o = or_parts (is_step e H v) (stands e H) s in
    ap₂ (λ b R. prepend_if (b || list_any (needs H v) R) v R) o.0 (none_removed e H o.1)

pub unneeded_stands : (e : StepId) (H : History) → IsUnneeded e H → stands e H ≡ true
unneeded_stands e H h = at (stands e H) refl
  where
    at : (b : Bool) → stands e H ≡ b → b ≡ true
    at true s = refl
    at false s = absurd (omega (arith, h, ap length (none_removed e H s)))

-- what holds wherever a step is
pub where_it_stands : (C : StepId → History → Type 0) → ((later : History) (v : Event) (front : History) → C (step_of front v) (later ++ v ∷ front)) → (e : StepId) (H : History) → stands e H ≡ true → C e H
where_it_stands C f e H s =
    let r = standing e H s in
    subst (C e) (sym r.split) (subst (λ i. C i (r.later ++ r.event ∷ r.front)) r.step (f r.later r.event r.front))

-- no event after is the step
pub not_newest : (e : StepId) (H : History) → stands e H ≡ true → (w : Event) → is_step e H w ≡ false
not_newest = where_it_stands (λ e H. (w : Event) → is_step e H w ≡ false) (λ later v front w. later_not_step v front later w)

-- ---- what it did

own_more : (t : Name) (front : History) (v : Event) (later : History) → length (own t (v ∷ front)) ≤ length (own t (later ++ v ∷ front))
own_more t front v [] = omega arith
own_more t front v (w ∷ later) = omega (arith, own_more t front v later, own_grows t w (later ++ v ∷ front))

kth_at : (k : ℕ) (a : Action) (acts : List Action) → k ≡ suc (length acts) → kth k (a ∷ acts) ≡ Some a
kth_at k a acts h = ap (λ b. cond b (Some a) (kth k acts)) (eq-eqb k (suc (length acts)) h)

-- an earlier action isn't the newest
kth_before : (k : ℕ) (a : Action) (acts : List Action) → k ≤ length acts → kth k (a ∷ acts) ≡ kth k acts
kth_before k a acts h = ap (λ b. cond b (Some a) (kth k acts)) (ne_eqb k (suc (length acts)) (λ e. omega arith))

pub kth_stands : (later : History) (v : Event) (front : History) → kth (suc (length (own v.task front))) (own v.task (later ++ v ∷ front)) ≡ Some v.action
kth_stands [] v front =
    ap (kth (suc (length (own v.task front)))) (own_mine v.task v front (same_refl v.task)) ∙ kth_at _ v.action (own v.task front) refl
kth_stands (w ∷ later) v front = at (is_of v.task w) ∙ kth_stands later v front
  where
    at : (b : Bool) → kth (suc (length (own v.task front))) (prepend_if b w.action (own v.task (later ++ v ∷ front))) ≡ kth (suc (length (own v.task front))) (own v.task (later ++ v ∷ front))
    at true =
        kth_before _ w.action (own v.task (later ++ v ∷ front)) (omega (arith, own_more v.task front v later, ap length (own_mine v.task v front (same_refl v.task))))
    at false = refl

-- one more event after leaves what a step did
pub kth_more : (e : StepId) (H : History) → stands e H ≡ true → (w : Event) → kth e.k (own e.task (w ∷ H)) ≡ kth e.k (own e.task H)
kth_more = where_it_stands (λ e H. (w : Event) → kth e.k (own e.task (w ∷ H)) ≡ kth e.k (own e.task H)) (λ later v front w. kth_stands (w ∷ later) v front ∙ sym (kth_stands later v front))

-- ---- what directly needs it

none_before : (F : History) (w : Event) (e : StepId) (K : History) → length (own e.task K) < e.k → needs_step F w e K ≡ false
none_before F w e [] h = refl
none_before F w e (u ∷ K) h =
    ap₂ (λ b c. (b && needs F w u) || c) (not_step e K u h) (none_before F w e K (omega (arith, own_grows e.task u K)))

none_before_in : (i e : StepId) (K : History) → length (own e.task K) < e.k → needs_in i e K ≡ false
none_before_in i e [] h = refl
none_before_in i e (u ∷ K) h =
    let l : length (own e.task K) < e.k = omega (arith, own_grows e.task u K) in
    ap₂ (λ b c. b || c) (ap (λ b. is_step i K u && b) (none_before K u e K l) ∙ and_none (is_step i K u)) (none_before_in i e K l)
  where
    and_none : (b : Bool) → (b && false) ≡ false
    and_none true = refl
    and_none false = refl

module _ (v : Event) (front : History) where
  -- a direct need of the step is one of its event
  pub needs_it : (F : History) (w : Event) (later : History) → needs_step F w (step_of front v) (later ++ v ∷ front) ≡ needs F w v
  needs_it F w [] =
      ap₂ (λ b c. (b && needs F w v) || c) (its_step front v) (none_before F w (step_of front v) front (omega arith))
      ∙ or_none (needs F w v)
    where
      or_none : (b : Bool) → (b || false) ≡ b
      or_none true = refl
      or_none false = refl
  needs_it F w (u ∷ later) =
      ap (λ b. (b && needs F w u) || needs_step F w (step_of front v) (later ++ v ∷ front)) (later_not_step v front later u)
      ∙ needs_it F w later

  -- where it goes alone, no step directly needs it
  pub free_none : (later : History) → AreFree v front later → (i : StepId) → needs_in i (step_of front v) (later ++ v ∷ front) ≡ false
  free_none [] f i =
      let e = step_of front v in
      ap₂ (λ b c. (is_step i front v && b) || c) (none_before front v e front (omega arith)) (none_before_in i e front (omega arith))
      ∙ and_none (is_step i front v)
    where
      and_none : (b : Bool) → ((b && false) || false) ≡ false
      and_none true = refl
      and_none false = refl
  free_none (w ∷ later) f i =
      let H = later ++ v ∷ front in
      ap₂ (λ b c. (is_step i H w && b) || c) (needs_it H w later ∙ f.1) (free_none later f.0 i)
      ∙ and_none (is_step i H w)
    where
      and_none : (b : Bool) → ((b && false) || false) ≡ false
      and_none true = refl
      and_none false = refl

  -- and where no step directly needs it, it goes alone
  pub none_free : (later : History) → ((i : StepId) → needs_in i (step_of front v) (later ++ v ∷ front) ≡ false) → AreFree v front later
  none_free [] h = tt
  none_free (w ∷ later) h =
      let H = later ++ v ∷ front in
      let e = step_of front v in (
        none_free later (λ i. (or_parts (is_step i H w && needs_step H w e H) _ (h i)).1),
        sym (needs_it H w later)
            ∙ sym (ap (λ b. b && needs_step H w e H) (its_step H w))
            ∙ (or_parts (is_step (step_of H w) H w && needs_step H w e H) _ (h (step_of H w))).0,
      )

  -- the task does no more after it
  pub own_last : (later : History) → AreFree v front later → own v.task (later ++ front) ≡ own v.task front
  own_last [] f = refl
  own_last (w ∷ later) f =
      own_other v.task w (later ++ front) (same_sym v.task w.task (or_parts (is_of w.task v) _ f.1).0) ∙ own_last later f.0

-- a step goes alone where no step directly needs it, and nowhere else
pub unneeded_none : (e : StepId) (H : History) → IsUnneeded e H → (i : StepId) → needs_in i e H ≡ false
unneeded_none e H h =
    where_it_stands (λ e H. IsUnneeded e H → (i : StepId) → needs_in i e H ≡ false) (λ later v front u. free_none v front later (single v front later u).free) e H (unneeded_stands e H h) h

pub none_unneeded : (e : StepId) (H : History) → stands e H ≡ true → ((i : StepId) → needs_in i e H ≡ false) → IsUnneeded e H
none_unneeded e H s =
    where_it_stands (λ e H. ((i : StepId) → needs_in i e H ≡ false) → IsUnneeded e H) (λ later v front n. ap length (singled v front later (none_free v front later n)).gone) e H s

-- what needs it is what would go with it
pub needs_one : (e : StepId) (H : History) → IsUnneeded e H → (w : Event) → needs_step H w e H ≡ list_any (needs H w) (removed e H)
needs_one e H h w =
    where_it_stands (λ e H. IsUnneeded e H → needs_step H w e H ≡ list_any (needs H w) (removed e H))
    (λ later v front u. needs_it v front (later ++ v ∷ front) w later ∙ sym (or_none (needs (later ++ v ∷ front) w v)) ∙ sym (ap (list_any (needs (later ++ v ∷ front) w)) (single v front later u).gone))
    e H (unneeded_stands e H h) h
  where
    or_none : (b : Bool) → (b || false) ≡ b
    or_none true = refl
    or_none false = refl

-- what did something is there
pub did_stands : (e : StepId) (a : Action) (H : History) → kth e.k (own e.task H) ≡ Some a → stands e H ≡ true
did_stands e a [] h = cc
did_stands e a (v ∷ H) h = at (did_stands e a H) (is_of e.task v) refl h
  where
    here : (kth e.k (own e.task H) ≡ Some a → stands e H ≡ true) → is_of e.task v ≡ true → (b : Bool) → (e.k == suc (length (own e.task H))) ≡ b → cond b (Some v.action) (kth e.k (own e.task H)) ≡ Some a → stands e (v ∷ H) ≡ true
    here rest o true k h = or_left (is_step e H v) _ (and_from (is_of e.task v) _ o k)
    here rest o false k h = or_right (is_step e H v) _ (rest h)

    at : (kth e.k (own e.task H) ≡ Some a → stands e H ≡ true) → (b : Bool) → is_of e.task v ≡ b → kth e.k (prepend_if b v.action (own e.task H)) ≡ Some a → stands e (v ∷ H) ≡ true
    at rest true o h = here rest o (e.k == suc (length (own e.task H))) refl h
    at rest false o h = or_right (is_step e H v) _ (rest h)
