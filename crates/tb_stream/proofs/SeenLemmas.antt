-- The steps of a whole history by the ids of their tasks.
use Rattle.std.proofs.Common.{◌≡◌, ◌≢◌, ◌<◌, ◌≤◌, ◌+◌, ◌-◌, ℕ, zero, suc, List, ◌∷◌, Bool, true, false, length, refl, sym, ap, ◌∙◌, subst, arith, Option, Some, None, slice_get, ◌⊎◌, inl, inr, ⊎_elim, eqb-true, eq-eqb, Vec, Global}
use Rattle.std.specs.List.{list_any}
use Rattle.std.proofs.lemmas.List.{take_all}
use Rattle.std.proofs.lemmas.Bool.{both_ways, cases_order, or_left}
use Rattle.tb_model.specs.declared.action.Action.{Action}
use Rattle.tb_model.specs.declared.event.Event.{Event}
use Rattle.tb_model.specs.Facts.{IsSpawned, is_end, is_of, spawns}
use Rattle.tb_model.specs.Names.{Name}
use Rattle.tb_model.proofs.FactsLemmas.{not_again, spawned_by}
use Rattle.tb_model.proofs.NeedsLemmas.{may_spawned}
use Rattle.tb_clocks.specs.Known.{HasId, generated, names_in}
use Rattle.tb_clocks.proofs.TaskLemmas.{in_front, one_id, within as index_within}
use Rattle.tb_clocks.proofs.TreeLemmas.{named as an_id}
use Rattle.tb_steps.specs.Entries.{Entry}
use Rattle.tb_steps.specs.Scans.{history_of}
use Rattle.tb_races.specs.Orders.{Synchronised}
use Rattle.tb_model.specs.Legal.{Legal}
use Rattle.tb_lanes.specs.declared.lane_bound.LaneBound.{LaneBound}
use Rattle.tb_lanes.specs.Clocks.{Behind, alone, generated as generated_by, going_on, Lanes, both_at, generates, number, is_end_at, of_one, origin, previous, touches}
use Rattle.tb_lanes.proofs.AfterLemmas.{at, at_is, at_read}
use Rattle.tb_lanes.proofs.GroupLemmas.{spawned_on}
use Rattle.tb_lanes.proofs.FrontLemmas.{one_more}
use Rattle.tb_lanes.proofs.LinkLemmas.{both_is, end_is}
use Rattle.tb_lanes.proofs.OwnLemmas.{ev, legal_here, place_any}
use Rattle.tb_stream.proofs.ListLemmas.{the_same}
use Rattle.tb_stream.specs.declared.clocks.Clocks.{Clocks}
use Rattle.tb_stream.specs.declared.mark.Mark.{Mark}
use Rattle.tb_stream.specs.Seen.{AreClocks, IsEvent, IsFull, IsId, IsOf, IsOrigin, Run, front, passes_at, passes_so}

module _ (r : Run) where
  pub passes_is : (f : Event → Bool) (p : ℕ) (w : p < length r.entries) → passes_at f r p ≡ f (ev r.entries p w)
  passes_is f p w = ap (passes_so f) (at_read Synchronised r.entries p w)

  pub named : (p t : ℕ) → IsOf r p t → (w : p < length r.entries) → IsId r t (ev r.entries p w).task
  named p t of w = of (at Synchronised r.entries p w) (at_read Synchronised r.entries p w)

  pub next_is : (n : ℕ) (w : n < length r.entries) → front r (suc n) ≡ ev r.entries n w ∷ front r n
  next_is n w = one_more r.entries n (at Synchronised r.entries n w) w (at_is Synchronised r.entries n w)

  pub legal_in_front : (n : ℕ) → n ≤ length r.entries → Legal r.legal.cells (front r n)
  legal_in_front zero l = tt
  legal_in_front (suc n) l =
      let w : n < length r.entries = omega (arith, l) in
      subst (Legal r.legal.cells) (sym (next_is n w)) (legal_here r.entries r.legal n w)

  pub action_here : (n : ℕ) (w : n < length r.entries) (a : Action) → IsEvent r n a → a ≡ (ev r.entries n w).action
  action_here n w a is = is (at Synchronised r.entries n w) (at_read Synchronised r.entries n w)

  pub same_entry : (n : ℕ) (w : n < length r.entries) (v : Entry) → slice_get r.entries n ≡ Some v → (ev r.entries n w).task ≡ v.event.task
  same_entry n w v g = ap (λ (e : Entry). e.event.task) (the_same (at Synchronised r.entries n w) v (sym (at_read Synchronised r.entries n w) ∙ g))

  -- whether the step is an end, by its action
  pub ends_here : (n : ℕ) (w : n < length r.entries) (a : Action) → IsEvent r n a → is_end_at r.entries n ≡ is_end a
  ends_here n w a is = end_is Synchronised r.entries n n w w ∙ ap is_end (sym (is (at Synchronised r.entries n w) (at_read Synchronised r.entries n w)))

  -- ---- ids

  id_on : (n d i : ℕ) (t : Name) → n + d ≤ length r.entries → HasId (front r n) i t → HasId (front r (n + d)) i t
  id_on n zero i t l h =
      let e : n ≡ n + zero = omega arith in
      subst (λ m. HasId (front r m) i t) e h
  id_on n (suc d) i t l h =
      let w : n + d < length r.entries = omega (arith, l) in
      let e : n + suc d ≡ suc (n + d) = omega arith in
      subst (λ H. HasId H i t) (sym (ap (front r) e ∙ next_is (n + d) w))
      (in_front (names_in (front r (n + d))) (generated (ev r.entries (n + d) w).action) i t (id_on n d i t (omega (arith, l)) h))

  -- an id stays
  pub id_whole : (n i : ℕ) (t : Name) → n ≤ length r.entries → HasId (front r n) i t → IsId r i t
  id_whole n i t l h =
      let e : n + (length r.entries - n) ≡ length r.entries = omega (arith, l) in
      subst (λ xs. HasId (history_of xs) i t) (take_all (length r.entries) r.entries (omega arith))
      (subst (λ m. HasId (front r m) i t) e (id_on n (length r.entries - n) i t (omega (arith, l)) h))

  -- who was generated had it already
  pub id_front : (n i : ℕ) (t : Name) → n ≤ length r.entries → IsSpawned (front r n) t → IsId r i t → HasId (front r n) i t
  id_front n i t l s h =
      let k = an_id (front r n) t s in
      subst (λ j. HasId (front r n) j t) (one_id r.legal.cells (history_of r.entries) k.0 i t r.legal.legal (id_whole n k.0 t l k.1) h) k.1

  pub acted : (p : ℕ) (w : p < length r.entries) → IsSpawned (front r p) (ev r.entries p w).task
  acted p w = let here = legal_here r.entries r.legal p w in may_spawned r.legal.cells (front r p) (ev r.entries p w) here.0 here.1

  pub id_at : (n p i : ℕ) → p ≤ n → n ≤ length r.entries → IsOf r p i → (w : p < length r.entries) → HasId (front r n) i (ev r.entries p w).task
  id_at n p i l m of w =
      id_front n i (ev r.entries p w).task m (spawned_on r.entries r.tasks r.by_task r.legal (ev r.entries p w).task p n l m (acted p w)) (named p i of w)

  -- ---- who generated a task

  -- nobody did
  pub maker_none : (n p : ℕ) (w : p < length r.entries) → p ≤ n → n ≤ length r.entries → list_any (spawns (ev r.entries p w).task) (front r n) ≡ false
      → origin r.tasks p ≡ 0
  maker_none n p w l k none =
      ⊎_elim (λ z. z.0)
      (λ u.
      let i : u.0 < length r.entries = omega (arith, u.2, w) in
      absurd (both_ways _ none (place_any r.entries (spawns (ev r.entries p w).task) n u.0 (omega (arith, u.2, l)) k i (sym (both_is Synchronised r.entries p u.0 w i generates) ∙ u.3))))
      (r.by_task.origins p w)

  once_by : (t : Name) (a b : ℕ) (i : a < length r.entries) (j : b < length r.entries) → spawns t (ev r.entries a i) ≡ true
      → spawns t (ev r.entries b j) ≡ true → a < b → ⊥
  once_by t a b i j f g l =
      let legal = legal_here r.entries r.legal b j in
      both_ways _ (not_again r.legal.cells (front r b) legal.0 (ev r.entries b j) legal.1 t (spawned_by t (front r b) (place_any r.entries (spawns t) b a l (omega (arith, j)) i f))) g

  -- nobody else did
  pub maker_once : (t : Name) (a b : ℕ) (i : a < length r.entries) (j : b < length r.entries) → spawns t (ev r.entries a i) ≡ true
      → spawns t (ev r.entries b j) ≡ true → a ≡ b
  maker_once t a b i j f g =
      ⊎_elim (λ e. e) (λ h. ⊎_elim (λ l. absurd (once_by t a b i j f g l)) (λ l. absurd (once_by t b a j i g f l)) h) (cases_order a b)

  pub maker_is : (p a : ℕ) (w : p < length r.entries) (i : a < length r.entries) → spawns (ev r.entries p w).task (ev r.entries a i) ≡ true
      → origin r.tasks p ≡ suc a
  maker_is p a w i made =
      ⊎_elim (λ z. absurd (by z.1 (cases_order a p)))
      (λ u.
      let j : u.0 < length r.entries = omega (arith, u.2, w) in
      omega (arith, u.1, maker_once (ev r.entries p w).task u.0 a j i (sym (both_is Synchronised r.entries p u.0 w j generates) ∙ u.3) made))
      (r.by_task.origins p w)
    where
      t : Name
      t = (ev r.entries p w).task

      late : p ≤ a → ⊥
      late l =
          let there = legal_here r.entries r.legal a i in
          both_ways _ (not_again r.legal.cells (front r a) there.0 (ev r.entries a i) there.1 t (spawned_on r.entries r.tasks r.by_task r.legal t p a l (omega (arith, i)) (acted p w))) made

      by : ((x : ℕ) → x < p → both_at generates r.entries p x ≡ true → ⊥) → (a ≡ p) ⊎ ((a < p) ⊎ (p < a)) → ⊥
      by none (inl e) = late (omega (arith, e))
      by none (inr (inl l)) = none a l (both_is Synchronised r.entries p a w i generates ∙ made)
      by none (inr (inr l)) = late (omega (arith, l))

  -- ---- the step of the task in front

  module _ (n : ℕ) (w : n < length r.entries) where
    abbrev t : Name
    t = (ev r.entries n w).task

    abbrev Own : ℕ → Type 0
    Own x = passes_at (is_of t) r x ≡ true

    own_at : (x : ℕ) (i : x < length r.entries) → both_at of_one r.entries n x ≡ passes_at (is_of t) r x
    own_at x i = both_is Synchronised r.entries n x w i of_one ∙ sym (passes_is (is_of t) x i)

    touching : (x : ℕ) (i : x < length r.entries) → Own x → both_at touches r.entries n x ≡ true
    touching x i h = both_is Synchronised r.entries n x w i touches ∙ or_left (is_of t (ev r.entries x i)) _ (sym (passes_is (is_of t) x i) ∙ h)

    pub step_before : (b : ℕ) → b < n → Own b → ((x : ℕ) → x < n → Own x → x ≤ b) → (previous r.tasks n ≡ suc b) × (number r.tasks b ≡ number r.tasks n)
    step_before b l own last = by (r.by_task.behind n w)
      where
        i : b < length r.entries
        i = omega (arith, l, w)

        same : number r.tasks b ≡ number r.tasks n
        same = sym (eqb-true (number r.tasks n) (number r.tasks b) (r.by_task.same n b w i ∙ own_at b i ∙ own))

        by : Behind r.entries r.tasks n → (previous r.tasks n ≡ suc b) × (number r.tasks b ≡ number r.tasks n)
        by (alone _ _ _ none zero_is nothing) = absurd (nothing b l (touching b i own))
        by (generated_by _ _ _ c m is from made other only) =
            let e : b ≡ c = only b l (touching b i own) in
            absurd (both_ways (both_at of_one r.entries n c) other (subst (λ y. both_at of_one r.entries n y ≡ true) e (own_at b i ∙ own)))
        by (going_on _ _ _ c m is from mine newest) =
            let j : c < length r.entries = omega (arith, m, w) in
            (omega (arith, is, newest b l (touching b i own), last c m (sym (own_at c j) ∙ mine)), same)

    pub step_none : ((x : ℕ) → x < n → passes_at (is_of t) r x ≡ false)
        → (previous r.tasks n ≡ 0) ⊎ ((b : ℕ) × (previous r.tasks n ≡ suc b) × (number r.tasks b ≢ number r.tasks n))
    step_none none = by (r.by_task.behind n w)
      where
        by : Behind r.entries r.tasks n → (previous r.tasks n ≡ 0) ⊎ ((b : ℕ) × (previous r.tasks n ≡ suc b) × (number r.tasks b ≢ number r.tasks n))
        by (alone _ _ _ first zero_is nothing) = inl first
        by (generated_by _ _ _ c m is from made other only) =
            let j : c < length r.entries = omega (arith, m, w) in
            inr (c, is, λ e. both_ways (both_at of_one r.entries n c) other (sym (r.by_task.same n c w j) ∙ eq-eqb (number r.tasks n) (number r.tasks c) (sym e)))
        by (going_on _ _ _ c m is from mine newest) =
            let j : c < length r.entries = omega (arith, m, w) in
            absurd (both_ways (passes_at (is_of t) r c) (none c m) (sym (own_at c j) ∙ mine))

  -- ---- the origin of a step, as it is stored

  module _ (n : ℕ) (lanes : Lanes) (clocks : Clocks) (are : AreClocks r n lanes clocks) (p t : ℕ) (l : p ≤ n) (w : p < length r.entries) (of : IsOf r p t) where
    abbrev rows : List (Vec LaneBound Global)
    rows = clocks.rows.items

    pub origin_there : length clocks.origins.items ≤ t → ⊥
    origin_there h = omega (arith, h, are.origins.listed, index_within (names_in (front r n)) t _ (id_at n p t l are.within of w))

    pub origin_none : slice_get clocks.origins.items t ≡ Some None → origin r.tasks p ≡ 0
    origin_none is = maker_none n p w l are.within (are.origins.each t _ None (id_at n p t l are.within of w) is)

    pub origin_some : (m : Mark) → slice_get clocks.origins.items t ≡ Some (Some m) → IsFull r n lanes rows m × (origin r.tasks p ≡ suc m.at)
    origin_some m is =
        let maker = are.origins.each t _ (Some m) (id_at n p t l are.within of w) is in
        let i : m.at < length r.entries = omega (arith, maker.0.mark.at, are.within) in
        (maker.0, maker_is p m.at w i (sym (passes_is (spawns (ev r.entries p w).task) m.at i) ∙ maker.1))

    -- as it is found
    pub origin_found : (o found : Option Mark) → slice_get clocks.origins.items t ≡ Some o → ((m : Mark) → o ≡ Some m → m.at < p → found ≡ o)
        → (o ≡ None → found ≡ None) → IsOrigin r n lanes rows found (origin r.tasks p)
    origin_found None found is same none = subst (λ x. IsOrigin r n lanes rows x (origin r.tasks p)) (sym (none refl)) (origin_none is)
    origin_found (Some m) found is same none =
        let it = origin_some m is in
        let low : origin r.tasks p ≤ p = r.by_task.shaped.low p (omega (arith, w, r.by_task.numbers_listed)) in
        subst (λ x. IsOrigin r n lanes rows x (origin r.tasks p)) (sym (same m refl (omega (arith, it.1, low)))) it
