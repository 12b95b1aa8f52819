-- What a change of places leaves: the state, the needs between steps, and what is left without one of them.
use Rattle.std.proofs.Common.{◌≡◌, ◌≢◌, ℕ, suc, List, [], ◌∷◌, length, Bool, true, false, ◌&&◌, ◌||◌, not, ⊎_elim, refl, sym, ap, ap₂, ◌∙◌, subst, ◌==◌, eq-eqb, ne_eqb, eqb-true}
use Rattle.std.specs.List.{list_any}
use Rattle.std.proofs.lemmas.Bool.{or_cases, or_left, or_right, or_parts, and_parts, and_from, and_right, both_ways, false≢true, false_from_ne_true}
use Rattle.tb_model.specs.declared.action.Action.{Action}
use Rattle.tb_model.specs.declared.action.Action.TheVariants.{Start, Let, Load, Store, Print, Spawn, Wait, Open, Close, Test, End, Fault}
use Rattle.tb_model.specs.declared.event.Event.{Event}
use Rattle.tb_model.specs.Names.{Name, is_child, is_elder}
use Rattle.tb_model.specs.Items.{some_meet, is_before, is_apart, has_no_items}
use Rattle.tb_model.specs.Facts.{History, is_of, own, is_end, is_start, is_print, items_of, spawns, starts, prepend_if, is_member, holds, HasEnded, HasStarted, IsSpawned}
use Rattle.tb_model.specs.Legal.{Cells, IsRunning, IsTimely, MayFollow, Legal}
use Rattle.tb_model.specs.declared.step_id.StepId.{StepId}
use Rattle.tb_model.specs.Needs.{conflicts, waits_for, needs_end_of, needs, is_step, removed, is_removed, without}
use Rattle.tb_model.specs.Alike.{Alike}
use Rattle.tb_model.specs.Equivalent.{Equivalent, stands, comes_first, needs_step, needs_in}
use Rattle.tb_model.proofs.TestLemmas.{none_weaker, same_true, same_refl}
use Rattle.tb_model.proofs.PartsLemmas as parts
use Rattle.tb_model.proofs.PartsLemmas.{Parts, own_same}
use Rattle.tb_model.proofs.RemovalLemmas.{needs_own, in_parts, removal}
use Rattle.tb_model.proofs.AlikeLemmas.{alike_refl, alike_trans, alike_cons, follows_alike, any_same}
use Rattle.tb_model.proofs.FactsLemmas.{own_other, running_acts, acted_spawned, begun, no_acts, not_running, timely_start}
use Rattle.tb_model.proofs.NeighboursLemmas.{same_sym, swapped, or_swap}
use Rattle.tb_model.proofs.RemovalLemmas.{needs_up}
use Rattle.tb_model.proofs.UndoLemmas.{needs_alike}
use Rattle.tb_model.proofs.RunLemmas as runs
use Rattle.tb_model.proofs.RunLemmas.{Run}
use Rattle.tb_model.proofs.EquivalenceLemmas.{step_apart, needed_stands, equivalent_run}
use Rattle.tb_model.proofs.FactsLemmas.{items_stay, not_again}

-- ---- a direct need, by the actions of the earlier's task

needs_kth : History → Event → StepId → List Action → Bool
needs_kth F v j [] = false
needs_kth F v j (a ∷ acts) =
    ((j.k == suc (length acts)) && needs F v (record { task = j.task; action = a })) || needs_kth F v j acts

by_acts : (F : History) (v : Event) (j : StepId) (L : History) → needs_step F v j L ≡ needs_kth F v j (own j.task L)
unfolding needs_kth
by_acts F v j [] = refl
by_acts F v j (u ∷ L) = at (is_of j.task u) refl (by_acts F v j L)
  where
    at : (b : Bool) → is_of j.task u ≡ b → needs_step F v j L ≡ needs_kth F v j (own j.task L) → needs_step F v j (u ∷ L) ≡ needs_kth F v j (prepend_if b u.action (own j.task L))
    at true o e =
        let k = j.k == suc (length (own j.task L)) in
        ap₂ (λ x y. x || y)
        (ap (λ b. (b && k) && needs F v u) o ∙ ap (λ t. k && needs F v (record { task = t; action = u.action })) (same_true u.task j.task o))
        e
    at false o e =
        let k = j.k == suc (length (own j.task L)) in
        ap (λ b. ((b && k) && needs F v u) || needs_step F v j L) o ∙ e

kth_alike : {G H : History} → Alike G H → (v : Event) (j : StepId) (acts : List Action) → needs_kth G v j acts ≡ needs_kth H v j acts
unfolding needs_kth
kth_alike a v j [] = refl
kth_alike a v j (x ∷ acts) =
    ap₂ (λ p q. p || q) (ap (λ p. (j.k == suc (length acts)) && p) (needs_alike a v (record { task = j.task; action = x }))) (kth_alike a v j acts)

-- alike histories have the same direct needs
pub step_needs_alike : {G H : History} → Alike G H → (v : Event) (j : StepId) → needs_step G v j G ≡ needs_step H v j H
step_needs_alike {G} {H} a v j =
    by_acts G v j G ∙ kth_alike a v j (own j.task G) ∙ ap (needs_kth H v j) (a.acts j.task) ∙ sym (by_acts H v j H)

-- alike histories have the same next ordinals of steps
pub step_alike : {G H : History} → Alike G H → (i : StepId) (v : Event) → is_step i G v ≡ is_step i H v
step_alike a i v = ap (λ acts. is_of i.task v && (i.k == suc (length acts))) (a.acts i.task)

-- ---- one neighbour is left out

eqb_comm : (m n : ℕ) → (m == n) ≡ (n == m)
eqb_comm m n = at (m == n) refl
  where
    at : (b : Bool) → (m == n) ≡ b → (m == n) ≡ (n == m)
    at true q = q ∙ sym (eq-eqb n m (sym (eqb-true m n q)))
    at false q = q ∙ sym (ne_eqb n m (λ e. both_ways (m == n) q (eq-eqb m n (sym e))))

conflicts_comm : (a b : Action) → conflicts a b ≡ conflicts b a
conflicts_comm (Store c x) (Store d y) = eqb_comm c d
conflicts_comm (Store c x) (Load r d y) = eqb_comm c d
conflicts_comm (Load r c x) (Store d y) = eqb_comm c d
conflicts_comm (Store c x) _ = refl
conflicts_comm (Load r c x) _ = refl
conflicts_comm _ (Store d y) = refl
conflicts_comm _ (Load r d y) = refl
conflicts_comm _ _ = refl

-- who has acted has started
pub acted_started : (cells : Cells) (H : History) (t : Name) → Legal cells H → own t H ≢ [] → HasStarted H t
acted_started cells [] t l h = absurd (h refl)
acted_started cells (v ∷ H) t l h = at (is_of t v) refl (acted_started cells H t l.0)
  where
    at : (b : Bool) → is_of t v ≡ b → (own t H ≢ [] → HasStarted H t) → HasStarted (v ∷ H) t
    at false o rest = or_right (starts t v) _ (rest (λ e. h (own_other t v H o ∙ e)))
    at true o rest =
        let n = same_true v.task t o in
        ⊎_elim
        (λ s. or_left (starts t v) _ (and_from (is_of t v) (is_start v.action) o (ap is_start s)))
        (λ r. or_right (starts t v) _ (rest (running_acts (own t H) (subst (λ u. IsRunning (own u H)) n r))))
        (begun cells v.task (own v.task H) v.action l.1.own)

-- who may act was generated
pub may_spawned : (cells : Cells) (H : History) (v : Event) → Legal cells H → MayFollow cells H v → IsSpawned H v.task
may_spawned cells H v l m =
    ⊎_elim (λ s. timely_start cells H v.task v.action s m.timely) (λ r. acted_spawned cells H v.task l (running_acts (own v.task H) r))
    (begun cells v.task (own v.task H) v.action m.own)

-- a task that has acted, and that an event comes after, has ended
ended_first : (cells : Cells) (H : History) (t : Name) (a : Action) (u : Name) → Legal cells H → ((w : Name) → holds (own t H) w ≡ true → HasEnded H w) → IsTimely cells H t a → own u H ≢ [] → needs_end_of H t a u ≡ true → HasEnded H u
ended_first cells H t a u l r m n h =
    ⊎_elim (λ x. r u x) (λ x. at a m x) (or_cases (holds (own t H) u) (waits_for H t a u) h)
  where
    at : (a : Action) → IsTimely cells H t a → waits_for H t a u ≡ true → HasEnded H u
    at Start m x = ⊎_elim (λ b. m.behind u b) (λ b. m.alone u b (acted_started cells H u l n)) (or_cases _ _ x)
    at (Wait items) m x = m u x (acted_spawned cells H u l n)
    at Close m x = m u x (acted_spawned cells H u l n)
    at (Let r x) m h = absurd (false≢true h)
    at (Load r c x) m h = absurd (false≢true h)
    at (Store c x) m h = absurd (false≢true h)
    at (Print x) m h = absurd (false≢true h)
    at (Spawn s) m h = absurd (false≢true h)
    at Open m h = absurd (false≢true h)
    at (Test b) m h = absurd (false≢true h)
    at End m h = absurd (false≢true h)
    at Fault m h = absurd (false≢true h)

-- g, of another task, is after H: what an event needs of H stays as it was
module _ (cells : Cells) (H : History) (l : Legal cells H) (g : Event) (mg : MayFollow cells H g) where
  kept : (u : Name) → IsSpawned H u → items_of u (g ∷ H) ≡ items_of u H
  kept u s = items_stay cells H l g mg u (not_again cells H l g mg u s)

  waits_for_kept : (t : Name) (a : Action) (u : Name) → is_of t g ≡ false → IsTimely cells H t a → IsSpawned H u → waits_for (g ∷ H) t a u ≡ waits_for H t a u
  waits_for_kept t Start u o m s =
      ap₂ (λ i j. (is_elder u t && some_meet is_before i j) || ((is_elder u t && some_meet is_apart i j) || (is_elder t u && some_meet is_apart j i))) (kept t m.spawned) (kept u s)
  waits_for_kept t (Wait items) u o m s =
      ap (λ i. is_child t u && (has_no_items items || some_meet is_before items i)) (kept u s)
  waits_for_kept t Close u o m s = ap (λ acts. is_member acts u) (own_other t g H o)
  waits_for_kept t _ u o m s = refl

  follows_kept : (t : Name) (a : Action) (u : Name) → is_of t g ≡ false → IsTimely cells H t a → IsSpawned H u → needs_end_of (g ∷ H) t a u ≡ needs_end_of H t a u
  follows_kept t a u o m s = ap₂ (λ b c. b || c) (ap (λ acts. holds acts u) (own_other t g H o)) (waits_for_kept t a u o m s)

  needs_kept : (x u : Event) → is_of x.task g ≡ false → MayFollow cells H x → IsSpawned H u.task → needs (g ∷ H) x u ≡ needs H x u
  needs_kept x u o m s =
      ap (λ b. is_of x.task u || (spawns x.task u || (conflicts x.action u.action || ((is_end u.action && b) || (is_print x.action && is_print u.action)))))
      (follows_kept x.task x.action u.task o m.timely s)

  acted : (u : Event) → list_any (is_of u.task) H ≡ true → own u.task H ≢ []
  acted u h = λ z. both_ways _ (no_acts u.task H z) h

  -- an event of another task in between changes no direct need
  pub needs_of_old : (x : Event) → is_of x.task g ≡ false → MayFollow cells H x → (u : Event) → list_any (is_of u.task) H ≡ true → needs (g ∷ H) x u ≡ needs H x u
  needs_of_old x o m u h = needs_kept x u o m (acted_spawned cells H u.task l (acted u h))

steps_same : (F K : History) (x : Event) (j : StepId) (L : History) → ((u : Event) → list_any (is_of u.task) L ≡ true → needs F x u ≡ needs K x u) → needs_step F x j L ≡ needs_step K x j L
steps_same F K x j [] f = refl
steps_same F K x j (u ∷ L) f =
    ap₂ (λ p q. p || q) (ap (λ p. is_step j L u && p) (f u (or_left (is_of u.task u) _ (same_refl u.task))))
    (steps_same F K x j L (λ w h. f w (or_right (is_of w.task u) _ h)))

any_on : (p q : Event → Bool) (xs : History) → ((x : Event) → list_any (is_of x.task) xs ≡ true → p x ≡ q x) → list_any p xs ≡ list_any q xs
any_on p q [] f = refl
any_on p q (x ∷ xs) f =
    ap₂ (λ a b. a || b) (f x (or_left (is_of x.task x) _ (same_refl x.task))) (any_on p q xs (λ w h. f w (or_right (is_of w.task x) _ h)))

any_gone : {A : Type 0} (p : A → Bool) {xs ks rs : List A} → Parts xs ks rs → list_any p rs ≡ true → list_any p xs ≡ true
any_gone p parts.none h = h
any_gone p (parts.stays {x = x} {xs = xs} s) h = or_right (p x) (list_any p xs) (any_gone p s h)
any_gone p (parts.goes {x = x} {xs = xs} {rs = rs} s) h =
    ⊎_elim (λ a. or_left (p x) (list_any p xs) a) (λ b. or_right (p x) (list_any p xs) (any_gone p s b)) (or_cases (p x) (list_any p rs) h)

-- ---- two neighbours change places

module _ (cells : Cells) (H : History) (e f : Event) (l : Legal cells (f ∷ e ∷ H)) (n : needs (e ∷ H) f e ≡ false) where
  below : Legal cells H
  below = l.0.0

  me : MayFollow cells H e
  me = l.0.1

  mf : MayFollow cells H f
  mf = (swapped cells H e f l n).0.0.1

  not_e : is_of f.task e ≡ false
  not_e = (or_parts (is_of f.task e) _ n).0

  not_f : is_of e.task f ≡ false
  not_f = same_sym e.task f.task not_e

  -- the earlier, after the later, doesn't need it
  pub back_free : needs (f ∷ H) e f ≡ false
  back_free = false_from_ne_true (needs (f ∷ H) e f) (λ h.
      ⊎_elim (λ a. both_ways (is_of e.task f) not_f a)
      (λ h. ⊎_elim (λ a. both_ways (spawns e.task f) (not_again cells H below f mf e.task (may_spawned cells H e below me)) a)
      (λ h. ⊎_elim (λ a. both_ways (conflicts f.action e.action) c (conflicts_comm f.action e.action ∙ a))
      (λ h. ⊎_elim ended printed (or_cases (is_end f.action && needs_end_of (f ∷ H) e.task e.action f.task) _ h))
      (or_cases (conflicts e.action f.action) _ h)) (or_cases (spawns e.task f) _ h)) (or_cases (is_of e.task f) _ h))
    where
      r : (conflicts f.action e.action || ((is_end e.action && needs_end_of (e ∷ H) f.task f.action e.task) || (is_print f.action && is_print e.action))) ≡ false
      r = (or_parts (spawns f.task e) _ (or_parts (is_of f.task e) _ n).1).1

      c : conflicts f.action e.action ≡ false
      c = (or_parts (conflicts f.action e.action) _ r).0

      p : (is_print f.action && is_print e.action) ≡ false
      p = (or_parts (is_end e.action && needs_end_of (e ∷ H) f.task f.action e.task) _ (or_parts (conflicts f.action e.action) _ r).1).1

      printed : (is_print e.action && is_print f.action) ≡ true → ⊥
      printed a =
          let o = and_parts (is_print e.action) (is_print f.action) a in
          both_ways (is_print f.action && is_print e.action) p (and_from (is_print f.action) (is_print e.action) o.1 o.0)

      ended : (is_end f.action && needs_end_of (f ∷ H) e.task e.action f.task) ≡ true → ⊥
      ended a =
          let o = and_parts (is_end f.action) (needs_end_of (f ∷ H) e.task e.action f.task) a in
          ⊎_elim (λ s. false≢true (sym (ap is_end s) ∙ o.0))
          (λ r.
          let acts = running_acts (own f.task H) r in
          let w = sym (follows_kept cells H below f mf e.task e.action f.task not_f me.timely (acted_spawned cells H f.task below acts)) ∙ o.1 in
          not_running cells H f.task below (ended_first cells H e.task e.action f.task below me.resumed me.timely acts w) r)
          (begun cells f.task (own f.task H) f.action mf.own)

  skip : (F : History) (v : Event) (j : StepId) (u : Event) (L : History) → needs F v u ≡ false → needs_step F v j (u ∷ L) ≡ needs_step F v j L
  skip F v j u L h = ap (λ b. b || needs_step F v j L) (and_right (is_step j L u) (needs F v u) h)

  -- after the change of places each step directly needs the same
  pub swap_needs : (i j : StepId) → needs_in i j (f ∷ e ∷ H) ≡ needs_in i j (e ∷ f ∷ H)
  swap_needs i j =
      let x : (is_step i (e ∷ H) f && needs_step (e ∷ H) f j (e ∷ H)) ≡ (is_step i H f && needs_step H f j H) =
      ap₂ (λ b c. b && c) (step_apart e i [] H f not_f)
      (skip (e ∷ H) f j e H n ∙ steps_same (e ∷ H) H f j H (needs_of_old cells H below e me f not_e mf)) in
      let y : (is_step i (f ∷ H) e && needs_step (f ∷ H) e j (f ∷ H)) ≡ (is_step i H e && needs_step H e j H) =
      ap₂ (λ b c. b && c) (step_apart f i [] H e not_e)
      (skip (f ∷ H) e j f H back_free ∙ steps_same (f ∷ H) H e j H (needs_of_old cells H below f mf e not_f me)) in
      ap (λ b. b || ((is_step i H e && needs_step H e j H) || needs_in i j H)) x
      ∙ or_swap (is_step i H f && needs_step H f j H) (is_step i H e && needs_step H e j H) (needs_in i j H)
      ∙ ap (λ b. b || ((is_step i H f && needs_step H f j H) || needs_in i j H)) (sym y)

  -- what goes with a step is the same in both orders
  module _ (d : StepId) where
    abbrev R : History
    R = removed d H

    among : (x : Event) → list_any (is_of x.task) R ≡ true → list_any (is_of x.task) H ≡ true
    among x h = any_gone (is_of x.task) (in_parts d H) h

    any_skip : (p : Event → Bool) (b : Bool) (x : Event) → p x ≡ false → list_any p (prepend_if b x R) ≡ list_any p R
    any_skip p true x h = ap (λ c. c || list_any p R) h
    any_skip p false x h = refl

    removed_f : is_removed d (e ∷ H) f ≡ is_removed d H f
    removed_f =
        ap₂ (λ b c. b || c) (step_apart e d [] H f not_f)
        (any_skip (needs (e ∷ H) f) (is_removed d H e) e n ∙ any_on (needs (e ∷ H) f) (needs H f) R (λ x h. needs_of_old cells H below e me f not_e mf x (among x h)))

    removed_e : is_removed d (f ∷ H) e ≡ is_removed d H e
    removed_e =
        ap₂ (λ b c. b || c) (step_apart f d [] H e not_e)
        (any_skip (needs (f ∷ H) e) (is_removed d H f) f back_free ∙ any_on (needs (f ∷ H) e) (needs H e) R (λ x h. needs_of_old cells H below f mf e not_f me x (among x h)))

    abbrev K : History
    K = without d H

    -- where both stay they may still change places
    still_free : is_removed d H f ≡ false → needs (e ∷ K) f e ≡ false
    still_free g =
        let none = (or_parts (is_step d H f) (list_any (needs H f) R) g).1 in
        let o = own_same f.task (in_parts d H) (none_weaker (is_of f.task) (needs H f) (needs_own H f.task f.action) R none) in
        let o' : own f.task (e ∷ K) ≡ own f.task (e ∷ H) = ap (prepend_if (is_of f.task e) e.action) o in
        false_from_ne_true (needs (e ∷ K) f e) (λ h. both_ways (needs (e ∷ H) f e) n (needs_up (parts.stays (in_parts d H)) f e o' h))

    pub swap_without : Run (without d (f ∷ e ∷ H)) (without d (e ∷ f ∷ H))
    swap_without =
        subst (λ p. Run (prepend_if (not p) f (prepend_if (not (is_removed d H e)) e K)) (without d (e ∷ f ∷ H))) (sym removed_f)
        (subst (λ q. Run (prepend_if (not (is_removed d H f)) f (prepend_if (not (is_removed d H e)) e K)) (prepend_if (not q) e (prepend_if (not (is_removed d H f)) f K))) (sym removed_e)
        (at (is_removed d H f) (is_removed d H e) refl))
      where
        at : (p q : Bool) → is_removed d H f ≡ p → Run (prepend_if (not p) f (prepend_if (not q) e K)) (prepend_if (not q) e (prepend_if (not p) f K))
        at true q g = runs.same (prepend_if (not q) e K)
        at false true g = runs.same (f ∷ K)
        at false false g = runs.swap e f K (still_free g)

    pub swap_removed : (p : Event → Bool) → list_any p (removed d (f ∷ e ∷ H)) ≡ list_any p (removed d (e ∷ f ∷ H))
    swap_removed p =
        ap (λ b. list_any p (prepend_if b f (prepend_if (is_removed d H e) e R))) removed_f
        ∙ at (is_removed d H f) (is_removed d H e)
        ∙ ap (λ b. list_any p (prepend_if b e (prepend_if (is_removed d H f) f R))) (sym removed_e)
      where
        at : (b c : Bool) → list_any p (prepend_if b f (prepend_if c e R)) ≡ list_any p (prepend_if c e (prepend_if b f R))
        at true true = or_swap (p f) (p e) (list_any p R)
        at true false = refl
        at false true = refl
        at false false = refl

-- ---- many changes of places

-- H is legal, alike, and has the same direct needs
pub record Same (cells : Cells) (G H : History) : Type 0 where
  pub legal : Legal cells H
  pub alike : Alike G H
  pub needs : (i j : StepId) → needs_in i j G ≡ needs_in i j H

-- a history that is reached by changes of places is legal, alike, and has the same needs
pub run_same : (cells : Cells) {G H : History} → Legal cells G → Run G H → Same cells G H
run_same cells l (runs.same H) = record { legal = l; alike = alike_refl H; needs = λ i j. refl }
run_same cells l (runs.more v {G} {H} r) =
    let s = run_same cells l.0 r in
    record {
      legal = (s.legal, follows_alike cells s.alike v l.1);
      alike = alike_cons v s.alike;
      needs =
          λ i j. ap₂ (λ b c. b || c) (ap₂ (λ b c. b && c) (step_alike s.alike i v) (step_needs_alike s.alike v j)) (s.needs i j);
    }
run_same cells l (runs.swap e f H n) =
    let s = swapped cells H e f l n in record { legal = s.0; alike = s.1; needs = swap_needs cells H e f l n }
run_same cells l (runs.by_way r q) =
    let a = run_same cells l r in
    let b = run_same cells a.legal q in
    record { legal = b.legal; alike = alike_trans a.alike b.alike; needs = λ i j. a.needs i j ∙ b.needs i j }

-- what is left of both without d differs by changes of places, and what goes passes the same tests
pub record Left (d : StepId) (G H : History) : Type 0 where
  pub run : Run (without d G) (without d H)
  pub gone : (p : Event → Bool) → list_any p (removed d G) ≡ list_any p (removed d H)

left_more : (d : StepId) (v : Event) {G H : History} → is_removed d G v ≡ is_removed d H v → Left d G H → Left d (v ∷ G) (v ∷ H)
left_more d v {G} {H} e s = record {
  run = subst (λ c. Run (prepend_if (not (is_removed d G v)) v (without d G)) (prepend_if (not c) v (without d H))) e (at (is_removed d G v));
  gone = λ p. ap (λ c. list_any p (prepend_if c v (removed d G))) e ∙ each p (is_removed d H v);
}
  where
    at : (b : Bool) → Run (prepend_if (not b) v (without d G)) (prepend_if (not b) v (without d H))
    at true = s.run
    at false = runs.more v s.run

    each : (p : Event → Bool) (b : Bool) → list_any p (prepend_if b v (removed d G)) ≡ list_any p (prepend_if b v (removed d H))
    each p true = ap (λ c. p v || c) (s.gone p)
    each p false = s.gone p

-- what is left without a step is reached by changes of places too
pub left : (cells : Cells) (d : StepId) {G H : History} → Legal cells G → Run G H → Left d G H
left cells d l (runs.same H) = record { run = runs.same (without d H); gone = λ p. refl }
left cells d l (runs.more v {G} {H} r) =
    let a = (run_same cells l.0 r).alike in
    let s = left cells d l.0 r in
    left_more d v (ap₂ (λ b c. b || c) (step_alike a d v) (s.gone (needs G v) ∙ any_same (needs G v) (needs H v) (λ u. needs_alike a v u) (removed d H))) s
left cells d l (runs.swap e f H n) =
    record { run = swap_without cells H e f l n d; gone = swap_removed cells H e f l n d }
left cells d l (runs.by_way r q) =
    let a = left cells d l r in
    let b = left cells d (run_same cells l r).legal q in
    record { run = runs.by_way a.run b.run; gone = λ p. a.gone p ∙ b.gone p }

-- ---- equivalent histories

need_first : (i j : StepId) (H : History) → needs_in i j H ≡ true → comes_first j i H ≡ true
need_first i j [] h = absurd (false≢true h)
need_first i j (v ∷ H) h =
    ⊎_elim
    (λ a.
    let o = and_parts (is_step i H v) (needs_step H v j H) a in
    or_left (is_step i H v && stands j H) _ (and_from (is_step i H v) (stands j H) o.0 (needed_stands H v j H o.1)))
    (λ a. or_right (is_step i H v && stands j H) _ (need_first i j H a))
    (or_cases (is_step i H v && needs_step H v j H) _ h)

-- a legal history and one to which exchanges of its events lead are equivalent
pub run_equivalent : (cells : Cells) {G H : History} → Legal cells G → Run G H → Equivalent G H
run_equivalent cells {G} {H} l r =
    let s = run_same cells l r in
    record {
      acts = s.alike.acts;
      there = λ i j h. need_first i j H (sym (s.needs i j) ∙ h);
      back = λ i j h. need_first i j G (s.needs i j ∙ h);
    }

-- the other way round: equivalent histories are reached by changes of places
pub equivalent : (cells : Cells) (G H : History) → Legal cells G → Equivalent H G → Same cells G H
equivalent cells G H l q = run_same cells l (equivalent_run cells H G l q)

turned : {G H : History} → Equivalent G H → Equivalent H G
turned q = record { acts = λ t. sym (q.acts t); there = q.back; back = q.there }

-- equivalent histories are alike, with the same needs
pub equivalent_state : (cells : Cells) (G H : History) → Legal cells G → Equivalent G H → Alike G H × ((i j : StepId) → needs_in i j G ≡ needs_in i j H)
equivalent_state cells G H l q = let s = equivalent cells G H l (turned q) in (s.alike, s.needs)

-- what is left of equivalent histories without a step is equivalent
pub equivalent_without : (cells : Cells) (d : StepId) (G H : History) → Legal cells G → Equivalent G H → Equivalent (without d G) (without d H)
equivalent_without cells d G H l q =
    let r = equivalent_run cells H G l (turned q) in
    run_equivalent cells (removal cells d G l) (left cells d l r).run
