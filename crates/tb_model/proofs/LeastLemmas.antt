-- The pass over the history finds exactly the closure.
use Rattle.std.proofs.Common.{◌≡◌, ◌≤◌, ◌<◌, ℕ, zero, suc, List, [], ◌∷◌, ◌++◌, length, Bool, true, false, ◌⊎◌, ◌↔◌, inl, inr, ⊎_elim, refl, sym, ap, ◌∙◌, subst, arith, ne_eqb, append_assoc, length-append}
use Rattle.std.specs.List.{list_any}
use Rattle.std.proofs.lemmas.Bool.{or_cases, or_left, or_right, both_ways, false≢true, and_right}
use Rattle.tb_model.specs.declared.event.Event.{Event}
use Rattle.tb_model.specs.Facts.{History, own, is_of, prepend_if}
use Rattle.tb_model.specs.declared.step_id.StepId.{StepId}
use Rattle.tb_model.specs.Needs.{needs, is_step, step_of, removed, is_removed}
use Rattle.tb_model.specs.Closure.{Needs, directly, by_way}
use Rattle.tb_model.proofs.TestLemmas.{same_refl}
use Rattle.tb_model.proofs.FactsLemmas.{own_mine}
use Rattle.tb_model.proofs.RemovalLemmas.{own_grows, removed_none}
use Rattle.tb_model.proofs.RemovalLemmas.{its_step}

any_put : {A : Type 0} (p : A → Bool) (b : Bool) (x : A) (xs : List A) → list_any p (prepend_if b x xs) ≡ true → ((b ≡ true) × (p x ≡ true)) ⊎ (list_any p xs ≡ true)
any_put p true x xs h = ⊎_elim (λ a. inl (refl, a)) (λ a. inr a) (or_cases (p x) (list_any p xs) h)
any_put p false x xs h = inr h

put_rest : {A : Type 0} (p : A → Bool) (b : Bool) (x : A) (xs : List A) → list_any p xs ≡ true → list_any p (prepend_if b x xs) ≡ true
put_rest p true x xs h = or_right (p x) (list_any p xs) h
put_rest p false x xs h = h

put_here : {A : Type 0} (p : A → Bool) (b : Bool) (x : A) (xs : List A) → b ≡ true → p x ≡ true → list_any p (prepend_if b x xs) ≡ true
put_here p b x xs e h = subst (λ c. list_any p (prepend_if c x xs) ≡ true) (sym e) (or_left (p x) (list_any p xs) h)

module _ (u : Event) (front : History) where
  -- after the step itself no event is the step
  pub later_not_step : (b : History) (w : Event) → is_step (step_of front u) (b ++ u ∷ front) w ≡ false
  later_not_step b w =
      let n : suc (length (own u.task front)) ≤ length (own u.task (b ++ u ∷ front)) = own_more b in
      and_right (is_of u.task w) _ (ne_eqb (suc (length (own u.task front))) (suc (length (own u.task (b ++ u ∷ front)))) (λ e. omega arith))
    where
      own_more : (c : History) → suc (length (own u.task front)) ≤ length (own u.task (c ++ u ∷ front))
      own_more [] = omega (arith, ap length (own_mine u.task u front (same_refl u.task)))
      own_more (x ∷ c) = omega (arith, own_more c, own_grows u.task x (c ++ u ∷ front))

  -- a step is removed with itself
  pub gone_here : is_removed (step_of front u) front u ≡ true
  gone_here = or_left (is_step (step_of front u) front u) _ (its_step front u)

  -- what was removed is the step or is after it
  record Found (p : Event → Bool) (b : History) : Type 0 where
    who : Event
    after : History
    before : History
    split : b ≡ after ++ who ∷ before
    gone : is_removed (step_of front u) (before ++ u ∷ front) who ≡ true
    passes : p who ≡ true

  found : (p : Event → Bool) (b : History) → list_any p (removed (step_of front u) (b ++ u ∷ front)) ≡ true → (p u ≡ true) ⊎ (Found p b)
  found p [] h =
      ⊎_elim (λ a. inl a.1) (λ a. absurd (false≢true (sym (ap (list_any p) (removed_none (step_of front u) front (omega arith))) ∙ a)))
      (any_put p (is_removed (step_of front u) front u) u (removed (step_of front u) front) h)
  found p (w ∷ b) h =
      ⊎_elim (λ a. inr (record { who = w; after = []; before = b; split = refl; gone = a.0; passes = a.1 }))
      (λ a. ⊎_elim (λ x. inl x) (λ f. inr (record { who = f.who; after = w ∷ f.after; before = f.before; split = ap (λ xs. w ∷ xs) f.split; gone = f.gone; passes = f.passes })) (found p b a))
      (any_put p (is_removed (step_of front u) (b ++ u ∷ front) w) w (removed (step_of front u) (b ++ u ∷ front)) h)

  resplit : (b after : History) (who : Event) (before : History) → b ≡ after ++ who ∷ before → after ++ who ∷ (before ++ u ∷ front) ≡ b ++ u ∷ front
  resplit b after who before e = sym (ap (λ xs. xs ++ u ∷ front) e ∙ append_assoc after (who ∷ before) (u ∷ front))

  by_found : (w : Event) (b after : History) (who : Event) (before : History) → b ≡ after ++ who ∷ before → needs (b ++ u ∷ front) w who ≡ true → Needs (w ∷ (b ++ u ∷ front)) (who ∷ (before ++ u ∷ front))
  by_found w b after who before e p =
      let q = resplit b after who before e in
      subst (λ G. Needs (w ∷ G) (who ∷ (before ++ u ∷ front))) q
      (directly w who after (before ++ u ∷ front) (subst (λ G. needs G w who ≡ true) (sym q) p))

  -- whatever goes needs the step
  sound : (n : ℕ) (b : History) (w : Event) → length b < n → is_removed (step_of front u) (b ++ u ∷ front) w ≡ true → Needs (w ∷ (b ++ u ∷ front)) (u ∷ front)
  sound zero b w m h = absurd (omega arith)
  sound (suc n) b w m h =
      ⊎_elim (λ s. absurd (both_ways _ (later_not_step b w) s))
      (λ a.
      ⊎_elim (λ d. directly w u b front d)
      (λ f.
      let l = ap length f.split ∙ length-append f.after (f.who ∷ f.before) in
      by_way {G = f.who ∷ (f.before ++ u ∷ front)} (by_found w b f.after f.who f.before f.split f.passes) (sound n f.before f.who (omega arith) f.gone))
      (found (needs (b ++ u ∷ front) w) b a))
      (or_cases (is_step (step_of front u) (b ++ u ∷ front) w) _ h)

-- ---- and whatever needs it goes

-- what an event that goes takes with it goes
takes : (e : StepId) (x : Event) (K : History) → is_removed e K x ≡ true → (p : Event → Bool) (b : History) → list_any p (removed (step_of K x) (b ++ x ∷ K)) ≡ true → list_any p (removed e (b ++ x ∷ K)) ≡ true
takes e x K g p [] h =
    ⊎_elim (λ a. put_here p (is_removed e K x) x (removed e K) g a.1)
    (λ a. absurd (false≢true (sym (ap (list_any p) (removed_none (step_of K x) K (omega arith))) ∙ a)))
    (any_put p (is_removed (step_of K x) K x) x (removed (step_of K x) K) h)
takes e x K g p (w ∷ b) h =
    let G = b ++ x ∷ K in
    ⊎_elim
    (λ a.
    put_here p (is_removed e G w) w (removed e G)
    (or_right (is_step e G w) _
    (⊎_elim (λ s. absurd (both_ways _ (later_not_step x K b w) s)) (λ s. takes e x K g (needs G w) b s) (or_cases (is_step (step_of K x) G w) _ a.0)))
    a.1)
    (λ a. put_rest p (is_removed e G w) w (removed e G) (takes e x K g p b a))
    (any_put p (is_removed (step_of K x) G w) w (removed (step_of K x) G) h)

removed_by : (e : StepId) (x : Event) (K : History) → is_removed e K x ≡ true → (b : History) (v : Event) → is_removed (step_of K x) (b ++ x ∷ K) v ≡ true → is_removed e (b ++ x ∷ K) v ≡ true
removed_by e x K g b v h =
    let G = b ++ x ∷ K in
    or_right (is_step e G v) _
    (⊎_elim (λ s. absurd (both_ways _ (later_not_step x K b v) s)) (λ s. takes e x K g (needs G v) b s) (or_cases (is_step (step_of K x) G v) _ h))

-- the second history is the end of the first, and its newest event takes the first's with it
abbrev pub Takes : History → History → Type 0
Takes [] G = ⊥
Takes (v ∷ H) [] = ⊥
Takes (v ∷ H) (u ∷ front) = (b : History) × (b ++ u ∷ front ≡ H) × (is_removed (step_of front u) H v ≡ true)

takes_both : (F G H : History) → Takes F G → Takes G H → Takes F H
takes_both [] G H s t = s
takes_both (v ∷ F) [] H s t = absurd s
takes_both (v ∷ F) (x ∷ K) [] s t = absurd t
takes_both (v ∷ F) (x ∷ K) (u ∷ front) s t = (
  s.0 ++ x ∷ t.0,
  append_assoc s.0 (x ∷ t.0) (u ∷ front) ∙ ap (λ G. s.0 ++ x ∷ G) t.1 ∙ s.1,
  subst (λ G. is_removed (step_of front u) G v ≡ true) s.1 (removed_by (step_of front u) x K t.2 s.0 v (subst (λ G. is_removed (step_of K x) G v ≡ true) (sym s.1) s.2)),
)

-- an event that goes with e is among what goes
pub passing : (p : Event → Bool) (e : StepId) (b : History) (u : Event) (front : History) → is_removed e front u ≡ true → p u ≡ true → list_any p (removed e (b ++ u ∷ front)) ≡ true
passing p e [] u front g h = put_here p (is_removed e front u) u (removed e front) g h
passing p e (w ∷ b) u front g h = put_rest p _ w _ (passing p e b u front g h)

pub complete : {F G : History} → Needs F G → Takes F G
complete (directly v u b front h) =
    (b, refl, or_right (is_step (step_of front u) (b ++ u ∷ front) v) _ (passing (needs (b ++ u ∷ front) v) (step_of front u) b u front (gone_here u front) h))
complete (by_way {F = F} {G = G} {H = H} n m) = takes_both F G H (complete n) (complete m)

-- an event goes with an earlier one exactly where it needs it
pub removed_needs : (later : History) (v : Event) (u : Event) (front : History) → (is_removed (step_of front u) (later ++ u ∷ front) v ≡ true) ↔ Needs (v ∷ (later ++ u ∷ front)) (u ∷ front)
removed_needs later v u front = (sound u front (suc (length later)) later v (omega arith), λ n. (complete n).2)
