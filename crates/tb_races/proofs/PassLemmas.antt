-- The pass over a history finds exactly what an order puts after a step.
use Rattle.std.proofs.Common.{◌≡◌, ◌<◌, ℕ, zero, suc, List, [], ◌∷◌, ◌++◌, length, Bool, true, false, ◌||◌, ◌⊎◌, ◌↔◌, inl, inr, ⊎_elim, refl, sym, ap, ap₂, ◌∙◌, subst, arith, append_assoc, length-append}
use Rattle.std.specs.List.{list_any}
use Rattle.std.proofs.lemmas.Bool.{or_cases, or_left, or_right, both_ways, false≢true}
use Rattle.tb_model.specs.declared.event.Event.{Event}
use Rattle.tb_model.specs.declared.step_id.StepId.{StepId}
use Rattle.tb_model.specs.Facts.{History, own, prepend_if}
use Rattle.tb_model.specs.Needs.{is_step, step_of}
use Rattle.tb_model.proofs.RemovalLemmas.{own_grows, not_step, its_step}
use Rattle.tb_model.proofs.LeastLemmas.{later_not_step}
use Rattle.tb_races.specs.Orders.{Order, links, ComesAfter, directly, by_way, followers, comes_after}

-- one that passes is the first, where that was put in front, or one of the rest
pub any_put : {A : Type 0} (p : A → Bool) (b : Bool) (x : A) (xs : List A) → list_any p (prepend_if b x xs) ≡ true → ((b ≡ true) × (p x ≡ true)) ⊎ (list_any p xs ≡ true)
any_put p true x xs h = ⊎_elim (λ a. inl (refl, a)) (λ a. inr a) (or_cases (p x) (list_any p xs) h)
any_put p false x xs h = inr h

pub put_rest : {A : Type 0} (p : A → Bool) (b : Bool) (x : A) (xs : List A) → list_any p xs ≡ true → list_any p (prepend_if b x xs) ≡ true
put_rest p true x xs h = or_right (p x) (list_any p xs) h
put_rest p false x xs h = h

pub put_here : {A : Type 0} (p : A → Bool) (b : Bool) (x : A) (xs : List A) → b ≡ true → p x ≡ true → list_any p (prepend_if b x xs) ≡ true
put_here p b x xs e h = subst (λ c. list_any p (prepend_if c x xs) ≡ true) (sym e) (or_left (p x) (list_any p xs) h)

module _ (o : Order) where
  -- v, after H, is the step e or comes after it
  abbrev follows : StepId → History → Event → Bool
  follows e H v = is_step e H v || comes_after o e H v

  -- nothing comes after a step that isn't reached
  pub followers_none : (e : StepId) (H : History) → length (own e.task H) < e.k → followers o e H ≡ []
  followers_none e [] h = refl
  followers_none e (v ∷ H) h =
      let r = followers_none e H (omega (arith, h, own_grows e.task v H)) in
      ap₂ (λ b R. prepend_if (b || list_any (links o H v) R) v R) (not_step e H v h) r

  module _ (u : Event) (front : History) where
    none_yet : followers o (step_of front u) front ≡ []
    none_yet = followers_none (step_of front u) front (omega arith)

    -- what was found is the step or is after it
    record Found (p : Event → Bool) (b : History) : Type 0 where
      who : Event
      after : History
      before : History
      split : b ≡ after ++ who ∷ before
      follows : follows (step_of front u) (before ++ u ∷ front) who ≡ true
      passes : p who ≡ true

    found : (p : Event → Bool) (b : History) → list_any p (followers o (step_of front u) (b ++ u ∷ front)) ≡ true → (p u ≡ true) ⊎ (Found p b)
    found p [] h =
        ⊎_elim (λ a. inl a.1) (λ a. absurd (false≢true (sym (ap (list_any p) none_yet) ∙ a)))
        (any_put p (follows (step_of front u) front u) u (followers o (step_of front u) front) h)
    found p (w ∷ b) h =
        ⊎_elim (λ a. inr (record { who = w; after = []; before = b; split = refl; follows = a.0; passes = a.1 }))
        (λ a. ⊎_elim (λ x. inl x) (λ f. inr (record { who = f.who; after = w ∷ f.after; before = f.before; split = ap (λ xs. w ∷ xs) f.split; follows = f.follows; passes = f.passes })) (found p b a))
        (any_put p (follows (step_of front u) (b ++ u ∷ front) w) w (followers o (step_of front u) (b ++ u ∷ front)) h)

    resplit : (b after : History) (who : Event) (before : History) → b ≡ after ++ who ∷ before → after ++ who ∷ (before ++ u ∷ front) ≡ b ++ u ∷ front
    resplit b after who before e = sym (ap (λ xs. xs ++ u ∷ front) e ∙ append_assoc after (who ∷ before) (u ∷ front))

    by_found : (w : Event) (b after : History) (who : Event) (before : History) → b ≡ after ++ who ∷ before → links o (b ++ u ∷ front) w who ≡ true → ComesAfter o (w ∷ (b ++ u ∷ front)) (who ∷ (before ++ u ∷ front))
    by_found w b after who before e p =
        let q = resplit b after who before e in
        subst (λ G. ComesAfter o (w ∷ G) (who ∷ (before ++ u ∷ front))) q
        (directly o w who after (before ++ u ∷ front) (subst (λ G. links o G w who ≡ true) (sym q) p))

    -- whatever is found comes after the step
    sound : (n : ℕ) (b : History) (w : Event) → length b < n → comes_after o (step_of front u) (b ++ u ∷ front) w ≡ true → ComesAfter o (w ∷ (b ++ u ∷ front)) (u ∷ front)
    sound zero b w m h = absurd (omega (arith, m))
    sound (suc n) b w m h =
        ⊎_elim (λ d. directly o w u b front d)
        (λ f.
        let l = ap length f.split ∙ length-append f.after (f.who ∷ f.before) in
        let c = ⊎_elim (λ s. absurd (both_ways _ (later_not_step u front f.before f.who) s)) (λ a. a) (or_cases (is_step (step_of front u) (f.before ++ u ∷ front) f.who) _ f.follows) in
        by_way {G = f.who ∷ (f.before ++ u ∷ front)} (by_found w b f.after f.who f.before f.split f.passes) (sound n f.before f.who (omega (arith, l, m)) c))
        (found (links o (b ++ u ∷ front) w) b h)

  -- ---- and whatever comes after it is found

  -- what an event that follows takes with it follows
  pub takes : (e : StepId) (x : Event) (K : History) → follows e K x ≡ true → (p : Event → Bool) (b : History) → list_any p (followers o (step_of K x) (b ++ x ∷ K)) ≡ true → list_any p (followers o e (b ++ x ∷ K)) ≡ true
  takes e x K g p [] h =
      ⊎_elim (λ a. put_here p (follows e K x) x (followers o e K) g a.1)
      (λ a. absurd (false≢true (sym (ap (list_any p) (none_yet x K)) ∙ a)))
      (any_put p (follows (step_of K x) K x) x (followers o (step_of K x) K) h)
  takes e x K g p (w ∷ b) h =
      let G = b ++ x ∷ K in
      ⊎_elim
      (λ a.
      put_here p (follows e G w) w (followers o e G)
      (or_right (is_step e G w) _
      (⊎_elim (λ s. absurd (both_ways _ (later_not_step x K b w) s)) (λ s. takes e x K g (links o G w) b s) (or_cases (is_step (step_of K x) G w) _ a.0)))
      a.1)
      (λ a. put_rest p (follows e G w) w (followers o e G) (takes e x K g p b a))
      (any_put p (follows (step_of K x) G w) w (followers o (step_of K x) G) h)

  -- the second history is the end of the first, and the first's newest event comes after the second's by the pass
  abbrev Takes : History → History → Type 0
  Takes [] G = ⊥
  Takes (v ∷ H) [] = ⊥
  Takes (v ∷ H) (u ∷ front) = (b : History) × (b ++ u ∷ front ≡ H) × (comes_after o (step_of front u) H v ≡ true)

  takes_both : (F G H : History) → Takes F G → Takes G H → Takes F H
  takes_both [] G H s t = s
  takes_both (v ∷ F) [] H s t = absurd s
  takes_both (v ∷ F) (x ∷ K) [] s t = absurd t
  takes_both (v ∷ F) (x ∷ K) (u ∷ front) s t = (
    s.0 ++ x ∷ t.0,
    append_assoc s.0 (x ∷ t.0) (u ∷ front) ∙ ap (λ G. s.0 ++ x ∷ G) t.1 ∙ s.1,
    subst (λ G. comes_after o (step_of front u) G v ≡ true) s.1
        (takes (step_of front u) x K (or_right (is_step (step_of front u) K x) _ t.2) (links o (s.0 ++ x ∷ K) v) s.0
        (subst (λ G. comes_after o (step_of K x) G v ≡ true) (sym s.1) s.2)),
  )

  -- what links to an event that follows is found
  pub passing : (p : Event → Bool) (e : StepId) (b : History) (u : Event) (front : History) → follows e front u ≡ true → p u ≡ true → list_any p (followers o e (b ++ u ∷ front)) ≡ true
  passing p e [] u front g h = put_here p (follows e front u) u (followers o e front) g h
  passing p e (w ∷ b) u front g h = put_rest p (follows e (b ++ u ∷ front) w) w (followers o e (b ++ u ∷ front)) (passing p e b u front g h)

complete : {o : Order} {F G : History} → ComesAfter o F G → Takes o F G
complete (directly o v u b front h) =
    (b, refl, passing o (links o (b ++ u ∷ front) v) (step_of front u) b u front (or_left (is_step (step_of front u) front u) _ (its_step front u)) h)
complete (by_way {o = o} {F = F} {G = G} {H = H} n m) = takes_both o F G H (complete n) (complete m)

-- an event comes after an earlier one exactly where the pass finds so
pub found_by_pass : (o : Order) (later : History) (v u : Event) (front : History) → (comes_after o (step_of front u) (later ++ u ∷ front) v ≡ true) ↔ ComesAfter o (v ∷ (later ++ u ∷ front)) (u ∷ front)
found_by_pass o later v u front =
    (sound o u front (suc (length later)) later v (omega arith), λ n. (complete n).2)
