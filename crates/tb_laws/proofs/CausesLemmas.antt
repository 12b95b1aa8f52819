-- One pass from the newest event finds what an event needs.
use Rattle.std.proofs.Common.{◌≡◌, List, [], ◌∷◌, ◌++◌, Bool, true, false, cond, ◌&&◌, ◌||◌, ◌⊎◌, inl, inr, ⊎_elim, refl, sym, ap, ap₂, ◌∙◌, subst, append_assoc}
use Rattle.std.proofs.lemmas.List.{append_cancel_right}
use Rattle.std.specs.List.{list_any}
use Rattle.std.proofs.lemmas.Bool.{or_cases, or_left, or_right, and_parts, and_from, false≢true}
use Rattle.tb_model.specs.declared.event.Event.{Event}
use Rattle.tb_model.specs.Facts.{History, prepend_if}
use Rattle.tb_model.specs.Needs.{needs, step_of, is_removed}
use Rattle.tb_model.specs.Closure.{Needs, directly, by_way}
use Rattle.tb_model.specs.Causes.{Placed, some_needs, causes, causes_by_pass}
use Rattle.tb_model.proofs.LeastLemmas.{removed_needs, complete, Takes}
use Rattle.tb_model.proofs.NeighboursLemmas.{or_swap}

-- ---- the last link of a chain of needs

-- x, after X, directly needs u, and is itself needed
record Last (v : Event) (H : History) (u : Event) (K : History) : Type 0 where
  who : Event
  front : History
  between : History
  split : between ++ u ∷ K ≡ front
  reached : Needs (v ∷ H) (who ∷ front)
  direct : needs front who u ≡ true

abbrev Linked : History → History → Type 0
Linked [] G = ⊥
Linked (v ∷ H) [] = ⊥
Linked (v ∷ H) (u ∷ K) = (needs H v u ≡ true) ⊎ Last v H u K

linked_on : (F G H : History) → Needs F G → Takes F G → Takes G H → Linked G H → Linked F H
linked_on [] G H n s t l = s
linked_on (v ∷ F) [] H n s t l = absurd s
linked_on (v ∷ F) (x ∷ X) [] n s t l = absurd t
linked_on (v ∷ F) (x ∷ X) (u ∷ K) n s t l =
    inr (⊎_elim (λ h. record { who = x; front = X; between = t.0; split = t.1; reached = n; direct = h })
    (λ r. record { who = r.who; front = r.front; between = r.between; split = r.split; reached = by_way n r.reached; direct = r.direct }) l)

linked : {F G : History} → Needs F G → Linked F G
linked (directly v u b front h) = inl h
linked (by_way {F = F} {G = G} {H = H} n m) = linked_on F G H n (complete n) (complete m) (linked m)

-- ---- what the pass has found

same_tests : (a b : Bool) → (a ≡ true → b ≡ true) → (b ≡ true → a ≡ true) → a ≡ b
same_tests true b f g = sym (f refl)
same_tests false true f g = g refl
same_tests false false f g = refl

any_prepend : {A : Type 0} (p : A → Bool) (b : Bool) (x : A) (xs : List A) → list_any p (prepend_if b x xs) ≡ ((b && p x) || list_any p xs)
any_prepend p true x xs = refl
any_prepend p false x xs = refl

module _ (H : History) (v : Event) where
  -- v, and what it needs of the later part
  abbrev found : History → History → List Placed
  found [] K = record { event = v; front = H } ∷ []
  found (w ∷ later) K = prepend_if (is_removed (step_of (later ++ K) w) H v) (record { event = w; front = later ++ K }) (found later K)

  -- one more event
  found_more : (u : Event) (K later : History) (x : Event) → some_needs (found (later ++ u ∷ []) K) x ≡ ((is_removed (step_of K u) H v && needs K u x) || some_needs (found later (u ∷ K)) x)
  found_more u K [] x = any_prepend (λ p. needs p.front p.event x) (is_removed (step_of K u) H v) (record { event = u; front = K }) (record { event = v; front = H } ∷ [])
  found_more u K (w ∷ later) x =
      let here : History → Bool = λ G. is_removed (step_of G w) H v && needs G w x in
      let mine = is_removed (step_of K u) H v && needs K u x in
      any_prepend (λ p. needs p.front p.event x) (is_removed (step_of ((later ++ u ∷ []) ++ K) w) H v) (record { event = w; front = (later ++ u ∷ []) ++ K }) (found (later ++ u ∷ []) K)
      ∙ ap₂ (λ b c. b || c) (ap here (append_assoc later (u ∷ []) K)) (found_more u K later x)
      ∙ or_swap (here (later ++ u ∷ K)) mine (some_needs (found later (u ∷ K)) x)
      ∙ ap (λ b. mine || b)
      (sym (any_prepend (λ p. needs p.front p.event x) (is_removed (step_of (later ++ u ∷ K) w) H v) (record { event = w; front = later ++ u ∷ K }) (found later (u ∷ K))))

  -- by the least relation, at any index of H
  to_needs : (later : History) (u : Event) (K : History) → H ≡ later ++ u ∷ K → is_removed (step_of K u) H v ≡ true → Needs (v ∷ H) (u ∷ K)
  to_needs later u K e h =
      subst (λ G. Needs (v ∷ G) (u ∷ K)) (sym e) ((removed_needs later v u K).0 (subst (λ G. is_removed (step_of K u) G v ≡ true) e h))

  -- what one of these directly needs, v needs
  found_needed : (front later : History) (u : Event) (K : History) → H ≡ front ++ (later ++ u ∷ K) → some_needs (found later (u ∷ K)) u ≡ true → Needs (v ∷ H) (u ∷ K)
  found_needed front [] u K e h =
      let d : needs H v u ≡ true = ⊎_elim (λ a. a) (λ a. absurd (false≢true a)) (or_cases (needs H v u) false h) in
      subst (λ G. Needs (v ∷ G) (u ∷ K)) (sym e) (directly v u front K (subst (λ G. needs G v u ≡ true) e d))
  found_needed front (w ∷ later) u K e h =
      ⊎_elim
      (λ a.
      let o = and_parts (is_removed (step_of (later ++ u ∷ K) w) H v) (needs (later ++ u ∷ K) w u) a in
      by_way (to_needs front w (later ++ u ∷ K) e o.0) (directly w u later K o.1))
      (λ a. found_needed (front ++ w ∷ []) later u K (e ∙ sym (append_assoc front (w ∷ []) (later ++ u ∷ K))) a)
      (or_cases (is_removed (step_of (later ++ u ∷ K) w) H v && needs (later ++ u ∷ K) w u) (some_needs (found later (u ∷ K)) u)
      (sym (any_prepend (λ p. needs p.front p.event u) (is_removed (step_of (later ++ u ∷ K) w) H v) (record { event = w; front = later ++ u ∷ K }) (found later (u ∷ K))) ∙ h))

  -- v is among them
  found_top : (later K : History) (u : Event) → needs H v u ≡ true → some_needs (found later K) u ≡ true
  found_top [] K u h = or_left (needs H v u) false h
  found_top (w ∷ later) K u h =
      any_prepend (λ p. needs p.front p.event u) (is_removed (step_of (later ++ K) w) H v) (record { event = w; front = later ++ K }) (found later K)
      ∙ or_right (is_removed (step_of (later ++ K) w) H v && needs (later ++ K) w u) _ (found_top later K u h)

  -- and so is what v needs of the later part
  found_at : (a : History) (x : Event) (b : History) (K : History) (u : Event) → is_removed (step_of (b ++ K) x) H v ≡ true → needs (b ++ K) x u ≡ true → some_needs (found (a ++ x ∷ b) K) u ≡ true
  found_at [] x b K u g h =
      any_prepend (λ p. needs p.front p.event u) (is_removed (step_of (b ++ K) x) H v) (record { event = x; front = b ++ K }) (found b K)
      ∙ or_left (is_removed (step_of (b ++ K) x) H v && needs (b ++ K) x u) _ (and_from (is_removed (step_of (b ++ K) x) H v) (needs (b ++ K) x u) g h)
  found_at (y ∷ a) x b K u g h =
      any_prepend (λ p. needs p.front p.event u) (is_removed (step_of ((a ++ x ∷ b) ++ K) y) H v) (record { event = y; front = (a ++ x ∷ b) ++ K }) (found (a ++ x ∷ b) K)
      ∙ or_right (is_removed (step_of ((a ++ x ∷ b) ++ K) y) H v && needs ((a ++ x ∷ b) ++ K) y u) _ (found_at a x b K u g h)

  -- what v needs, one of these directly needs
  needed_found : (later : History) (u : Event) (K : History) → H ≡ later ++ u ∷ K → is_removed (step_of K u) H v ≡ true → some_needs (found later (u ∷ K)) u ≡ true
  needed_found later u K e h = at (linked (to_needs later u K e h))
    where
      at : Linked (v ∷ H) (u ∷ K) → some_needs (found later (u ∷ K)) u ≡ true
      at (inl d) = found_top later (u ∷ K) u d
      at (inr r) =
          let t = complete r.reached in
          let whole : (t.0 ++ r.who ∷ r.between) ++ u ∷ K ≡ later ++ u ∷ K =
          append_assoc t.0 (r.who ∷ r.between) (u ∷ K) ∙ ap (λ G. t.0 ++ r.who ∷ G) r.split ∙ t.1 ∙ e in
          let same = append_cancel_right (t.0 ++ r.who ∷ r.between) later (u ∷ K) whole in
          subst (λ L. some_needs (found L (u ∷ K)) u ≡ true) same
          (found_at t.0 r.who r.between (u ∷ K) u (subst (λ G. is_removed (step_of G r.who) H v ≡ true) (sym r.split) t.2) (subst (λ G. needs G r.who u ≡ true) (sym r.split) r.direct))

  pass_on : (K later : History) (S : List Placed) → H ≡ later ++ K → ((x : Event) → some_needs S x ≡ some_needs (found later K) x) → causes_by_pass S K ≡ causes H v K
  pass_on [] later S e f = refl
  pass_on (u ∷ K) later S e f =
      ap (λ b. cond b (step_of K u ∷ causes_by_pass (record { event = u; front = K } ∷ S) K) (causes_by_pass S K)) told
      ∙ at (is_removed (step_of K u) H v) refl (pass_on K (later ++ u ∷ []) (record { event = u; front = K } ∷ S) next) (pass_on K (later ++ u ∷ []) S next)
    where
      told : some_needs S u ≡ is_removed (step_of K u) H v
      told = f u ∙ same_tests (some_needs (found later (u ∷ K)) u) (is_removed (step_of K u) H v) (λ h. removed_by (found_needed [] later u K e h)) (needed_found later u K e)
        where
          removed_by : Needs (v ∷ H) (u ∷ K) → is_removed (step_of K u) H v ≡ true
          removed_by n = (complete n).2

      next : H ≡ (later ++ u ∷ []) ++ K
      next = e ∙ sym (append_assoc later (u ∷ []) K)

      more : (x : Event) → some_needs (found (later ++ u ∷ []) K) x ≡ ((is_removed (step_of K u) H v && needs K u x) || some_needs (found later (u ∷ K)) x)
      more x = found_more u K later x

      at : (b : Bool) → is_removed (step_of K u) H v ≡ b → (((x : Event) → some_needs (record { event = u; front = K } ∷ S) x ≡ some_needs (found (later ++ u ∷ []) K) x) → causes_by_pass (record { event = u; front = K } ∷ S) K ≡ causes H v K) → (((x : Event) → some_needs S x ≡ some_needs (found (later ++ u ∷ []) K) x) → causes_by_pass S K ≡ causes H v K) → cond b (step_of K u ∷ causes_by_pass (record { event = u; front = K } ∷ S) K) (causes_by_pass S K) ≡ prepend_if b (step_of K u) (causes H v K)
      at true q yes_rest no_rest =
          ap (λ is. step_of K u ∷ is) (yes_rest (λ x. ap (λ c. needs K u x || c) (f x) ∙ sym (more x ∙ ap (λ b. (b && needs K u x) || some_needs (found later (u ∷ K)) x) q)))
      at false q yes_rest no_rest =
          no_rest (λ x. f x ∙ sym (more x ∙ ap (λ b. (b && needs K u x) || some_needs (found later (u ∷ K)) x) q))

pub one_pass : (H : History) (v : Event) → causes_by_pass (record { event = v; front = H } ∷ []) H ≡ causes H v H
one_pass H v = pass_on H v H [] (record { event = v; front = H } ∷ []) refl (λ x. refl)
