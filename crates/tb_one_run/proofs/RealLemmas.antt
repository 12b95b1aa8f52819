-- The first race that isn't apart is real: a run of the program leads to where either of the two can come next.
use Rattle.std.proofs.Common.{◌≡◌, ◌≤◌, suc, [], ◌∷◌, ◌++◌, length, Bool, true, false, ◌||◌, ◌⊎◌, inl, inr, ⊎_elim, refl, sym, ap, ap₂, ◌∙◌, subst, arith, append_assoc, ◌==◌, eqb-true}
use Rattle.std.proofs.lemmas.Bool.{or_cases, or_left, or_right, and_parts, both_ways, false_from_ne_true}
use Rattle.tb_model.specs.declared.event.Event.{Event}
use Rattle.tb_model.specs.Facts.{History, is_of, own, prepend_if}
use Rattle.tb_model.specs.Needs.{needs, is_step, step_of}
use Rattle.tb_model.proofs.TestLemmas.{same_true}
use Rattle.tb_model.proofs.PartsLemmas.{own_same}
use Rattle.tb_model.proofs.RemovalLemmas.{needs_own, needs_up, not_step, its_step}
use Rattle.tb_model.proofs.LeastLemmas.{later_not_step}
use Rattle.tb_model.proofs.UndoLemmas.{AreFree}
use Rattle.tb_model.proofs.RunLemmas.{moved_run}
use Rattle.tb_races.specs.Orders.{WithExclusion, ComesAfter, by_way}
use Rattle.tb_one_run.specs.Outcomes.{HasRace, passing, is_in_front}
use Rattle.tb_one_run.specs.Behaviours.{Behaviour, IsRunOf, IsNextOf}
use Rattle.tb_one_run.proofs.BehaviourLemmas.{run_of}
use Rattle.tb_one_run.proofs.SharedLemmas.{own_longer}
use Rattle.tb_one_run.proofs.TwinLemmas.{one_place}
use Rattle.tb_one_run.proofs.PassingLemmas.{late_passing, passing_parts, passing_split, none_failing, KeepsNeeds, passing_legal}
use Rattle.tb_one_run.proofs.FrontLemmas.{need_ordered, not_itself, front_after, after_front}

module _ (B : Behaviour) (f : Event) (F : History) (e : Event) (E m : History) (at_e : F ≡ m ++ e ∷ E) (unordered : ComesAfter WithExclusion (f ∷ F) (e ∷ E) → ⊥) (l : IsRunOf B F) (free : HasRace WithExclusion F → ⊥) where
  -- what the order with exclusion puts in front of either
  abbrev pub keep : History → Bool
  keep X = is_in_front WithExclusion (f ∷ F) X || is_in_front WithExclusion (e ∷ E) X

  abbrev Comes : History → Type 0
  Comes X = ComesAfter WithExclusion (f ∷ F) X ⊎ ComesAfter WithExclusion (e ∷ E) X

  comes : (b : History) (x : Event) (X : History) → F ≡ b ++ x ∷ X → keep (x ∷ X) ≡ true → Comes (x ∷ X)
  comes b x X q h =
      ⊎_elim (λ a. inl (front_after WithExclusion f [] F b x X q a))
      (λ a. inr (front_after WithExclusion e (m ++ e ∷ []) E b x X (append_assoc m (e ∷ []) E ∙ sym at_e ∙ q) a))
      (or_cases (is_in_front WithExclusion (f ∷ F) (x ∷ X)) (is_in_front WithExclusion (e ∷ E) (x ∷ X)) h)

  kept : (x : Event) (X : History) → Comes (x ∷ X) → keep (x ∷ X) ≡ true
  kept x X (inl c) = or_left (is_in_front WithExclusion (f ∷ F) (x ∷ X)) _ (after_front WithExclusion f F x X c)
  kept x X (inr c) = or_right (is_in_front WithExclusion (f ∷ F) (x ∷ X)) _ (after_front WithExclusion e E x X c)

  further : (F G : History) → Comes F → ComesAfter WithExclusion F G → Comes G
  further F G (inl c) d = inl (by_way c d)
  further F G (inr c) d = inr (by_way c d)

  -- an event of F comes after all that it directly needs
  after_needs : (b : History) (x : Event) (X : History) → F ≡ b ++ x ∷ X → (k : History) (u : Event) (U : History) → X ≡ k ++ u ∷ U → needs X x u ≡ true → ComesAfter WithExclusion (x ∷ X) (u ∷ U)
  after_needs b x X q k u U r h =
      subst (λ G. ComesAfter WithExclusion (x ∷ G) (u ∷ U)) (sym r)
      (need_ordered F free b x k u U (q ∙ ap (λ G. b ++ x ∷ G) r) (subst (λ G. needs G x u ≡ true) r h))

  keeps : KeepsNeeds keep F
  keeps b x X q h k u U r n = kept u U (further (x ∷ X) (u ∷ U) (comes b x X q h) (after_needs b x X q k u U r n))

  -- what is retained is a run
  pub kept_run : IsRunOf B (passing keep F)
  kept_run = passing_legal B keep F keeps l

  -- neither of the two is retained
  not_kept : keep (e ∷ E) ≡ false
  not_kept = false_from_ne_true (keep (e ∷ E)) (λ h.
      ⊎_elim (λ a. unordered (front_after WithExclusion f [] F m e E at_e a)) (λ a. both_ways (is_in_front WithExclusion (e ∷ E) (e ∷ E)) (not_itself WithExclusion e E) a)
      (or_cases (is_in_front WithExclusion (f ∷ F) (e ∷ E)) (is_in_front WithExclusion (e ∷ E) (e ∷ E)) h))

  -- ---- with the earlier of the two

  abbrev is_e : History → Bool
  is_e [] = false
  is_e (x ∷ X) = is_step (step_of E e) X x

  abbrev keep_e : History → Bool
  keep_e X = keep X || is_e X

  -- the one index of the step
  that_place : (b : History) (x : Event) (X : History) → F ≡ b ++ x ∷ X → is_e (x ∷ X) ≡ true → (X ≡ E) × (x ≡ e)
  that_place b x X q h =
      let o = and_parts (is_of e.task x) (suc (length (own e.task E)) == suc (length (own e.task X))) h in
      let t = same_true x.task e.task o.0 in
      let n : suc (length (own e.task E)) ≡ suc (length (own e.task X)) = eqb-true (suc (length (own e.task E))) (suc (length (own e.task X))) o.1 in
      one_place F b m x e X E q at_e t (omega (arith, n, ap (λ u. length (own u X)) t, ap (λ u. length (own u E)) t))

  keeps_e : KeepsNeeds keep_e F
  keeps_e b x X q h k u U r n =
      ⊎_elim (λ a. or_left (keep (u ∷ U)) _ (keeps b x X q a k u U r n))
      (λ a.
      let p = that_place b x X q a in
      or_left (keep (u ∷ U)) _ (kept u U (inr (subst (λ z. ComesAfter WithExclusion (z ∷ E) (u ∷ U)) p.1 (subst (λ G. ComesAfter WithExclusion (x ∷ G) (u ∷ U)) p.0 (after_needs b x X q k u U r n))))))
      (or_cases (keep (x ∷ X)) (is_e (x ∷ X)) h)

  or_no : (a b : Bool) → b ≡ false → (a || b) ≡ a
  or_no true b h = refl
  or_no false b h = h

  -- else the two tests are one
  late_same : (b : History) → late_passing keep_e b (e ∷ E) ≡ late_passing keep b (e ∷ E)
  late_same [] = refl
  late_same (x ∷ b) =
      ap₂ (λ c G. prepend_if c x G) (or_no (keep (x ∷ (b ++ e ∷ E))) (is_e (x ∷ (b ++ e ∷ E))) (later_not_step e E b x)) (late_same b)

  front_same : (b X : History) → E ≡ b ++ X → passing keep_e X ≡ passing keep X
  front_same b [] q = refl
  front_same b (x ∷ X) q =
      let n : length (own e.task (x ∷ X)) ≤ length (own e.task E) = omega (arith, own_longer e.task b (x ∷ X), ap (λ G. length (own e.task G)) q) in
      ap₂ (λ c G. prepend_if c x G) (or_no (keep (x ∷ X)) (is_e (x ∷ X)) (not_step (step_of E e) X x (omega (arith, n)))) (front_same (b ++ x ∷ []) X (q ∙ sym (append_assoc b (x ∷ []) X)))

  abbrev front : History
  front = passing keep E

  abbrev later : History → History
  later b = late_passing keep b (e ∷ E)

  with_e : (b : History) → passing keep_e (b ++ e ∷ E) ≡ later b ++ e ∷ front
  with_e b =
      passing_split keep_e b (e ∷ E)
      ∙ ap₂ (λ G c. G ++ prepend_if c e (passing keep_e E)) (late_same b) (or_right (keep (e ∷ E)) (is_e (e ∷ E)) (its_step E e))
      ∙ ap (λ G. later b ++ e ∷ G) (front_same [] E refl)

  without_e : passing keep F ≡ later m ++ front
  without_e =
      ap (passing keep) at_e ∙ passing_split keep m (e ∷ E) ∙ ap (λ c. later m ++ prepend_if c e front) not_kept

  run_with_e : IsRunOf B (later m ++ e ∷ front)
  run_with_e =
      subst (IsRunOf B) (ap (passing keep_e) at_e ∙ with_e m) (passing_legal B keep_e F keeps_e l)

  -- nothing that is retained needs it
  needs_not : (b0 b : History) (w : Event) → F ≡ b0 ++ (w ∷ (b ++ e ∷ E)) → keep (w ∷ (b ++ e ∷ E)) ≡ true → needs (later b ++ e ∷ front) w e ≡ false
  needs_not b0 b w q h = false_from_ne_true (needs (later b ++ e ∷ front) w e) (λ n.
      let W = b ++ e ∷ E in
      let none = none_failing keep_e (is_of w.task) [] W W refl (λ k u U r o. keeps_e b0 w W q (or_left (keep (w ∷ W)) _ h) k u U r (needs_own W w.task w.action u o)) in
      let parts = passing_parts keep_e W in
      let up : needs W w e ≡ true = needs_up parts w e (own_same w.task parts none) (subst (λ G. needs G w e ≡ true) (sym (with_e b)) n) in
      both_ways (keep (e ∷ E)) not_kept (keeps b0 w W q h b e E refl up))

  all_free : (b0 b : History) → F ≡ b0 ++ (b ++ e ∷ E) → AreFree e front (later b)
  all_free b0 [] q = tt
  all_free b0 (w ∷ b) q = at (keep (w ∷ (b ++ e ∷ E))) refl (all_free (b0 ++ w ∷ []) b (q ∙ sym (append_assoc b0 (w ∷ []) (b ++ e ∷ E))))
    where
      at : (c : Bool) → keep (w ∷ (b ++ e ∷ E)) ≡ c → AreFree e front (later b) → AreFree e front (prepend_if c w (later b))
      at true h rest = (rest, needs_not b0 b w q h)
      at false h rest = rest

  -- so it can come at the end
  pub earlier_next : IsNextOf B (passing keep F) e
  earlier_next =
      let r = run_of B run_with_e (moved_run e front B.cells (later m) run_with_e.0 (all_free [] m at_e)) in
      subst (λ G. IsNextOf B G e) (sym without_e) (record { may = r.0.1; behaves = r.1.1 })
