-- One step of the walk.
use Rattle.std.proofs.Common.{◌≡◌, ℕ, suc, ℤ, List, [], ◌∷◌, ◌++◌, length, Bool, true, false, ◌&&◌, ◌||◌, not, refl, sym, ap, ap₂, ◌∙◌, subst, arith, append_assoc}
use Rattle.std.specs.List.{list_any, AllByRecursion}
use Rattle.std.proofs.lemmas.Bool.{or_left, or_parts, both_ways, false_from_ne_true, le-ltb, lt-ltb}
use Rattle.tb_model.specs.declared.action.Action.{Action}
use Rattle.tb_model.specs.declared.action.Action.TheVariants.{Load}
use Rattle.tb_model.specs.declared.event.Event.{Event}
use Rattle.tb_model.specs.Facts.{History, is_of, is_print, own, prepend_if, spawns, last}
use Rattle.tb_model.specs.State.{called_by, spawn_of}
use Rattle.tb_model.specs.Legal.{first_number, IsTimely, Legal}
use Rattle.tb_model.specs.Needs.{conflicts}
use Rattle.tb_model.specs.Alike.{Alike}
use Rattle.tb_model.proofs.FactsLemmas.{own_mine, not_again, spawned_by}
use Rattle.tb_model.proofs.NeighboursLemmas.{legal_below, same_sym}
use Rattle.tb_model.proofs.PartsLemmas.{stores_to, last_same}
use Rattle.tb_model.proofs.SettledLemmas.{spawned_later}
use Rattle.tb_model.proofs.AlikeLemmas.{alike_trans, alike_cons}
use Rattle.tb_races.specs.Orders.{Synchronised}
use Rattle.tb_one_run.specs.Outcomes.{HasRace}
use Rattle.tb_one_run.specs.Behaviours.{Behaviour, given, IsRunOf, IsNextOf}
use Rattle.tb_one_run.proofs.BehaviourLemmas.{one_given}
use Rattle.tb_one_run.proofs.LinkLemmas.{clash, tame}
use Rattle.tb_one_run.proofs.SharedLemmas.{has, part, gone, late, part_split, part_gone, has_mine, own_longer, Changes, to_end, has_same, has_now, part_same, late_same}
use Rattle.tb_one_run.proofs.NumberLemmas.{conflict_load, last_skip}
use Rattle.tb_one_run.proofs.WalkLemmas.{Walked, lx, same_task, w_given, closed_more}

longer_by_one : {A : Type 0} (L : List A) (w : A) (F : List A) → length (L ++ w ∷ F) ≡ suc (length (L ++ F))
longer_by_one [] w F = refl
longer_by_one (x ∷ L) w F = ap suc (longer_by_one L w F)

module _ (B : Behaviour) (H K : History) (lh : IsRunOf B H) (lk : IsRunOf B K) (free : HasRace Synchronised H → ⊥) (s : Walked H K) (v : Event) (nk : IsNextOf B K v) where
  module _ (b : History) (w : Event) (X : History) (split : H ≡ b ++ w ∷ X) (mine : is_of v.task w ≡ true) (number : length (own v.task X) ≡ length (own v.task K)) where
    abbrev same : w.task ≡ v.task
    same = same_task B H K lh lk s v nk b w X split mine number

    -- the event itself isn't in K yet
    not_yet : has K (w ∷ X) ≡ false
    not_yet = has_mine K v.task w X mine ∙ le-ltb (length (own v.task X)) (length (own v.task K)) (omega (arith, number))

    now : has (v ∷ K) (w ∷ X) ≡ true
    now = has_now K v w X mine (omega (arith, number))

    abbrev legal_from : (b0 c : History) → H ≡ b0 ++ (c ++ w ∷ X) → Legal B.cells (c ++ w ∷ X)
    legal_from b0 c e = legal_below B.cells b0 (c ++ w ∷ X) (subst (Legal B.cells) e lh.0)

    -- what is in K after it may change places with it
    changes : (b0 c : History) (x : Event) → H ≡ b0 ++ (x ∷ (c ++ w ∷ X)) → has K (x ∷ (c ++ w ∷ X)) ≡ true → Changes w x
    changes b0 c x e h = record {
      other = other;
      cell = (or_parts (conflicts x.action w.action) (is_print x.action && is_print w.action) apart).0;
      print = (or_parts (conflicts x.action w.action) (is_print x.action && is_print w.action) apart).1;
      spawn =
          λ u p q.
          let l = legal_from b0 (x ∷ c) e in
          both_ways (spawns u x) (not_again B.cells (c ++ w ∷ X) l.0 x l.1 u (spawned_later u c (w ∷ X) (spawned_by u (w ∷ X) (or_left (spawns u w) _ p)))) q;
    }
      where
        other : is_of w.task x ≡ false
        other = false_from_ne_true (is_of w.task x) (λ o.
            let o' : is_of v.task x ≡ true = subst (λ z. is_of z x ≡ true) same o in
            let far = own_longer v.task c (w ∷ X) in
            both_ways (has K (x ∷ (c ++ w ∷ X))) (has_mine K v.task x (c ++ w ∷ X) o' ∙ le-ltb (length (own v.task (c ++ w ∷ X))) (length (own v.task K)) (omega (arith, number, far, ap length (own_mine v.task w X mine)))) h)

        apart : clash x.action w.action ≡ false
        apart = false_from_ne_true (clash x.action w.action) (λ q.
            both_ways (has K (w ∷ X)) not_yet (tame (has K) H s.closed free b0 x c w X e h (same_sym x.task w.task other) q))

    all_change : (b0 c : History) → H ≡ b0 ++ (c ++ w ∷ X) → AllByRecursion (Changes w) (late K c (w ∷ X))
    all_change b0 [] e = tt
    all_change b0 (x ∷ c) e = at (has K (x ∷ (c ++ w ∷ X))) refl (all_change (b0 ++ x ∷ []) c (e ∙ sym (append_assoc b0 (x ∷ []) (c ++ w ∷ X))))
      where
        at : (d : Bool) → has K (x ∷ (c ++ w ∷ X)) ≡ d → AllByRecursion (Changes w) (late K c (w ∷ X)) → AllByRecursion (Changes w) (prepend_if d x (late K c (w ∷ X)))
        at true h rest = (changes b0 c x e h, rest)
        at false h rest = rest

    -- ---- the value that is read

    module _ (r c : ℕ) (y : ℤ) (is_load : w.action ≡ Load r c y) where
      -- of two conflicting actions the one is the event's
      like : (a : Action) → conflicts w.action a ≡ conflicts (Load r c y) a
      like a = ap (λ z. conflicts z a) is_load

      like_after : (a : Action) → conflicts a w.action ≡ conflicts a (Load r c y)
      like_after a = ap (conflicts a) is_load

      none_after : (L : History) → AllByRecursion (Changes w) L → list_any (stores_to c) L ≡ false
      none_after [] h = refl
      none_after (x ∷ L) h = ap₂ (λ p q. p || q) (conflict_load x.action r c y (sym (like_after x.action) ∙ h.0.cell)) (none_after L h.1)

      -- who stores to the cell in front of the event is in K
      stands : (m : History) (u : Event) (F : History) → X ≡ m ++ u ∷ F → stores_to c u ≡ true → has K (u ∷ F) ≡ true
      stands m u F e q = at (is_of v.task u) refl
        where
          at : (d : Bool) → is_of v.task u ≡ d → has K (u ∷ F) ≡ true
          at true o =
              has_mine K v.task u F o ∙ lt-ltb (length (own v.task F)) (length (own v.task K))
              (omega (arith, number, ap (λ G. length (own v.task G)) e, own_longer v.task m (u ∷ F), ap length (own_mine v.task u F o)))
          at false o =
              let k : has (v ∷ K) (u ∷ F) ≡ true =
              tame (has (v ∷ K)) H (closed_more B H K lh lk s v nk) free b w m u F (split ∙ ap (λ G. b ++ w ∷ G) e) (ap (λ G. has (v ∷ K) (w ∷ G)) (sym e) ∙ now) (subst (λ z. is_of z u ≡ false) (sym same) o)
              (or_left (conflicts w.action u.action) _ (like u.action ∙ q))
              in sym (has_same K v u F (λ p z. both_ways (is_of v.task u) o p)) ∙ k

      none_gone : (m F : History) → X ≡ m ++ F → list_any (stores_to c) (gone K F) ≡ false
      none_gone m [] e = refl
      none_gone m (u ∷ F) e = at (has K (u ∷ F)) refl (none_gone (m ++ u ∷ []) F (e ∙ sym (append_assoc m (u ∷ []) F)))
        where
          at : (d : Bool) → has K (u ∷ F) ≡ d → list_any (stores_to c) (gone K F) ≡ false → list_any (stores_to c) (prepend_if (not d) u (gone K F)) ≡ false
          at true h rest = rest
          at false h rest = ap₂ (λ p q. p || q) (false_from_ne_true (stores_to c u) (λ q. both_ways (has K (u ∷ F)) h (stands m u F e q))) rest

      number_here : (first : ℤ) → last first c K ≡ last first c X
      number_here first =
          let h = all_change [] b split in
          sym (s.alike.number first c)
          ∙ ap (λ G. last first c (part K G)) split
          ∙ ap (last first c) (part_split K b (w ∷ X))
          ∙ last_skip first c (late K b (w ∷ X)) (part K (w ∷ X)) (none_after (late K b (w ∷ X)) h)
          ∙ ap (λ d. last first c (prepend_if d w (part K X))) not_yet
          ∙ last_same first c (part_gone K X) (none_gone [] X refl)

    -- so the two are one event
    same_event : w ≡ v
    same_event = λ i. record { task = same i; action = action i }
      where
        l : IsRunOf B (w ∷ X)
        l = lx B H K lh lk s v nk b w X split mine number

        one_number : (r c : ℕ) (x y : ℤ) → w.action ≡ Load r c x → v.action ≡ Load r c y → x ≡ y
        one_number r c x y p q =
            let there : x ≡ last (first_number B.cells c) c X = subst (IsTimely B.cells X w.task) p l.0.1.timely in
            let here : y ≡ last (first_number B.cells c) c K = subst (IsTimely B.cells K v.task) q nk.may.timely in
            there ∙ sym (number_here r c x p (first_number B.cells c)) ∙ sym here

        action : w.action ≡ v.action
        action =
            one_given (given B K v.task) (B.reads (called_by B.root_line (spawn_of v.task K)) v.task (own v.task K)) w.action v.action (w_given B H K lh lk s v nk b w X split mine number) nk.behaves one_number

    -- ---- the longer part

    before_it : part K H ≡ late K b (w ∷ X) ++ part K X
    before_it =
        ap (part K) split ∙ part_split K b (w ∷ X) ∙ ap (λ d. late K b (w ∷ X) ++ prepend_if d w (part K X)) not_yet

    with_it : part (v ∷ K) H ≡ late K b (w ∷ X) ++ w ∷ part K X
    with_it =
        ap (part (v ∷ K)) split ∙ part_split (v ∷ K) b (w ∷ X)
        ∙ ap₂ (λ G F. G ++ F) (late_same K v b (w ∷ X) (omega (arith, number, ap length (own_mine v.task w X mine))))
        (ap (λ d. prepend_if d w (part (v ∷ K) X)) now ∙ ap (λ G. w ∷ G) (part_same K v X (omega (arith, number))))

    -- so the walk goes on
    pub walked_at : Walked H (v ∷ K)
    walked_at = record {
      closed = closed_more B H K lh lk s v nk;
      alike =
          subst (λ G. Alike G (v ∷ K)) (sym with_it)
          (alike_trans (to_end w (late K b (w ∷ X)) (part K X) (all_change [] b split))
          (subst (λ z. Alike (z ∷ (late K b (w ∷ X) ++ part K X)) (v ∷ K)) (sym same_event)
          (alike_cons v (subst (λ G. Alike G K) before_it s.alike))));
      size = ap length with_it ∙ longer_by_one (late K b (w ∷ X)) w (part K X) ∙ ap suc (sym (ap length before_it) ∙ s.size);
    }
