-- Equivalent legal histories say the same of every task and cell.
use Rattle.std.proofs.Common.{◌≡◌, ◌≤◌, suc, List, [], ◌∷◌, ◌++◌, length, Bool, true, false, ◌&&◌, ◌||◌, ⊎_elim, refl, sym, ap, ap₂, ◌∙◌, subst, ◌==◌, arith, eq-eqb, eqb-true}
use Rattle.std.specs.List.{list_any}
use Rattle.std.proofs.lemmas.Bool.{or_cases, or_left, or_right, or_parts, and_parts, and_from, and_left, both_ways, false≢true, false_from_ne_true}
use Rattle.tb_model.specs.declared.action.Action.{Action}
use Rattle.tb_model.specs.declared.event.Event.{Event}
use Rattle.tb_model.specs.Names.{Name}
use Rattle.tb_model.specs.Facts.{History, is_of, own, prepend_if}
use Rattle.tb_model.specs.Legal.{Cells, Legal}
use Rattle.tb_model.specs.declared.step_id.StepId.{StepId}
use Rattle.tb_model.specs.Needs.{needs, is_step, step_of}
use Rattle.tb_model.specs.Equivalent.{Equivalent, stands, comes_first, needs_step, needs_in}
use Rattle.tb_model.proofs.TestLemmas.{same_true, same_refl}
use Rattle.tb_model.proofs.PartsLemmas as parts
use Rattle.tb_model.proofs.PartsLemmas.{Parts}
use Rattle.tb_model.proofs.RemovalLemmas.{own_grows}
use Rattle.tb_model.proofs.FactsLemmas.{own_mine, own_other}
use Rattle.tb_model.proofs.NeighboursLemmas.{same_sym}
use Rattle.tb_model.proofs.RemovalLemmas.{needs_up}
use Rattle.tb_model.proofs.UndoLemmas.{AreFree, moved}
use Rattle.tb_model.proofs.RunLemmas as runs
use Rattle.tb_model.proofs.RunLemmas.{Run, moved_run}
use Rattle.tb_model.proofs.PartsLemmas.{all_stay}

-- ---- steps that are there

step_bound : (i : StepId) (H : History) (v : Event) → is_step i H v ≡ true → i.k ≤ length (own i.task (v ∷ H))
step_bound i H v h =
    let o = and_parts (is_of i.task v) (i.k == suc (length (own i.task H))) h in
    let k : i.k ≡ suc (length (own i.task H)) = eqb-true i.k _ o.1 in
    omega (arith, ap length (own_mine i.task v H o.0))

stands_bound : (i : StepId) (H : History) → stands i H ≡ true → i.k ≤ length (own i.task H)
stands_bound i [] h = absurd (false≢true h)
stands_bound i (v ∷ H) h =
    ⊎_elim (λ s. step_bound i H v s) (λ s. omega (arith, stands_bound i H s, own_grows i.task v H)) (or_cases (is_step i H v) (stands i H) h)

first_stands : (j i : StepId) (H : History) → comes_first j i H ≡ true → stands j H ≡ true
first_stands j i [] h = absurd (false≢true h)
first_stands j i (v ∷ H) h =
    or_right (is_step j H v) _ (⊎_elim (λ a. (and_parts (is_step i H v) (stands j H) a).1) (λ b. first_stands j i H b) (or_cases (is_step i H v && stands j H) _ h))

second_stands : (j i : StepId) (H : History) → needs_in i j H ≡ true → stands i H ≡ true
second_stands j i [] h = absurd (false≢true h)
second_stands j i (v ∷ H) h =
    ⊎_elim (λ a. or_left (is_step i H v) _ (and_parts (is_step i H v) (needs_step H v j H) a).0) (λ b. or_right (is_step i H v) _ (second_stands j i H b)) (or_cases (is_step i H v && needs_step H v j H) _ h)

-- a step that is in front isn't the one after
not_here : (i : StepId) (H : History) (v : Event) → i.k ≤ length (own i.task H) → is_step i H v ≡ false
not_here i H v h = false_from_ne_true (is_step i H v) (λ s.
    let o = and_parts (is_of i.task v) (i.k == suc (length (own i.task H))) s in
    let k : i.k ≡ suc (length (own i.task H)) = eqb-true i.k _ o.1 in
    omega arith)

-- ---- the newest event of a task

record Newest (t : Name) (a : Action) (acts : List Action) (H : History) : Type 0 where
  later : History
  front : History
  split : H ≡ later ++ record { task = t; action = a } ∷ front
  none : list_any (is_of t) later ≡ false
  rest : own t front ≡ acts

newest_of : (t : Name) (a : Action) (acts : List Action) (H : History) → own t H ≡ a ∷ acts → Newest t a acts H
newest_of t a acts [] e = cc
newest_of t a acts (v ∷ H) e = at (newest_of t a acts H) (is_of t v) refl
  where
    at : (own t H ≡ a ∷ acts → Newest t a acts H) → (b : Bool) → is_of t v ≡ b → Newest t a acts (v ∷ H)
    at rest true o =
        let f = sym (own_mine t v H o) ∙ e in
        let p : v.action ≡ a = cc in
        let q = same_true v.task t o in
        record { later = []; front = H; split = λ i. record { task = q i; action = p i } ∷ H; none = refl; rest = cc }
    at rest false o =
        let n = rest (sym (own_other t v H o) ∙ e) in
        record { later = v ∷ n.later; front = n.front; split = ap (λ K. v ∷ K) n.split; none = ap₂ (λ b c. b || c) o n.none; rest = n.rest }

-- ---- an event of t is left out, after which t has none

module _ (v : Event) where
  own_apart : (t : Name) (b front : History) → is_of t v ≡ false → own t (b ++ v ∷ front) ≡ own t (b ++ front)
  own_apart t [] front o = own_other t v front o
  own_apart t (x ∷ b) front o = ap (prepend_if (is_of t x) x.action) (own_apart t b front o)

  -- what another task's event is doesn't depend on v
  pub step_apart : (i : StepId) (b front : History) (x : Event) → is_of v.task x ≡ false → is_step i (b ++ v ∷ front) x ≡ is_step i (b ++ front) x
  step_apart i b front x o = at (is_of i.task x) (is_of i.task v) refl refl
    where
      at : (p q : Bool) → is_of i.task x ≡ p → is_of i.task v ≡ q → (is_of i.task x && (i.k == suc (length (own i.task (b ++ v ∷ front))))) ≡ (is_of i.task x && (i.k == suc (length (own i.task (b ++ front)))))
      at p false y z = ap (λ acts. is_of i.task x && (i.k == suc (length acts))) (own_apart i.task b front z)
      at true true y z = absurd (both_ways (is_of v.task x) o (subst (λ t. is_of t x ≡ true) (sym (same_true v.task i.task z)) y))
      at false true y z = and_left (is_of i.task x) _ y ∙ sym (and_left (is_of i.task x) _ y)

  stands_apart : (j : StepId) (b front : History) → list_any (is_of v.task) b ≡ false → is_step j front v ≡ false → stands j (b ++ v ∷ front) ≡ stands j (b ++ front)
  stands_apart j [] front n s = ap (λ c. c || stands j front) s
  stands_apart j (x ∷ b) front n s =
      let o = or_parts (is_of v.task x) _ n in
      ap₂ (λ c d. c || d) (step_apart j b front x o.0) (stands_apart j b front o.1 s)

  first_apart : (j i : StepId) (b front : History) → list_any (is_of v.task) b ≡ false → is_step j front v ≡ false → is_step i front v ≡ false → comes_first j i (b ++ v ∷ front) ≡ comes_first j i (b ++ front)
  first_apart j i [] front n s r = ap (λ c. (c && stands j front) || comes_first j i front) r
  first_apart j i (x ∷ b) front n s r =
      let o = or_parts (is_of v.task x) _ n in
      ap₂ (λ c d. c || d) (ap₂ (λ c d. c && d) (step_apart i b front x o.0) (stands_apart j b front o.1 s)) (first_apart j i b front o.1 s r)

  without_one : (b front : History) → Parts (b ++ v ∷ front) (b ++ front) (v ∷ [])
  without_one [] front = parts.goes (all_stay front)
  without_one (x ∷ b) front = parts.stays (without_one b front)

  -- v is put in
  step_in : (H K : History) (x : Event) (j : StepId) → ((u : Event) → needs K x u ≡ true → needs H x u ≡ true) → (b front : History) → list_any (is_of v.task) b ≡ false → needs_step K x j (b ++ front) ≡ true → needs_step H x j (b ++ v ∷ front) ≡ true
  step_in H K x j f [] front n h = or_right (is_step j front v && needs H x v) _ (same front h)
    where
      same : (L : History) → needs_step K x j L ≡ true → needs_step H x j L ≡ true
      same [] h = h
      same (u ∷ L) h =
          ⊎_elim (λ a. let o = and_parts (is_step j L u) (needs K x u) a in or_left (is_step j L u && needs H x u) _ (and_from (is_step j L u) (needs H x u) o.0 (f u o.1)))
          (λ a. or_right (is_step j L u && needs H x u) _ (same L a)) (or_cases (is_step j L u && needs K x u) _ h)
  step_in H K x j f (y ∷ b) front n h =
      let o = or_parts (is_of v.task y) _ n in
      ⊎_elim
      (λ a.
      let q = and_parts (is_step j (b ++ front) y) (needs K x y) a in
      or_left (is_step j (b ++ v ∷ front) y && needs H x y) _ (and_from (is_step j (b ++ v ∷ front) y) (needs H x y) (step_apart j b front y o.0 ∙ q.0) (f y q.1)))
      (λ a. or_right (is_step j (b ++ v ∷ front) y && needs H x y) _ (step_in H K x j f b front o.1 a))
      (or_cases (is_step j (b ++ front) y && needs K x y) _ h)

  needs_with : (i j : StepId) (b front : History) → list_any (is_of v.task) b ≡ false → needs_in i j (b ++ front) ≡ true → needs_in i j (b ++ v ∷ front) ≡ true
  needs_with i j [] front n h = or_right (is_step i front v && needs_step front v j front) _ h
  needs_with i j (x ∷ b) front n h =
      let o = or_parts (is_of v.task x) _ n in
      let H = b ++ v ∷ front in
      let K = b ++ front in
      let up : (u : Event) → needs K x u ≡ true → needs H x u ≡ true = λ u q. needs_up (without_one b front) x u (sym (own_apart x.task b front (same_sym x.task v.task o.0))) q in
      ⊎_elim
      (λ a.
      let q = and_parts (is_step i K x) (needs_step K x j K) a in
      or_left (is_step i H x && needs_step H x j H) _ (and_from (is_step i H x) (needs_step H x j H) (step_apart i b front x o.0 ∙ q.0) (step_in H K x j up b front o.1 q.1)))
      (λ a. or_right (is_step i H x && needs_step H x j H) _ (needs_with i j b front o.1 a))
      (or_cases (is_step i K x && needs_step K x j K) _ h)

  -- the step v itself
  here : (front : History) → is_step (step_of front v) front v ≡ true
  here front = and_from (is_of v.task v) _ (same_refl v.task) (eq-eqb (suc (length (own v.task front))) _ refl)

  needed : (H : History) (x : Event) (b front : History) → needs H x v ≡ true → needs_step H x (step_of front v) (b ++ v ∷ front) ≡ true
  needed H x [] front h = or_left (is_step (step_of front v) front v && needs H x v) _ (and_from (is_step (step_of front v) front v) (needs H x v) (here front) h)
  needed H x (y ∷ b) front h = or_right (is_step (step_of front v) (b ++ v ∷ front) y && needs H x y) _ (needed H x b front h)

  -- where nothing after it comes with a need, all after it is free
  free_of : (b front : History) → ((i : StepId) → needs_in i (step_of front v) (b ++ v ∷ front) ≡ true → ⊥) → AreFree v front b
  free_of [] front h = tt
  free_of (x ∷ b) front h =
      let H = b ++ v ∷ front in (
        free_of b front (λ i q. h i (or_right (is_step i H x && needs_step H x (step_of front v) H) _ q)),
        false_from_ne_true (needs H x v) (λ q.
            h (step_of H x)
            (or_left (is_step (step_of H x) H x && needs_step H x (step_of front v) H) _
            (and_from (is_step (step_of H x) H x) (needs_step H x (step_of front v) H) (and_from (is_of x.task x) _ (same_refl x.task) (eq-eqb (suc (length (own x.task H))) _ refl)) (needed H x b front q)))),
      )

-- what is needed is there
pub needed_stands : (H : History) (x : Event) (j : StepId) (K : History) → needs_step H x j K ≡ true → stands j K ≡ true
needed_stands H x j [] h = absurd (false≢true h)
needed_stands H x j (u ∷ K) h =
    ⊎_elim (λ a. or_left (is_step j K u) _ (and_parts (is_step j K u) (needs H x u) a).0) (λ a. or_right (is_step j K u) _ (needed_stands H x j K a)) (or_cases (is_step j K u && needs H x u) _ h)

earlier_stands : (i j : StepId) (H : History) → needs_in i j H ≡ true → stands j H ≡ true
earlier_stands i j [] h = absurd (false≢true h)
earlier_stands i j (v ∷ H) h =
    or_right (is_step j H v) _ (⊎_elim (λ a. needed_stands H v j H (and_parts (is_step i H v) (needs_step H v j H) a).1) (λ a. earlier_stands i j H a) (or_cases (is_step i H v && needs_step H v j H) _ h))

put_same : {A : Type 0} (c : Bool) (x : A) (xs ys : List A) → prepend_if c x xs ≡ prepend_if c x ys → xs ≡ ys
put_same true x xs ys e = cc
put_same false x xs ys e = e

-- a step that is in G isn't the newest of v's task
not_newest : (v : Event) (G front : History) → own v.task front ≡ own v.task G → (i : StepId) → stands i G ≡ true → is_step i front v ≡ false
not_newest v G front e i h = at (is_of i.task v) refl
  where
    at : (c : Bool) → is_of i.task v ≡ c → is_step i front v ≡ false
    at false o = and_left (is_of i.task v) _ o
    at true o =
        let t = same_true v.task i.task o in
        let f : own i.task front ≡ own i.task G = subst (λ u. own u front ≡ own u G) t e in
        not_here i front v (omega (arith, stands_bound i G h, ap length f))

-- one event is taken off both
record Peeled (cells : Cells) (v : Event) (G H : History) : Type 0 where
  rest : History
  legal : Legal cells rest
  same : Equivalent G rest
  run : Run H (v ∷ rest)

peeled_at : (cells : Cells) (v : Event) (G b front : History) → own v.task front ≡ own v.task G → list_any (is_of v.task) b ≡ false → Legal cells (b ++ v ∷ front) → Equivalent (v ∷ G) (b ++ v ∷ front) → Peeled cells v G (b ++ v ∷ front)
peeled_at cells v G b front e n l q =
    let K = b ++ v ∷ front in
    let j0 = step_of front v in
    let gone : stands j0 G ≡ true → ⊥ = λ s. omega (arith, stands_bound j0 G s, ap length e) in
    let free = free_of v b front (λ i h. ⊎_elim (λ a. gone (and_parts (is_step i G v) (stands j0 G) a).1) (λ a. gone (first_stands j0 i G a)) (or_cases (is_step i G v && stands j0 G) _ (q.back i j0 h))) in
    let m = moved v front cells b l free in
    let acts : (t : Name) → own t G ≡ own t (b ++ front) = λ t. put_same (is_of t v) v.action (own t G) (own t (b ++ front)) (q.acts t ∙ m.1.acts t) in
    record {
      rest = b ++ front;
      legal = m.0.0;
      same = record {
        acts = acts;
        there =
            λ i j h.
            sym (first_apart v j i b front n (not_newest v G front e j (earlier_stands i j G h)) (not_newest v G front e i (second_stands j i G h)))
            ∙ q.there i j (or_right (is_step i G v && needs_step G v j G) _ h);
        back =
            λ i j h.
            let later = q.back i j (needs_with v i j b front n h) in
            let bound : i.k ≤ length (own i.task G) = omega (arith, stands_bound i (b ++ front) (second_stands j i (b ++ front) h), ap length (acts i.task)) in
            ⊎_elim (λ a. absurd (both_ways (is_step i G v) (not_here i G v bound) (and_parts (is_step i G v) (stands j G) a).0)) (λ a. a) (or_cases (is_step i G v && stands j G) _ later);
      };
      run = moved_run v front cells b l free;
    }

peeled : (cells : Cells) (v : Event) (G H : History) → Legal cells H → Equivalent (v ∷ G) H → Peeled cells v G H
peeled cells v G H l q =
    let n = newest_of v.task v.action (own v.task G) H (sym (q.acts v.task) ∙ own_mine v.task v G (same_refl v.task)) in
    subst (Peeled cells v G) (sym n.split)
    (peeled_at cells v G n.later n.front n.rest n.none (subst (Legal cells) n.split l) (subst (Equivalent (v ∷ G)) n.split q))

-- the second leads to the first
pub equivalent_run : (cells : Cells) (G H : History) → Legal cells H → Equivalent G H → Run H G
equivalent_run cells [] [] l q = runs.same []
equivalent_run cells [] (v ∷ H) l q = absurd (cc (q.acts v.task ∙ own_mine v.task v H (same_refl v.task)))
equivalent_run cells (v ∷ G) H l q =
    let p = peeled cells v G H l q in
    runs.by_way p.run (runs.more v (equivalent_run cells G p.rest p.legal p.same))
