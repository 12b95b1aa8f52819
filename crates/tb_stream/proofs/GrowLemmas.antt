-- What is stored stays right, one row or one step more.
use Rattle.std.proofs.Common.{◌≡◌, ◌≢◌, ◌<◌, ◌≤◌, ◌+◌, ℕ, zero, suc, List, [], ◌∷◌, ◌++◌, Bool, true, false, ◌||◌, cond, length, refl, sym, ap, ap₂, ◌∙◌, subst, arith, Option, Some, None, slice_get, slice_set, ⊎_elim, eq-eqb, ne_eqb, nat_lt, ltb-true, lt-ltb, Vec, Global}
use Rattle.std.specs.Prelude.{slice_index_or}
use Rattle.std.specs.List.{list_any}
use Rattle.std.proofs.lemmas.Bool.{both_ways, cases_eq, cases_lt, false_from_ne_true}
use Rattle.std.proofs.lemmas.List.{length-append}
use Rattle.tb_model.specs.declared.action.Action.{Action}
use Rattle.tb_model.specs.declared.action.Action.TheVariants.{Spawn}
use Rattle.tb_model.specs.declared.event.Event.{Event}
use Rattle.tb_model.specs.declared.spawn.Spawn.{Spawn as TheSpawn}
use Rattle.tb_model.specs.Facts.{IsSpawned, is_of, spawns}
use Rattle.tb_model.specs.Names.{Name}
use Rattle.tb_model.proofs.FactsLemmas.{not_again}
use Rattle.tb_model.proofs.TestLemmas.{same_refl, same_true}
use Rattle.tb_clocks.specs.Known.{HasId, generated, names_in}
use Rattle.tb_clocks.proofs.TaskLemmas.{among, generates_it, id_spawned, one_id, only_one, within as index_within}
use Rattle.tb_lanes.specs.declared.lane_bound.LaneBound.{LaneBound}
use Rattle.tb_lanes.specs.Bounds.{IsRising, bound_in}
use Rattle.tb_lanes.specs.Clocks.{AreLanes, Lanes, row_in}
use Rattle.tb_lanes.proofs.GroupLemmas.{spawned_on}
use Rattle.tb_lanes.proofs.OwnLemmas.{ev, legal_here}
use Rattle.tb_lanes.proofs.TableLemmas.{lanes_more}
use Rattle.tb_stream.specs.declared.clocks.Clocks.{Clocks}
use Rattle.tb_stream.specs.declared.end.End.{End}
use Rattle.tb_stream.specs.declared.mark.Mark.{Mark}
use Rattle.tb_lanes.specs.Rows.{Key}
use Rattle.tb_stream.specs.Ends.{AreRows, AreStored, IsRowOf, Named, row_of as row_named}
use Rattle.tb_stream.specs.Placing.{IsPlaced, lasts_with, newest_with, row_of, with_step}
use Rattle.tb_stream.specs.Seen.{AreClocks, AreOfTasks, IsAdded, IsFull, IsMaker, IsNewest, IsOf, Run, front, order, passes_at}
use Rattle.tb_stream.proofs.ListLemmas.{get_front, set_elsewhere, set_here, set_length, the_same}
use Rattle.tb_stream.proofs.SeenLemmas.{acted, id_at, legal_in_front, named, next_is, passes_is}

-- ---- marks

module _ (r : Run) (n : ℕ) (lanes next : Lanes) (lane_kept : (p : ℕ) → p < n → next.lane p ≡ lanes.lane p)
    (bound_stays : (p : ℕ) → p < n → next.bound p ≡ lanes.bound p)
    (rows more : List (Vec LaneBound Global)) (row_kept : (i : ℕ) → i ≤ length rows → row_in more i ≡ row_in rows i) (longer : length rows ≤ length more) (m : ℕ) (low : n ≤ m) where
  pub full_on : (k : Mark) → IsFull r n lanes rows k → IsFull r m next more k
  full_on k f = record {
    mark = record { at = omega (arith, f.mark.at, low); lane = f.mark.lane ∙ sym (lane_kept k.at f.mark.at) };
    within = omega (arith, f.within, longer);
    rising = subst IsRising (sym (row_kept k.row f.within)) f.rising;
    bounds = ap bound_in (row_kept k.row f.within) ∙ f.bounds ∙ sym (bound_stays k.at f.mark.at);
    task = f.task;
  }

  pub stored_on : (P : ℕ → Type 0) (ends : Vec End Global) → AreStored r n lanes rows P ends → AreStored r m next more P ends
  stored_on P ends a = record { are = a.are; full = λ i e g. full_on e.mark (a.full i e g) }

  row_so : (P : ℕ → Type 0) (o : Option (Vec End Global)) → IsRowOf r n lanes rows P o → IsRowOf r m next more P o
  row_so P None a = a
  row_so P (Some ends) a = stored_on P ends a

  pub rows_on : (P : Key → ℕ → Type 0) (named : Named) → AreRows r n lanes rows P named → AreRows r m next more P named
  rows_on P named are k = row_so (P k) (row_named named k) (are k)

-- ---- one row more

module _ (r : Run) (n : ℕ) (lanes : Lanes) (old new : Clocks)
    (row_kept : (i : ℕ) → i ≤ length old.rows.items → row_in new.rows.items i ≡ row_in old.rows.items i)
    (longer : length old.rows.items ≤ length new.rows.items)
    (newest : new.newest ≡ old.newest) (origins : new.origins ≡ old.origins) (lasts : new.lasts ≡ old.lasts) (are : AreClocks r n lanes old) where
  on : (k : Mark) → IsFull r n lanes old.rows.items k → IsFull r n lanes new.rows.items k
  on = full_on r n lanes lanes (λ p l. refl) (λ p l. refl) old.rows.items new.rows.items row_kept longer n (omega arith)

  newest_so : (t : Name) (m : Option Mark) → IsNewest r n lanes old.rows.items t m → IsNewest r n lanes new.rows.items t m
  newest_so t None a = a
  newest_so t (Some m) a = (on m a.0, a.1, a.2)

  maker_so : (t : Name) (m : Option Mark) → IsMaker r n lanes old.rows.items t m → IsMaker r n lanes new.rows.items t m
  maker_so t None a = a
  maker_so t (Some m) a = (on m a.0, a.1)

  pub clocks_on : AreClocks r n lanes new
  clocks_on = record {
    within = are.within;
    are = are.are;
    newest = record {
      listed = ap (λ (v : Vec (Option Mark) Global). length v.items) newest ∙ are.newest.listed;
      each = λ i t m h g. newest_so t m (are.newest.each i t m h (ap (λ (v : Vec (Option Mark) Global). slice_get v.items i) (sym newest) ∙ g));
    };
    origins = record {
      listed = ap (λ (v : Vec (Option Mark) Global). length v.items) origins ∙ are.origins.listed;
      each = λ i t m h g. maker_so t m (are.origins.each i t m h (ap (λ (v : Vec (Option Mark) Global). slice_get v.items i) (sym origins) ∙ g));
    };
    lasts_listed = ap (λ (v : Vec ℕ Global). length v.items) lasts ∙ are.lasts_listed;
    lasts = λ k l. ap (λ (v : Vec ℕ Global). slice_index_or v.items k 0) lasts ∙ are.lasts k l;
  }

-- ---- one step more

module _ (r : Run) (n : ℕ) (w : n < length r.entries) (lanes : Lanes) (old : Clocks) (are : AreClocks r n lanes old) (m : Mark)
    (placed : IsPlaced r n lanes old.rows.items m) where
  abbrev rows : List (Vec LaneBound Global)
  rows = old.rows.items

  abbrev next : Lanes
  next = with_step lanes n rows m

  abbrev v : Event
  v = ev r.entries n w

  pub lane_here : next.lane n ≡ m.lane
  lane_here = ap (λ b. cond b m.lane (lanes.lane n)) (eq-eqb n n refl)

  pub lane_kept : (p : ℕ) → p < n → next.lane p ≡ lanes.lane p
  lane_kept p l = ap (λ b. cond b m.lane (lanes.lane p)) (ne_eqb p n (λ e. omega (arith, e, l)))

  pub bound_here : next.bound n ≡ row_of rows m
  bound_here = ap (λ b. cond b (row_of rows m) (lanes.bound n)) (eq-eqb n n refl)

  pub bound_stays : (p : ℕ) → p < n → next.bound p ≡ lanes.bound p
  bound_stays p l = ap (λ b. cond b (row_of rows m) (lanes.bound p)) (ne_eqb p n (λ e. omega (arith, e, l)))

  last_here : next.last m.lane ≡ n
  last_here = ap (λ b. cond b n (lanes.last m.lane)) (eq-eqb m.lane m.lane refl)

  last_stays : (j : ℕ) → j ≢ m.lane → next.last j ≡ lanes.last j
  last_stays j d = ap (λ b. cond b n (lanes.last j)) (ne_eqb j m.lane d)

  count_by : (b : Bool) → nat_lt m.lane lanes.count ≡ b → (m.lane < next.count) × (lanes.count ≤ next.count)
  count_by true e = let c : next.count ≡ lanes.count = ap (λ b. cond b lanes.count (suc m.lane)) e in (omega (arith, c, ltb-true m.lane lanes.count e), omega (arith, c))
  count_by false e = let c : next.count ≡ suc m.lane = ap (λ b. cond b lanes.count (suc m.lane)) e in (omega (arith, c), ⊎_elim (λ l. absurd (both_ways (nat_lt m.lane lanes.count) e (lt-ltb m.lane lanes.count l))) (λ h. omega (arith, c, h)) (cases_lt m.lane lanes.count))

  count_more : (m.lane < next.count) × (lanes.count ≤ next.count)
  count_more = count_by (nat_lt m.lane lanes.count) refl

  pub are_more : AreLanes (order r) r.entries r.tasks (n + 1) next
  are_more =
      lanes_more (order r) r.entries r.tasks n lanes next (row_of rows m) m.lane lane_here lane_kept bound_here bound_stays placed.clock placed.low placed.lane are.are
      count_more.0 count_more.1 last_here (λ j d l. last_stays j d)

  on_next : (k : Mark) → IsFull r n lanes rows k → IsFull r (n + 1) next rows k
  on_next = full_on r n lanes next lane_kept bound_stays rows rows (λ i l. refl) (omega arith) (n + 1) (omega arith)

  pub here : IsFull r (n + 1) next rows m
  here = record {
    mark = record { at = omega (arith, placed.next.at); lane = sym (ap next.lane placed.next.at ∙ lane_here) };
    within = placed.within;
    rising = placed.rising;
    bounds = sym (ap next.bound placed.next.at ∙ bound_here);
    task = subst (λ p. IsOf r p m.task) (sym placed.next.at) placed.next.task;
  }

  -- ---- who was generated

  names_more : names_in (front r (n + 1)) ≡ names_in (front r n) ++ generated v.action
  names_more = let e : n + 1 ≡ suc n = omega arith in ap names_in (ap (front r) e ∙ next_is r n w)

  no_spawn : (t : Name) → IsSpawned (front r n) t → spawns t v ≡ false
  no_spawn t s = let l = legal_here r.entries r.legal n w in not_again r.legal.cells (front r n) l.0 v l.1 t s

  at_n : (f : Event → Bool) → passes_at f r n ≡ f v
  at_n f = passes_is r f n w

  -- of a task in front
  module _ (i : ℕ) (t : Name) (h : HasId (front r n) i t) where
    spawned : IsSpawned (front r n) t
    spawned = id_spawned (front r n) i t h

    -- the task of the step
    is_mine : i ≡ m.task → is_of t v ≡ true
    is_mine e =
        let same : t ≡ v.task = the_same t v.task (sym h ∙ ap (slice_get (names_in (front r n))) e ∙ id_at r n n m.task (omega arith) are.within placed.next.task w) in
        subst (λ s. is_of s v ≡ true) (sym same) (same_refl v.task)

    not_mine : i ≢ m.task → is_of t v ≡ false
    not_mine d =
        false_from_ne_true (is_of t v) (λ e.
        let same : v.task ≡ t = same_true v.task t e in
        d (one_id r.legal.cells (front r n) i m.task t (legal_in_front r n are.within) h (subst (HasId (front r n) m.task) same (id_at r n n m.task (omega arith) are.within placed.next.task w))))

    newest_other : i ≢ m.task → (k : Option Mark) → IsNewest r n lanes rows t k → IsNewest r (n + 1) next rows t k
    newest_other d None a = λ x l. ⊎_elim (λ e. subst (λ y. passes_at (is_of t) r y ≡ false) (sym e) (at_n (is_of t) ∙ not_mine d)) (λ f. a x (omega (arith, l, f))) (cases_eq x n)
    newest_other d (Some k) a =
        (on_next k a.0, a.1, λ x l g. ⊎_elim (λ e. absurd (both_ways (passes_at (is_of t) r n) (at_n (is_of t) ∙ not_mine d) (subst (λ y. passes_at (is_of t) r y ≡ true) e g))) (λ f. a.2 x (omega (arith, l, f)) g) (cases_eq x n))

    newest_mine : i ≡ m.task → IsNewest r (n + 1) next rows t (Some m)
    newest_mine e = (here, subst (λ p. passes_at (is_of t) r p ≡ true) (sym placed.next.at) (at_n (is_of t) ∙ is_mine e), λ x l g. omega (arith, l, placed.next.at))

    maker_more : (k : Option Mark) → IsMaker r n lanes rows t k → IsMaker r (n + 1) next rows t k
    maker_more None a =
        let e : n + 1 ≡ suc n = omega arith in
        ap (list_any (spawns t)) (ap (front r) e ∙ next_is r n w) ∙ ap₂ (λ b c. b || c) (no_spawn t spawned) a
    maker_more (Some k) a = (on_next k a.0, a.1)

  -- of the child
  module _ (t : Name) (g : slice_get (generated v.action) 0 ≡ Some t) where
    made : spawns t v ≡ true
    made = generates_it v.action t g

    none_stepped : (x : ℕ) → x < n + 1 → passes_at (is_of t) r x ≡ false
    none_stepped x l = false_from_ne_true (passes_at (is_of t) r x) (λ e.
        let i : x < length r.entries = omega (arith, l, w) in
        let same : (ev r.entries x i).task ≡ t = same_true (ev r.entries x i).task t (sym (passes_is r (is_of t) x i) ∙ e) in
        let s : IsSpawned (front r n) t = spawned_on r.entries r.tasks r.by_task r.legal t x n (omega (arith, l)) are.within (subst (IsSpawned (front r x)) same (acted r x i)) in
        both_ways (spawns t v) (no_spawn t s) made)

    pub child_newest : IsNewest r (n + 1) next rows t None
    child_newest = none_stepped

    pub child_maker : IsMaker r (n + 1) next rows t (Some m)
    child_maker = (here, subst (λ p. passes_at (spawns t) r p ≡ true) (sym placed.next.at) (at_n (spawns t) ∙ made))

  -- ---- by ids

  module _ (more : List (Option Mark)) (P Q : Name → Option Mark → Type 0) (marks : List (Option Mark)) (of : AreOfTasks r n P marks) (k : Option Mark)
      (longer : length more ≡ length marks) (others : (i : ℕ) (t : Name) (x : Option Mark) → HasId (front r n) i t → slice_get more i ≡ Some x → Q t x) (child : (t : Name) → slice_get (generated v.action) 0 ≡ Some t → Q t k) where
    of_by : (ts : List Name) → generated v.action ≡ ts → (ks : List (Option Mark)) → length ks ≡ length ts
        → ((x : Option Mark) (j : ℕ) → slice_get ks j ≡ Some x → x ≡ k) → AreOfTasks r (n + 1) Q (more ++ ks)
    of_by ts is ks same only = record {
      listed = length-append more ks ∙ ap₂ (λ a b. a + b) (longer ∙ of.listed) (same ∙ ap length (sym is)) ∙ sym (ap length names_more ∙ length-append (names_in (front r n)) (generated v.action));
      each = λ i t x h g. ⊎_elim
          (λ a. others i t x a (sym (get_front more ks i (omega (arith, longer, of.listed, index_within (names_in (front r n)) i t a))) ∙ g))
          (λ a. subst (Q t) (sym (only x a.at (sym (get_back more ks i a.at (omega (arith, a.index, longer, of.listed))) ∙ g))) (child t (subst (λ j. slice_get (generated v.action) j ≡ Some t) (only_one v.action a.at t a.is) a.is)))
          (among (names_in (front r n)) (generated v.action) i t (sym (ap (λ ns. slice_get ns i) names_more) ∙ h));
    }
      where
        get_back : (xs ys : List (Option Mark)) (i j : ℕ) → i ≡ length xs + j → slice_get (xs ++ ys) i ≡ slice_get ys j
        get_back [] ys i j e = ap (slice_get ys) (omega (arith, e))
        get_back (x ∷ xs) ys zero j e = absurd (omega (arith, e))
        get_back (x ∷ xs) ys (suc i) j e = get_back xs ys i j (omega (arith, e))

    pub of_none : generated v.action ≡ [] → AreOfTasks r (n + 1) Q more
    of_none is = subst (AreOfTasks r (n + 1) Q) (nothing more) (of_by [] is [] refl (λ x j e. absurd (no e)))
      where
        no : {x : Option Mark} → ◌≡◌ {A = Option (Option Mark)} None (Some x) → ⊥
        no e = cc

        nothing : (xs : List (Option Mark)) → xs ++ [] ≡ xs
        nothing [] = refl
        nothing (x ∷ xs) = ap (λ ys. x ∷ ys) (nothing xs)

    pub of_child : (t : Name) → generated v.action ≡ t ∷ [] → AreOfTasks r (n + 1) Q (more ++ k ∷ [])
    of_child t is = of_by (t ∷ []) is (k ∷ []) refl (λ x j e. by j x e)
      where
        no : {x : Option Mark} → ◌≡◌ {A = Option (Option Mark)} None (Some x) → ⊥
        no e = cc

        by : (j : ℕ) (x : Option Mark) → slice_get (k ∷ []) j ≡ Some x → x ≡ k
        by zero x e = sym (the_same k x e)
        by (suc j) x e = absurd (no e)

  -- the newest steps, with the one at n
  pub newest_set : (i : ℕ) (t : Name) (x : Option Mark) → HasId (front r n) i t → slice_get (newest_with m old.newest.items) i ≡ Some x
      → IsNewest r (n + 1) next rows t x
  newest_set i t x h g =
      ⊎_elim
      (λ e.
      let it : slice_get (newest_with m old.newest.items) i ≡ Some (Some m) = ap (λ xs. slice_get xs i) with_it ∙ ap (slice_get (slice_set old.newest.items m.task (Some m))) e ∙ set_here old.newest.items m.task (Some m) inside in
      subst (IsNewest r (n + 1) next rows t) (the_same (Some m) x (sym it ∙ g)) (newest_mine i t h e))
      (λ d.
      let it : slice_get old.newest.items i ≡ Some x = sym (ap (λ xs. slice_get xs i) with_it ∙ set_elsewhere old.newest.items m.task i (Some m) (λ e. d (sym e))) ∙ g in
      newest_other i t h d x (are.newest.each i t x h it))
      (cases_eq i m.task)
    where
      inside : m.task < length old.newest.items
      inside = omega (arith, are.newest.listed, index_within (names_in (front r n)) m.task v.task (id_at r n n m.task (omega arith) are.within placed.next.task w))

      with_it : newest_with m old.newest.items ≡ slice_set old.newest.items m.task (Some m)
      with_it = ap (λ b. cond b (slice_set old.newest.items m.task (Some m)) old.newest.items) (lt-ltb m.task (length old.newest.items) inside)

  newest_long : length (newest_with m old.newest.items) ≡ length old.newest.items
  newest_long = by (nat_lt m.task (length old.newest.items))
    where
      by : (b : Bool) → length (cond b (slice_set old.newest.items m.task (Some m)) old.newest.items) ≡ length old.newest.items
      by true = set_length old.newest.items m.task (Some m)
      by false = refl

  -- the newest steps of the lanes
  lasts_by : (b : Bool) → nat_lt m.lane lanes.count ≡ b
      → (length (lasts_with m old.lasts.items) ≡ next.count) × ((k : ℕ) → k < next.count → slice_index_or (lasts_with m old.lasts.items) k 0 ≡ next.last k)
  lasts_by true e =
      let c : next.count ≡ lanes.count = ap (λ b. cond b lanes.count (suc m.lane)) e in
      let inside : m.lane < length old.lasts.items = omega (arith, are.lasts_listed, ltb-true m.lane lanes.count e) in
      let it : lasts_with m old.lasts.items ≡ slice_set old.lasts.items m.lane m.at = ap (λ b. cond b (slice_set old.lasts.items m.lane m.at) (old.lasts.items ++ m.at ∷ [])) (lt-ltb m.lane (length old.lasts.items) inside) in (
        ap length it ∙ set_length old.lasts.items m.lane m.at ∙ are.lasts_listed ∙ sym c,
        λ k l. ap (λ xs. slice_index_or xs k 0) it ∙ ⊎_elim
            (λ s. read_here k s inside ∙ placed.next.at ∙ sym (ap next.last s ∙ last_here))
            (λ d. read_there k (λ s. d (sym s)) ∙ are.lasts k (omega (arith, l, c)) ∙ sym (last_stays k d))
            (cases_eq k m.lane),
      )
    where
      read_here : (k : ℕ) → k ≡ m.lane → m.lane < length old.lasts.items → slice_index_or (slice_set old.lasts.items m.lane m.at) k 0 ≡ m.at
      read_here k s inside = ap (λ j. slice_index_or (slice_set old.lasts.items m.lane m.at) j 0) s ∙ reads (slice_set old.lasts.items m.lane m.at) m.lane m.at (set_here old.lasts.items m.lane m.at inside)
        where
          reads : (xs : List ℕ) (i x : ℕ) → slice_get xs i ≡ Some x → slice_index_or xs i 0 ≡ x
          reads [] i x e = absurd (let no : ◌≡◌ {A = Option ℕ} None (Some x) = e in cc)
          reads (y ∷ xs) zero x e = the_same y x e
          reads (y ∷ xs) (suc i) x e = reads xs i x e

      read_there : (k : ℕ) → (m.lane ≡ k → ⊥) → slice_index_or (slice_set old.lasts.items m.lane m.at) k 0 ≡ slice_index_or old.lasts.items k 0
      read_there k d = set_other old.lasts.items m.lane k m.at d
        where
          set_other : (xs : List ℕ) (i j y : ℕ) → (i ≡ j → ⊥) → slice_index_or (slice_set xs i y) j 0 ≡ slice_index_or xs j 0
          set_other [] i j y other = refl
          set_other (z ∷ xs) zero zero y other = absurd (other refl)
          set_other (z ∷ xs) zero (suc j) y other = refl
          set_other (z ∷ xs) (suc i) zero y other = refl
          set_other (z ∷ xs) (suc i) (suc j) y other = set_other xs i j y (λ e. other (ap suc e))
  lasts_by false e =
      let c : next.count ≡ suc m.lane = ap (λ b. cond b lanes.count (suc m.lane)) e in
      let new : m.lane ≡ lanes.count = omega (arith, placed.lane.few, cases_lt_not e) in
      let it : lasts_with m old.lasts.items ≡ old.lasts.items ++ m.at ∷ [] = ap (λ b. cond b (slice_set old.lasts.items m.lane m.at) (old.lasts.items ++ m.at ∷ [])) (ap (nat_lt m.lane) are.lasts_listed ∙ e) in (
        ap length it ∙ length-append old.lasts.items (m.at ∷ []) ∙ omega (arith, are.lasts_listed, c, new),
        λ k l. ap (λ xs. slice_index_or xs k 0) it ∙ ⊎_elim
            (λ s. read_last old.lasts.items m.at k (omega (arith, s, new, are.lasts_listed)) ∙ placed.next.at ∙ sym (ap next.last s ∙ last_here))
            (λ d. read_front old.lasts.items (m.at ∷ []) k (omega (arith, l, c, new, d, are.lasts_listed)) ∙ are.lasts k (omega (arith, l, c, new, d)) ∙ sym (last_stays k d))
            (cases_eq k m.lane),
      )
    where
      cases_lt_not : nat_lt m.lane lanes.count ≡ false → lanes.count ≤ m.lane
      cases_lt_not e = ⊎_elim (λ l. absurd (both_ways (nat_lt m.lane lanes.count) e (lt-ltb m.lane lanes.count l))) (λ h. h) (cases_lt m.lane lanes.count)

      read_last : (xs : List ℕ) (y i : ℕ) → i ≡ length xs → slice_index_or (xs ++ y ∷ []) i 0 ≡ y
      read_last [] y zero e = refl
      read_last [] y (suc i) e = absurd (omega (arith, e))
      read_last (x ∷ xs) y zero e = absurd (omega (arith, e))
      read_last (x ∷ xs) y (suc i) e = read_last xs y i (omega (arith, e))

      read_front : (xs ys : List ℕ) (i : ℕ) → i < length xs → slice_index_or (xs ++ ys) i 0 ≡ slice_index_or xs i 0
      read_front [] ys i h = absurd (omega (arith, h))
      read_front (x ∷ xs) ys zero h = refl
      read_front (x ∷ xs) ys (suc i) h = read_front xs ys i (omega (arith, h))

  -- all clocks
  module _ (new : Clocks) (same : new.rows ≡ old.rows) (lasts : new.lasts.items ≡ lasts_with m old.lasts.items)
      (newest : AreOfTasks r (n + 1) (IsNewest r (n + 1) next rows) new.newest.items)
      (origins : AreOfTasks r (n + 1) (IsMaker r (n + 1) next rows) new.origins.items) where
    pub added : IsAdded r n next new m
    added = subst (λ (rs : Vec (Vec LaneBound Global) Global). IsAdded r n next (record { newest = new.newest; origins = new.origins; rows = rs; lasts = new.lasts }) m) (sym same) (record {
      clocks_are = record {
        within = omega (arith, w);
        are = are_more;
        newest = newest;
        origins = origins;
        lasts_listed = ap length lasts ∙ all.0;
        lasts = λ k l. ap (λ xs. slice_index_or xs k 0) lasts ∙ all.1 k l;
      };
      full = here;
      at = placed.next.at;
    })
      where
        all : (length (lasts_with m old.lasts.items) ≡ next.count) × ((k : ℕ) → k < next.count → slice_index_or (lasts_with m old.lasts.items) k 0 ≡ next.last k)
        all = lasts_by (nat_lt m.lane lanes.count) refl

  origin_kept : (i : ℕ) (t : Name) (x : Option Mark) → HasId (front r n) i t → slice_get old.origins.items i ≡ Some x → IsMaker r (n + 1) next rows t x
  origin_kept i t x h g = maker_more i t h x (are.origins.each i t x h g)

  -- no child
  pub added_alone : generated v.action ≡ [] → (new : Clocks) → new.rows ≡ old.rows → new.lasts.items ≡ lasts_with m old.lasts.items
      → new.newest.items ≡ newest_with m old.newest.items → new.origins.items ≡ old.origins.items → IsAdded r n next new m
  added_alone none new same lasts newest origins =
      added new same lasts
      (subst (AreOfTasks r (n + 1) (IsNewest r (n + 1) next rows)) (sym newest)
      (of_none (newest_with m old.newest.items) (IsNewest r n lanes rows) (IsNewest r (n + 1) next rows) old.newest.items are.newest None newest_long newest_set (λ t g. child_newest t g) none))
      (subst (AreOfTasks r (n + 1) (IsMaker r (n + 1) next rows)) (sym origins)
      (of_none old.origins.items (IsMaker r n lanes rows) (IsMaker r (n + 1) next rows) old.origins.items are.origins (Some m) refl origin_kept (λ t g. child_maker t g) none))

  -- with a child
  pub added_child : (t : Name) → generated v.action ≡ t ∷ [] → (new : Clocks) → new.rows ≡ old.rows → new.lasts.items ≡ lasts_with m old.lasts.items
      → new.newest.items ≡ newest_with m old.newest.items ++ None ∷ [] → new.origins.items ≡ old.origins.items ++ Some m ∷ [] → IsAdded r n next new m
  added_child t is new same lasts newest origins =
      added new same lasts
      (subst (AreOfTasks r (n + 1) (IsNewest r (n + 1) next rows)) (sym newest)
      (of_child (newest_with m old.newest.items) (IsNewest r n lanes rows) (IsNewest r (n + 1) next rows) old.newest.items are.newest None newest_long newest_set (λ s g. child_newest s g) t is))
      (subst (AreOfTasks r (n + 1) (IsMaker r (n + 1) next rows)) (sym origins)
      (of_child old.origins.items (IsMaker r n lanes rows) (IsMaker r (n + 1) next rows) old.origins.items are.origins (Some m) refl origin_kept (λ s g. child_maker s g) t is))

-- what doesn't generate a child
pub generates_none : (a : Action) → ((s : TheSpawn) → a ≡ Spawn s → ⊥) → generated a ≡ []
generates_none (Spawn s) never = absurd (never s refl)
generates_none _ never = refl
