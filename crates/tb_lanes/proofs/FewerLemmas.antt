-- What clocks tell whose rows say no more of the steps for which nobody asks.
use Rattle.std.proofs.Common.{◌≡◌, ◌==◌, ◌≢◌, ◌<◌, ◌≤◌, ◌-◌, ℕ, suc, List, [], Bool, true, false, ◌||◌, ◌&&◌, length, refl, sym, ap, ◌∙◌, subst, arith, nat_lt, nat_le, ◌⊎◌, inl, inr, ⊎_elim, eqb-true, eq-eqb, leb-true, lt-ltb, le-leb, ltb-true}
use Rattle.std.proofs.lemmas.Bool.{and_from, and_parts, both_ways, cases_lt, cases_order, false_from_ne_true, or_cases, or_left, or_right}
use Rattle.tb_steps.specs.Entries.{Entry}
use Rattle.tb_steps.specs.Scans.{AreLegal}
use Rattle.tb_races.specs.Orders.{Order}
use Rattle.tb_lanes.specs.declared.tasks.Tasks.{Tasks}
use Rattle.tb_lanes.specs.declared.clocks.Clocks.{Clocks}
use Rattle.tb_lanes.specs.Bounds.{IsRising, bound_in}
use Rattle.tb_lanes.specs.Clocks.{Adds, AreClocks, AreTasks, IsLane, IsLow, IsSound, Lanes, is_after, is_below, is_told, lane, lanes_of, number, origin, origin_reaches, previous, reaches, row_in, row_of_step, says}
use Rattle.tb_lanes.specs.Fewer.{AddsFor, AreFewer, BeginsFor, IsClosedFor, lanes_with, says_of}
use Rattle.tb_lanes.specs.Needing.{IsTouched}
use Rattle.tb_lanes.proofs.AfterLemmas.{Reached, reach_on, reached, reaches_so}
use Rattle.tb_lanes.proofs.JoinLemmas.{from_origin, not_reached, told_all}
use Rattle.tb_lanes.proofs.LaneLemmas.{Goes, fresh_new, goes, goes_last, lane_before, lane_none}
use Rattle.tb_lanes.proofs.SoundLemmas.{first_reaches, origin_none, own_none, own_touches, sound_none, told_touch}

abbrev lane_of : Clocks → ℕ → ℕ
lane_of clocks = lane (lanes_of clocks)

-- ---- exact clocks say what anybody asks for

module _ (o : Order) (entries : List Entry) (tasks : Tasks) where
  pub exact_fewer : (n : ℕ) (clocks : Clocks) → AreClocks o entries tasks n clocks → AreFewer (λ q. true) o entries tasks n clocks
  exact_fewer n clocks exact = record {
    bounds = λ p. bound_in (row_of_step clocks p);
    listed = exact.listed;
    laned = exact.laned;
    within = exact.within;
    rising = exact.rising;
    lanes = exact.lanes;
    low = exact.lanes.low;
    sound = λ p q l m h.
        exact.lanes.told p l q m ∙ or_right (lane_of clocks p == lane_of clocks q && nat_lt q p) _ (or_left (says (bound_in (row_of_step clocks p)) (lane_of clocks q) q) _ h);
    enough = λ p q l m a h. sym (exact.lanes.told p l q m) ∙ h;
  }

  pub closed_exact : (clocks : Lanes) (row : ℕ → ℕ) (k p : ℕ) → IsSound o entries tasks clocks row k p → IsClosedFor (λ q. true) o entries tasks clocks row k p
  closed_exact clocks row k p so s q l m a t h =
      ⊎_elim (λ e. subst (λ y. is_told o entries tasks clocks row k p y ≡ true) (eqb-true s q e) t) (λ d. so.closed s q l m t d)
      (or_cases (s == q) (is_after o entries s q) h)

  pub adds_exact : (clocks : Clocks) (k p s : ℕ) (old new : ℕ → ℕ) → IsLow old p → AddsFor (λ q. true) o entries tasks clocks k p s old new
      → Adds o entries tasks (lanes_of clocks) k p s old new
  adds_exact clocks k p s old new low adds = record {
    kept = adds.kept;
    reached = λ q l h. adds.reached q l refl h;
    sound = adds.sound;
    low = adds.low low;
  }

module _ (asked : ℕ → Bool) (o : Order) (entries : List Entry) (tasks : Tasks) (n : ℕ) (clocks : Clocks) (are : AreTasks entries tasks)
    (told : AreFewer asked o entries tasks n clocks) (long : n ≤ length entries) (p : ℕ) (inside : p < n) where
  abbrev row : ℕ → ℕ
  row = bound_in (row_of_step clocks p)

  abbrev below : ℕ → Bool
  below q = is_below (lanes_of clocks) row (lane_of clocks p) p q

  abbrev up_to : ℕ → Bool
  up_to q = lane_of clocks p == lane_of clocks q && nat_le q p

  exact : (q : ℕ) → q < n
      → reaches o entries p q ≡ (is_below (lanes_with clocks told.bounds) (told.bounds p) (lane_of clocks p) p q || origin_reaches o entries (origin tasks p) q)
  exact q l = told_all o entries tasks n (lanes_with clocks told.bounds) are told.lanes long p inside q l

  -- ---- what is said is so

  -- a step of its lane, not after it
  pub lane_reached : (q : ℕ) → lane_of clocks p ≡ lane_of clocks q → q ≤ p → reaches o entries p q ≡ true
  lane_reached q e l =
      exact q (omega (arith, l, inside))
      ∙ or_left _ _
      (or_left (up_to q) _ (and_from (lane_of clocks p == lane_of clocks q) (nat_le q p) (eq-eqb (lane_of clocks p) (lane_of clocks q) e) (le-leb q p l)))

  pub below_reached : (q : ℕ) → below q ≡ true → (q ≤ p) × (reaches o entries p q ≡ true)
  below_reached q h =
      ⊎_elim
      (λ a.
      let b = and_parts (lane_of clocks p == lane_of clocks q) (nat_le q p) a in
      let l = leb-true q p b.1 in
      (l, lane_reached q (eqb-true (lane_of clocks p) (lane_of clocks q) b.0) l))
      (λ a. let l = told.low p inside (lane_of clocks q) q a in (omega (arith, l), told.sound p q inside l a))
      (or_cases (up_to q) (says row (lane_of clocks q) q) h)

  pub origin_reached : (q : ℕ) → q < n → origin_reaches o entries (origin tasks p) q ≡ true → reaches o entries p q ≡ true
  origin_reached q l h = exact q l ∙ or_right _ _ h

  -- ---- and what somebody asks for is said

  pub asked_below : (q : ℕ) → q < n → asked q ≡ true → reaches o entries p q ≡ true → (below q ≡ true) ⊎ (origin_reaches o entries (origin tasks p) q ≡ true)
  asked_below q m a h = by (cases_order q p)
    where
      by : (q ≡ p) ⊎ ((q < p) ⊎ (p < q)) → (below q ≡ true) ⊎ (origin_reaches o entries (origin tasks p) q ≡ true)
      by (inl e) = inl
          (or_left (up_to q) _ (and_from (lane_of clocks p == lane_of clocks q) (nat_le q p) (eq-eqb (lane_of clocks p) (lane_of clocks q) (ap (lane_of clocks) (sym e))) (le-leb q p (omega (arith, e)))))
      by (inr (inr l)) = absurd (both_ways (reaches o entries p q) (not_reached o entries p q l (omega (arith, m, long))) h)
      by (inr (inl l)) =
          ⊎_elim
          (λ c.
          let d = and_parts (lane_of clocks p == lane_of clocks q) (nat_lt q p) c in
          inl (or_left (up_to q) _ (and_from (lane_of clocks p == lane_of clocks q) (nat_le q p) d.0 (le-leb q p (omega (arith, l))))))
          (λ c. ⊎_elim (λ d. inl (or_right (up_to q) _ d)) (λ d. inr d) (or_cases (says row (lane_of clocks q) q) (origin_reaches o entries (origin tasks p) q) c))
          (or_cases (lane_of clocks p == lane_of clocks q && nat_lt q p) _ (told.enough p q inside l a h))

  -- ---- the way up

  module _ (q : ℕ) (early : q < n) where
    pub up_reached : origin tasks p ≢ 0 → reaches o entries (origin tasks p - 1) q ≡ true → reaches o entries p q ≡ true
    up_reached some h = origin_reached q early (from_origin o entries (origin tasks p) (origin tasks p) q refl some ∙ h)

    pub up_asked : asked q ≡ true → below q ≡ false → origin tasks p ≢ 0 → reaches o entries p q ≡ true → reaches o entries (origin tasks p - 1) q ≡ true
    up_asked a not_below some h =
        ⊎_elim (λ b. absurd (both_ways (below q) not_below b)) (λ b. sym (from_origin o entries (origin tasks p) (origin tasks p) q refl some) ∙ b)
        (asked_below q early a h)

    pub none_asked : asked q ≡ true → below q ≡ false → origin tasks p ≡ 0 → reaches o entries p q ≡ false
    none_asked a not_below none =
        false_from_ne_true (reaches o entries p q) (λ h.
        ⊎_elim (λ b. both_ways (below q) not_below b)
        (λ b. both_ways (origin_reaches o entries (origin tasks p) q) (origin_none o entries (origin tasks p) q none) b) (asked_below q early a h))

-- ---- bounds that are joined

module _ (asked : ℕ → Bool) (o : Order) (entries : List Entry) (tasks : Tasks) (p : ℕ) (clocks : Clocks) (k s : ℕ) (row more next : ℕ → ℕ)
    (both : (j q : ℕ) → says next j q ≡ (says row j q || says more j q))
    (small : IsLow more p) (right : (q : ℕ) → q < p → says_of clocks more q → reaches o entries s q ≡ true) where
  abbrev in_lane : ℕ → Bool
  in_lane q = k == lane_of clocks q && nat_lt q p

  abbrev Told : (ℕ → ℕ) → ℕ → Type 0
  Told r q = is_told o entries tasks (lanes_of clocks) r k p q ≡ true

  more_listed : (q : ℕ) → says_of clocks more q → Told next q
  more_listed q h = or_right (in_lane q) _ (or_left (says next (lane_of clocks q) q) _ (both (lane_of clocks q) q ∙ or_right (says row (lane_of clocks q) q) _ h))

  row_told : (q : ℕ) → Told row q → Told next q
  row_told q h =
      ⊎_elim (λ a. or_left (in_lane q) _ a)
      (λ a.
      or_right (in_lane q) _
      (⊎_elim (λ b. or_left (says next (lane_of clocks q) q) _ (both (lane_of clocks q) q ∙ or_left (says row (lane_of clocks q) q) _ b)) (λ b. or_right (says next (lane_of clocks q) q) _ b)
      (or_cases (says row (lane_of clocks q) q) (origin_reaches o entries (origin tasks p) q) a)))
      (or_cases (in_lane q) _ h)

  low_both : IsLow row p → IsLow next p
  low_both low j q h = ⊎_elim (λ a. low j q a) (λ a. small j q a) (or_cases (says row j q) (says more j q) (sym (both j q) ∙ h))

  added : (q : ℕ) → q < p → says_of clocks next q → says_of clocks row q ⊎ (reaches o entries s q ≡ true)
  added q l h =
      ⊎_elim (λ a. inl a) (λ a. inr (right q l a))
      (or_cases (says row (lane_of clocks q) q) (says more (lane_of clocks q) q) (sym (both (lane_of clocks q) q) ∙ h))

  -- all that the step reaches was gathered
  pub fewer_all : ((q : ℕ) → q < p → asked q ≡ true → reaches o entries s q ≡ true → says_of clocks more q)
      → AddsFor asked o entries tasks clocks k p s row next
  fewer_all all = record {
    kept = λ j q h. both j q ∙ or_left (says row j q) _ h;
    reached = λ q l a h. more_listed q (all q l a h);
    sound = added;
    low = low_both;
  }

  -- what is left to the index `at` is listed
  pub fewer_up : (at : ℕ) → at < p
      → ((q : ℕ) → q < p → asked q ≡ true → reaches o entries s q ≡ true → says_of clocks more q ⊎ (reaches o entries at q ≡ true))
      → IsClosedFor asked o entries tasks (lanes_of clocks) row k p → Told row at
      → AddsFor asked o entries tasks clocks k p s row next
  fewer_up at l all closed told = record {
    kept = λ j q h. both j q ∙ or_left (says row j q) _ h;
    reached = λ q m a h. ⊎_elim (λ b. more_listed q b) (λ b. row_told q (closed at q l m a told b)) (all q m a h);
    sound = added;
    low = low_both;
  }

-- ---- how a step begins

module _ (asked : ℕ → Bool) (o : Order) (entries : List Entry) (tasks : Tasks) (are : AreTasks entries tasks) (p : ℕ) (w : p < length entries)
    (clocks : Clocks) (told : AreFewer asked o entries tasks p clocks) where
  abbrev Tells : ℕ → (ℕ → ℕ) → ℕ → Type 0
  Tells k row q = is_told o entries tasks (lanes_of clocks) row k p q ≡ true

  abbrev full : Lanes
  full = lanes_with clocks told.bounds

  same_lane : (k : ℕ) → IsLane entries full k p → IsLane entries (lanes_of clocks) k p
  same_lane k is = record { few = is.few; own = is.own; follows = is.follows }

  -- as the step of its task in front
  module _ (legal : AreLegal entries) (b : ℕ) (prev : previous tasks p ≡ suc b) (same : number tasks b ≡ number tasks p) (n : ℕ)
      (here : row_in clocks.rows.items n ≡ row_of_step clocks b) (few : n ≤ length clocks.rows.items) (k : ℕ) (k_is : k ≡ lane_of clocks b) where
    g : Goes o entries tasks are p w full told.lanes legal b prev same
    g = goes o entries tasks are p w full told.lanes legal b prev same

    ib : b < length entries
    ib = omega (arith, g.low, w)

    abbrev own : ℕ → ℕ
    own = bound_in (row_of_step clocks b)

    abbrev its_lane : ℕ → Bool
    its_lane q = lane_of clocks b == lane_of clocks q && nat_lt q p

    from_b : (q : ℕ) → q < p → reaches o entries b q ≡ true → IsTouched o entries p q
    from_b q l h = (b, g.low, own_touches o entries tasks are p w full told.lanes b ib g.mine, h)

    sound_b : (q : ℕ) → q < p → Tells (lane_of clocks b) own q → IsTouched o entries p q
    sound_b q l h =
        ⊎_elim
        (λ a.
        let c = and_parts (lane_of clocks b == lane_of clocks q) (nat_lt q p) a in
        let e = eqb-true (lane_of clocks b) (lane_of clocks q) c.0 in
        from_b q l
        (lane_reached asked o entries tasks p clocks are told (omega (arith, w)) b g.low q e (⊎_elim (λ m. absurd (goes_last o entries tasks are p w full told.lanes legal b prev same q m l (sym e))) (λ m. m) (cases_lt b q))))
        (λ a.
        ⊎_elim (λ c. from_b q l (told.sound b q g.low (told.low b g.low (lane_of clocks q) q c) c))
        (λ c. from_b q l (origin_reached asked o entries tasks p clocks are told (omega (arith, w)) b g.low q l (ap (λ m. origin_reaches o entries m q) (sym g.origins) ∙ c)))
        (or_cases (says own (lane_of clocks q) q) (origin_reaches o entries (origin tasks p) q) a))
        (or_cases (its_lane q) _ h)

    enough_b : (q : ℕ) → q < p → asked q ≡ true → IsTouched o entries p q → Tells (lane_of clocks b) own q
    enough_b q l a t =
        let f = first_reaches o entries tasks are p w full told.lanes t.0 t.1 t.2 in
        let e : f.0 ≡ b = omega (arith, f.1, prev) in
        let r : reaches o entries b q ≡ true = reaches_so o entries b q (reach_on o entries b t.0 q (subst (λ y. Reached o entries y t.0) e f.3) (reached o entries t.0 q (omega (arith, t.1, w)) (omega (arith, l, w)) t.3)) in
        ⊎_elim
        (λ c.
        ⊎_elim
        (λ d.
        let m = and_parts (lane_of clocks b == lane_of clocks q) (nat_le q b) d in
        or_left (its_lane q) _ (and_from (lane_of clocks b == lane_of clocks q) (nat_lt q p) m.0 (lt-ltb q p l)))
        (λ d. or_right (its_lane q) _ (or_left (says own (lane_of clocks q) q) _ d))
        (or_cases (lane_of clocks b == lane_of clocks q && nat_le q b) (says own (lane_of clocks q) q) c))
        (λ c. or_right (its_lane q) _ (or_right (says own (lane_of clocks q) q) _ (ap (λ m. origin_reaches o entries m q) g.origins ∙ c)))
        (asked_below asked o entries tasks p clocks are told (omega (arith, w)) b g.low q l a r)

    pub begins_on : BeginsFor asked o entries tasks clocks n k p
    begins_on = record {
      within = few;
      rising = subst IsRising (sym here) (told.rising b g.low);
      lane = subst (λ j. IsLane entries (lanes_of clocks) j p) (sym k_is)
          (same_lane (lane_of clocks b) (lane_before o entries tasks are p w full told.lanes legal b prev same));
      low = λ j q h. omega (arith, g.low, told.low b g.low j q (subst (λ r. says (bound_in r) j q ≡ true) here h));
      sound = λ q l h. sound_b q l (subst (λ j. Tells j own q) k_is (subst (λ r. Tells k (bound_in r) q) here h));
      enough = λ q l a t. subst (λ r. Tells k (bound_in r) q) (sym here) (subst (λ j. Tells j own q) (sym k_is) (enough_b q l a t));
    }

  -- with no step of its task in front, in a new lane
  module _ (c : (previous tasks p ≡ 0) ⊎ ((b : ℕ) × (previous tasks p ≡ suc b) × (number tasks b ≢ number tasks p))) where
    abbrev k : ℕ
    k = length clocks.lasts.items

    place : IsLane entries full k p
    place = lane_none o entries tasks are p w full told.lanes c

    so : IsSound o entries tasks full (bound_in []) k p
    so = sound_none o entries tasks are p w full told.lanes k (fresh_new o entries tasks are p w full told.lanes) c

    pub begins_new : BeginsFor asked o entries tasks clocks 0 k p
    begins_new = record {
      within = omega arith;
      rising = λ i j x y l m. absurd (omega (arith, m));
      lane = same_lane k place;
      low = λ j q h. absurd (omega (arith, ltb-true q 0 h));
      sound = own_none o entries tasks are p w full told.lanes k (fresh_new o entries tasks are p w full told.lanes) c;
      enough = λ q l a t.
          let at_x = told_touch o entries tasks are p w full told.lanes k place.own (bound_in []) so t.0 t.1 (omega (arith, t.1, w)) t.2 (are.behind p w) in
          ⊎_elim (λ e. subst (λ y. is_told o entries tasks full (bound_in []) k p y ≡ true) (eqb-true t.0 q e) at_x) (λ d. so.closed t.0 q t.1 l at_x d)
          (or_cases (t.0 == q) (is_after o entries t.0 q) t.3);
    }
