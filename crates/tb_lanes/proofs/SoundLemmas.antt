-- The clock of a step is that of the step of its task in front of it, with what is in front of the ends to which it is linked.
use Rattle.std.proofs.Common.{◌≡◌, ◌==◌, ◌<◌, ◌≤◌, ◌-◌, ℕ, suc, List, Bool, true, false, ◌||◌, ◌&&◌, length, refl, sym, ap, ◌∙◌, subst, arith, ◌⊎◌, inl, inr, ⊎_elim, eqb-true, eq-eqb, nat_lt, ltb-true, lt-ltb, ◌≢◌, ne_eqb, cond}
use Rattle.std.proofs.lemmas.Bool.{or_cases, or_left, or_right, both_ways, and_parts, and_from, cases_eq, cases_lt}
use Rattle.tb_model.specs.Names.{same_name}
use Rattle.tb_model.specs.Facts.{spawns}
use Rattle.tb_model.proofs.TestLemmas.{same_true}
use Rattle.tb_steps.specs.Entries.{Entry}
use Rattle.tb_races.specs.Orders.{Order}
use Rattle.tb_lanes.specs.declared.tasks.Tasks.{Tasks}
use Rattle.tb_lanes.specs.Clocks.{Adds, AreLanes, AreTasks, IsOrigin, IsClock, IsSound, TellsEnds, Behind, alone, generated, going_on, reaches, is_after, is_told, links_at, is_end_at, both_at, of_one, generates, touches, origin, origin_reaches, row_at, number, previous, says, lane, IsLow, IsLastOf, Lanes}
use Rattle.tb_lanes.specs.Needing.{IsOwn, IsTouched, TellsShared}
use Rattle.tb_lanes.proofs.AfterLemmas.{at, low, Reached, reached, reaches_so, reach_on, first_link, linked_on, after_links, links_after}
use Rattle.tb_lanes.proofs.LinkLemmas.{both_is, touch_links_at, link_cases_at}

-- two tests that hold together are the same
same_tests : (a b : Bool) → (a ≡ true → b ≡ true) → (b ≡ true → a ≡ true) → a ≡ b
same_tests true true f g = refl
same_tests true false f g = sym (f refl)
same_tests false true f g = g refl
same_tests false false f g = refl

-- the origin that is listed reaches
pub origin_suc : (o : Order) (entries : List Entry) (b n q : ℕ) → n ≡ suc b → origin_reaches o entries n q ≡ reaches o entries b q
origin_suc o entries b n q is =
    let some : (n == 0) ≡ false = ne_eqb n 0 (λ z. omega (arith, z, is)) in
    let less : n - 1 ≡ b = omega (arith, is) in
    ap (λ c. cond c false (reaches o entries (n - 1) q)) some ∙ ap (λ m. reaches o entries m q) less

pub origin_none : (o : Order) (entries : List Entry) (n q : ℕ) → n ≡ 0 → origin_reaches o entries n q ≡ false
origin_none o entries n q is = ap (λ c. cond c false (reaches o entries (n - 1) q)) (eq-eqb n 0 is)

module _ (o : Order) (entries : List Entry) where
  -- what is reached isn't after
  pub reached_low : (p q : ℕ) → Reached o entries p q → q ≤ p
  reached_low p q (inl e) = omega (arith, e)
  reached_low p q (inr a) = omega (arith, low a)

  pub origin_low : (n b q : ℕ) → n ≤ b → b ≤ length entries → q < length entries → origin_reaches o entries n q ≡ true → q < b
  origin_low n b q l m i h = by (cases_eq n 0)
    where
      by : (n ≡ 0) ⊎ (n ≢ 0) → q < b
      by (inl z) = absurd (both_ways (origin_reaches o entries n q) (origin_none o entries n q z) h)
      by (inr d) =
          let e : n ≡ suc (n - 1) = omega (arith, d) in
          omega (arith, l, d, reached_low (n - 1) q (reached o entries (n - 1) q (omega (arith, l, m, d)) i (sym (origin_suc o entries (n - 1) n q e) ∙ h)))

module _ (o : Order) (entries : List Entry) (tasks : Tasks) (are : AreTasks entries tasks) (p : ℕ) (w : p < length entries) (clocks : Lanes) (told : AreLanes o entries tasks p clocks) where
  -- by a link to x everything that x reaches comes before
  behind_link : (x q : ℕ) → x < p → q < length entries → both_at touches entries p x ≡ true → Reached o entries x q → is_after o entries p q ≡ true
  behind_link x q l i h r = links_after (linked_on o entries p x q l w (touch_links_at o entries p x w (omega (arith, l, w)) h) r)

  pub own_touches : (q : ℕ) (i : q < length entries) → both_at of_one entries p q ≡ true → both_at touches entries p q ≡ true
  own_touches q i h = both_is o entries p q w i touches ∙ or_left _ _ (sym (both_is o entries p q w i of_one) ∙ h)

  module _ (k : ℕ) where
    abbrev Told : (ℕ → ℕ) → ℕ → Type 0
    Told row q = is_told o entries tasks clocks row k p q ≡ true

    -- the three ways to be listed
    abbrev Ways : (ℕ → ℕ) → ℕ → Type 0
    Ways row q = ((k ≡ lane clocks q) × (q < p)) ⊎ ((says row (lane clocks q) q ≡ true) ⊎ (origin_reaches o entries (origin tasks p) q ≡ true))

    ways : (row : ℕ → ℕ) (q : ℕ) → Told row q → Ways row q
    ways row q h =
        ⊎_elim
        (λ a. let b = and_parts (k == lane clocks q) (nat_lt q p) a in inl (eqb-true k (lane clocks q) b.0, ltb-true q p b.1))
        (λ a. inr (or_cases (says row (lane clocks q) q) (origin_reaches o entries (origin tasks p) q) a))
        (or_cases (k == lane clocks q && nat_lt q p) _ h)

    told_lane : (row : ℕ → ℕ) (q : ℕ) → k ≡ lane clocks q → q < p → Told row q
    told_lane row q h l = or_left (k == lane clocks q && nat_lt q p) _ (and_from (k == lane clocks q) (nat_lt q p) (eq-eqb k (lane clocks q) h) (lt-ltb q p l))

    told_says : (row : ℕ → ℕ) (q : ℕ) → says row (lane clocks q) q ≡ true → Told row q
    told_says row q h = or_right (k == lane clocks q && nat_lt q p) _ (or_left (says row (lane clocks q) q) _ h)

    told_origin : (row : ℕ → ℕ) (q : ℕ) → origin_reaches o entries (origin tasks p) q ≡ true → Told row q
    told_origin row q h = or_right (k == lane clocks q && nat_lt q p) _ (or_right (says row (lane clocks q) q) _ h)

  -- ---- as the step of its task in front

  module _ (b : ℕ) (l : b < p) (origins : origin tasks p ≡ origin tasks b) (mine : both_at of_one entries p b ≡ true) (last : IsLastOf clocks p b) where
    abbrev ib : b < length entries
    ib = omega (arith, l, w)

    abbrev k : ℕ
    k = lane clocks b

    abbrev row : ℕ → ℕ
    row = row_at clocks b

    -- the clock of b
    clock_b : (q : ℕ) → q < b → is_told o entries tasks clocks row k b q ≡ true → Reached o entries b q
    clock_b q m h = reached o entries b q ib (omega (arith, m, ib)) (told.told b l q m ∙ h)

    not_behind : (q : ℕ) → q < p → k ≡ lane clocks q → q ≤ b
    not_behind q m e = ⊎_elim (λ a. absurd (last q a m (sym e))) (λ a. a) (cases_lt b q)

    from_b : (q : ℕ) → q < p → Told k row q → Reached o entries b q
    from_b q m h = by (ways k row q h)
      where
        by : Ways k row q → Reached o entries b q
        by (inl a) = in_lane (cases_eq b q)
          where
            in_lane : (b ≡ q) ⊎ (b ≢ q) → Reached o entries b q
            in_lane (inl e) = inl e
            in_lane (inr d) =
                let s : q < b = omega (arith, not_behind q m a.0, d) in
                clock_b q s (or_left (k == lane clocks q && nat_lt q b) _ (and_from (k == lane clocks q) (nat_lt q b) (eq-eqb k (lane clocks q) a.0) (lt-ltb q b s)))
        by (inr (inl a)) = clock_b q (told.low b l (lane clocks q) q a) (or_right (k == lane clocks q && nat_lt q b) _ (or_left (says row (lane clocks q) q) _ a))
        by (inr (inr a)) =
            let h = ap (λ m. origin_reaches o entries m q) (sym origins) ∙ a in
            let s : q < b = origin_low o entries (origin tasks b) b q (are.shaped.low b (omega (arith, ib, are.numbers_listed))) (omega (arith, ib)) (omega (arith, m, w)) h in
            clock_b q s (or_right (k == lane clocks q && nat_lt q b) _ (or_right (says row (lane clocks q) q) _ h))

    to_p : (q : ℕ) → Reached o entries b q → Told k row q
    to_p q (inl e) = told_lane k row q (ap (lane clocks) e) (omega (arith, e, l))
    to_p q (inr a) =
        let m : q < b = low a in
        ⊎_elim
        (λ c. let d = and_parts (k == lane clocks q) (nat_lt q b) c in told_lane k row q (eqb-true k (lane clocks q) d.0) (omega (arith, m, l)))
        (λ c.
        ⊎_elim (λ d. told_says k row q d) (λ d. told_origin k row q (ap (λ m. origin_reaches o entries m q) origins ∙ d))
        (or_cases (says row (lane clocks q) q) (origin_reaches o entries (origin tasks b) q) c))
        (or_cases (k == lane clocks q && nat_lt q b) _ (sym (told.told b l q m) ∙ reaches_so o entries b q (inr a)))

    pub own_going : IsOwn o entries tasks clocks row k p
    own_going q m h = (b, l, own_touches b ib mine, reaches_so o entries b q (from_b q m h))

    pub sound_going : IsSound o entries tasks clocks row k p
    sound_going = record {
      sound = λ q m h. behind_link b q l (omega (arith, m, w)) (own_touches b ib mine) (from_b q m h);
      closed = λ s q j m h a. to_p q (reach_on o entries b s q (from_b s j h) (inr (after_links o entries s q (omega (arith, j, w)) (omega (arith, m, w)) a)));
      low = λ i q h. omega (arith, told.low b l i q h, l);
    }

  -- ---- with no step of its task in front

  module _ (k : ℕ) (new : (q : ℕ) → q < p → lane clocks q ≢ k) where
    -- no bounds
    abbrev none : ℕ → ℕ
    none j = 0

    -- nothing is listed but by the origin
    no_row : (q : ℕ) → Told k none q → origin_reaches o entries (origin tasks p) q ≡ true
    no_row q h = by (ways k none q h)
      where
        by : Ways k none q → origin_reaches o entries (origin tasks p) q ≡ true
        by (inl a) = absurd (new q a.1 (sym a.0))
        by (inr (inl a)) = absurd (omega (arith, ltb-true q 0 a))
        by (inr (inr a)) = a

    no_low : IsLow none p
    no_low i q h = absurd (omega (arith, ltb-true q 0 h))

    sound_alone : origin tasks p ≡ 0 → IsSound o entries tasks clocks none k p
    sound_alone zero_is =
        let nothing = λ (q : ℕ) (h : Told k none q). both_ways (origin_reaches o entries (origin tasks p) q) (origin_none o entries (origin tasks p) q zero_is) (no_row q h) in record {
          sound = λ q m h. absurd (nothing q h);
          closed = λ s q j m h a. absurd (nothing s h);
          low = no_low;
        }

    sound_generated : (b : ℕ) → b < p → origin tasks p ≡ suc b → both_at generates entries p b ≡ true → IsSound o entries tasks clocks none k p
    sound_generated b l is made =
        let ib : b < length entries = omega (arith, l, w) in
        let touch : both_at touches entries p b ≡ true = both_is o entries p b w ib touches ∙ or_right _ _ (sym (both_is o entries p b w ib generates) ∙ made) in
        let from = λ (q : ℕ) (i : q < length entries) (h : Told k none q). reached o entries b q ib i (sym (origin_suc o entries b (origin tasks p) q is) ∙ no_row q h) in record {
          sound = λ q m h. behind_link b q l (omega (arith, m, w)) touch (from q (omega (arith, m, w)) h);
          closed = λ s q j m h a.
              told_origin k none q
              (origin_suc o entries b (origin tasks p) q is
              ∙ reaches_so o entries b q (reach_on o entries b s q (from s (omega (arith, j, w)) h) (inr (after_links o entries s q (omega (arith, j, w)) (omega (arith, m, w)) a))));
          low = no_low;
        }

    pub own_none : (previous tasks p ≡ 0) ⊎ ((b : ℕ) × (previous tasks p ≡ suc b) × (number tasks b ≢ number tasks p)) → IsOwn o entries tasks clocks none k p
    own_none c q m h = by (are.origins p w)
      where
        by : IsOrigin entries tasks p → IsTouched o entries p q
        by (inl a) = absurd (both_ways (origin_reaches o entries (origin tasks p) q) (origin_none o entries (origin tasks p) q a.0) (no_row q h))
        by (inr a) =
            let u = a.0 in
            let iu : u < length entries = omega (arith, a.2, w) in
            (u, a.2, both_is o entries p u w iu touches ∙ or_right _ _ (sym (both_is o entries p u w iu generates) ∙ a.3), sym (origin_suc o entries u (origin tasks p) q a.1) ∙ no_row q h)

    pub sound_none : (previous tasks p ≡ 0) ⊎ ((b : ℕ) × (previous tasks p ≡ suc b) × (number tasks b ≢ number tasks p)) → IsSound o entries tasks clocks none k p
    sound_none c = by (are.behind p w)
      where
        by : Behind entries tasks p → IsSound o entries tasks clocks none k p
        by (alone _ _ _ none zero_is nothing) = sound_alone zero_is
        by (generated _ _ _ b l is from made other only) = sound_generated b l from made
        by (going_on _ _ _ b l is from mine newest) =
            absurd
            (⊎_elim (λ z. omega (arith, z, is))
            (λ d. let e : d.0 ≡ b = omega (arith, d.1, is) in d.2 (ap (number tasks) e ∙ sym (eqb-true (number tasks p) (number tasks b) (are.same p b w (omega (arith, l, w)) ∙ mine)))) c)

  -- ---- one end more

  module _ (k : ℕ) (row next : ℕ → ℕ) (s : ℕ) (l : s < p) (more : Adds o entries tasks clocks k p s row next) where
    abbrev is : s < length entries
    is = omega (arith, l, w)

    -- it adds what that reaches
    added : (q : ℕ) → q < p → Told k next q → Told k row q ⊎ Reached o entries s q
    added q m h = by (ways k next q h)
      where
        by : Ways k next q → Told k row q ⊎ Reached o entries s q
        by (inl a) = inl (told_lane k row q a.0 a.1)
        by (inr (inr a)) = inl (told_origin k row q a)
        by (inr (inl a)) = ⊎_elim (λ c. inl (told_says k row q c)) (λ c. inr (reached o entries s q is (omega (arith, m, w)) c)) (more.sound q m a)

    pub adds_told : (q : ℕ) → q < p → Told k next q → Told k row q ⊎ (reaches o entries s q ≡ true)
    adds_told q m h = ⊎_elim (λ a. inl a) (λ a. inr (reaches_so o entries s q a)) (added q m h)

    pub stays_told : (q : ℕ) → q < p → Told k row q → Told k next q
    stays_told q m h = by (ways k row q h)
      where
        by : Ways k row q → Told k next q
        by (inl a) = told_lane k next q a.0 a.1
        by (inr (inr a)) = told_origin k next q a
        by (inr (inl a)) = told_says k next q (more.kept (lane clocks q) q a)

    now_told : (q : ℕ) → q < p → Reached o entries s q → Told k next q
    now_told q m r = more.reached q m (reaches_so o entries s q r)

    pub itself_told : Told k next s
    itself_told = now_told s l (inl refl)

    pub sound_more : IsSound o entries tasks clocks row k p → links_at o entries p s ≡ true → IsSound o entries tasks clocks next k p
    sound_more so link = record {
      sound = λ q m h. ⊎_elim (λ a. so.sound q m a) (λ a. links_after (linked_on o entries p s q l w link a)) (added q m h);
      closed = λ x q j m h a.
          ⊎_elim (λ b. stays_told q m (so.closed x q j m b a))
          (λ b. now_told q m (reach_on o entries s x q b (inr (after_links o entries x q (omega (arith, j, w)) (omega (arith, m, w)) a)))) (added x j h);
      low = more.low;
    }

  -- ---- in another lane

  -- the row says as much in the lane of an end which it has, where that is the newest there
  module _ (k : ℕ) (row : ℕ → ℕ) (x : ℕ) (l : x < p) (new : (q : ℕ) → q < p → lane clocks q ≢ k) (last : (q : ℕ) → q < p → lane clocks q ≡ lane clocks x → q ≤ x) (so : IsSound o entries tasks clocks row k p) (tells : Told k row x) where
    abbrev m : ℕ
    m = lane clocks x

    back : (q : ℕ) → q < p → Told m row q → Told k row q
    back q j h = by (ways m row q h)
      where
        by : Ways m row q → Told k row q
        by (inr (inl a)) = told_says k row q a
        by (inr (inr a)) = told_origin k row q a
        by (inl a) = in_lane (cases_eq q x)
          where
            in_lane : (q ≡ x) ⊎ (q ≢ x) → Told k row q
            in_lane (inl e) = subst (λ y. Told k row y) (sym e) tells
            in_lane (inr d) =
                let s : q < x = omega (arith, last q j (sym a.0), d) in
                so.closed x q l j tells
                (after (told.told x l q s ∙ or_left (m == lane clocks q && nat_lt q x) _ (and_from (m == lane clocks q) (nat_lt q x) (eq-eqb m (lane clocks q) a.0) (lt-ltb q x s))) s)
              where
                after : reaches o entries x q ≡ true → q < x → is_after o entries x q ≡ true
                after h s = ⊎_elim (λ e. absurd (omega (arith, eqb-true x q e, s))) (λ a. a) (or_cases (x == q) (is_after o entries x q) h)

    forth : (q : ℕ) → q < p → Told k row q → Told m row q
    forth q j h = by (ways k row q h)
      where
        by : Ways k row q → Told m row q
        by (inl a) = absurd (new q j (sym a.0))
        by (inr (inl a)) = told_says m row q a
        by (inr (inr a)) = told_origin m row q a

    pub sound_moved : IsSound o entries tasks clocks row m p
    sound_moved = record {
      sound = λ q j h. so.sound q j (back q j h);
      closed = λ s q i j h a. forth q j (so.closed s q i j (back s i h) a);
      low = so.low;
    }

    pub shares_moved : TellsShared o entries tasks clocks row k p → TellsShared o entries tasks clocks row m p
    shares_moved shares c y j h = forth y j (shares c y j h)

    pub ends_moved : TellsEnds o entries tasks clocks row k p → TellsEnds o entries tasks clocks row m p
    ends_moved ends y j e h = forth y j (ends y j e h)

  moved : (x b : ℕ) (j : x < length entries) (ib : b < length entries) → both_at of_one entries p b ≡ true → both_at touches entries p x ≡ true → both_at touches entries b x ≡ true
  moved x b j ib mine h =
      let same = same_true (at o entries b ib).event.task (at o entries p w).event.task (sym (both_is o entries p b w ib of_one) ∙ mine) in
      both_is o entries b x ib j touches
      ∙ ap (λ t. same_name (at o entries x j).event.task t || spawns t (at o entries x j).event) same
      ∙ sym (both_is o entries p x w j touches) ∙ h

  touched_back : (x b : ℕ) (j : x < length entries) (ib : b < length entries) → x < b → both_at of_one entries p b ≡ true → both_at touches entries p x ≡ true → is_after o entries b x ≡ true
  touched_back x b j ib l mine h = links_after (linked_on o entries b x x l ib (touch_links_at o entries b x ib j (moved x b j ib mine h)) (inl refl))

  -- what touches its task is reached by the newest that does
  pub first_reaches : (x : ℕ) → x < p → both_at touches entries p x ≡ true → (b : ℕ) × (previous tasks p ≡ suc b) × (b < p) × Reached o entries b x
  first_reaches x l h = by (are.behind p w)
    where
      j : x < length entries
      j = omega (arith, l, w)

      by : Behind entries tasks p → (b : ℕ) × (previous tasks p ≡ suc b) × (b < p) × Reached o entries b x
      by (alone _ _ _ none zero_is nothing) = absurd (nothing x l h)
      by (generated _ _ _ b m prev is made other only) = (b, prev, m, inl (sym (only x l h)))
      by (going_on _ _ _ b m prev same mine newest) = (
        b,
        prev,
        m,
        ⊎_elim (λ e. inl (sym e)) (λ d. let le : x ≤ b = newest x l h in inr (after_links o entries b x (omega (arith, m, w)) j (touched_back x b j (omega (arith, m, w)) (omega (arith, le, d)) mine h))) (cases_eq x b),
      )

  -- the newest touches it
  pub first_touches : (b : ℕ) → previous tasks p ≡ suc b → (b < p) × (both_at touches entries p b ≡ true)
  first_touches b prev = by (are.behind p w)
    where
      by : Behind entries tasks p → (b < p) × (both_at touches entries p b ≡ true)
      by (alone _ _ _ none zero_is nothing) = absurd (omega (arith, none, prev))
      by (generated _ _ _ c m is from made other only) =
          let e : c ≡ b = omega (arith, is, prev) in
          subst (λ y. (y < p) × (both_at touches entries p y ≡ true)) e (m, both_is o entries p c w (omega (arith, m, w)) touches ∙ or_right _ _ (sym (both_is o entries p c w (omega (arith, m, w)) generates) ∙ made))
      by (going_on _ _ _ c m is same mine newest) =
          let e : c ≡ b = omega (arith, is, prev) in
          subst (λ y. (y < p) × (both_at touches entries p y ≡ true)) e (m, own_touches c (omega (arith, m, w)) mine)

  -- ---- the whole

  -- with all ends to which it is linked, the row is the step's
  module _ (k : ℕ) (own : (q : ℕ) → q < p → both_at of_one entries p q ≡ true → k ≡ lane clocks q) where
    pub told_own : (row : ℕ → ℕ) (q : ℕ) → q < p → both_at of_one entries p q ≡ true → Told k row q
    told_own row q l h = told_lane k row q (own q l h) l

    -- what touches its task is listed
    pub told_touch : (row : ℕ → ℕ) → IsSound o entries tasks clocks row k p → (x : ℕ) → x < p → x < length entries → both_at touches entries p x ≡ true → Behind entries tasks p → Told k row x
    told_touch row so x l j h (alone _ _ _ none zero_is nothing) = absurd (nothing x l h)
    told_touch row so x l j h (generated _ _ _ b m prev is made other only) =
        told_origin k row x (origin_suc o entries b (origin tasks p) x is ∙ reaches_so o entries b x (inl (sym (only x l h))))
    told_touch row so x l j h (going_on _ _ _ b m prev same mine newest) = by (cases_eq x b)
      where
        ib : b < length entries
        ib = omega (arith, m, w)

        told_b : Told k row b
        told_b = told_own row b m mine

        by : (x ≡ b) ⊎ (x ≢ b) → Told k row x
        by (inl e) = subst (λ y. Told k row y) (sym e) told_b
        by (inr d) =
            let le : x ≤ b = newest x l h in
            so.closed b x m l told_b (touched_back x b j ib (omega (arith, le, d)) mine h)

    pub clock_told : (row : ℕ → ℕ) → IsSound o entries tasks clocks row k p → TellsEnds o entries tasks clocks row k p → TellsShared o entries tasks clocks row k p → IsClock o entries tasks clocks row k p
    clock_told row so ends shares q m =
        same_tests (reaches o entries p q) (is_told o entries tasks clocks row k p q) (λ h. into (reached o entries p q w (omega (arith, m, w)) h)) (λ h. or_right (p == q) _ (so.sound q m h))
      where
        i : q < length entries
        i = omega (arith, m, w)

        link_told : (x : ℕ) → x < p → links_at o entries p x ≡ true → Told k row x
        link_told x l h =
            let j : x < length entries = omega (arith, l, w) in
            ⊎_elim (λ a. told_touch row so x l j a (are.behind p w)) (λ a. ⊎_elim (λ b. ends x l b h) (λ b. shares b.0 x l b.1) a) (link_cases_at o entries p x w j h)

        into : Reached o entries p q → is_told o entries tasks clocks row k p q ≡ true
        into (inl e) = absurd (omega (arith, e, m))
        into (inr a) =
            let f = first_link a in
            on f.0 f.1 (link_told f.0 f.1 f.2) f.3
          where
            on : (x : ℕ) → x < p → Told k row x → Reached o entries x q → Told k row q
            on x l t (inl e) = subst (λ y. Told k row y) e t
            on x l t (inr b) = so.closed x q l m t (links_after b)

    -- where it waits for none, its row is as it was
    pub no_ends_told : (row : ℕ → ℕ) → ((x : ℕ) → x < p → is_end_at entries x ≡ true → links_at o entries p x ≡ true → both_at of_one entries p x ≡ true) → TellsEnds o entries tasks clocks row k p
    no_ends_told row none x l e h = told_own row x l (none x l e h)
