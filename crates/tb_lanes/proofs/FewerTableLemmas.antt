-- Clocks whose rows say no more of the steps for which nobody asks, one step more.
use Rattle.std.proofs.Common.{◌≡◌, ◌==◌, ◌≢◌, ◌<◌, ◌≤◌, ◌+◌, ◌&&◌, ◌||◌, ℕ, zero, suc, List, [], ◌∷◌, ◌++◌, Bool, true, false, cond, nat_lt, length, refl, sym, ap, ◌∙◌, subst, arith, ◌⊎◌, inl, inr, eq-eqb, eqb-true, ne_eqb, Vec, Global}
use Rattle.std.specs.Prelude.{slice_index_or}
use Rattle.std.proofs.lemmas.Bool.{and_from, and_parts, cases_eq}
use Rattle.std.proofs.lemmas.List.{length-append}
use Rattle.tb_steps.specs.Entries.{Entry}
use Rattle.tb_races.specs.Orders.{Order}
use Rattle.tb_lanes.specs.declared.tasks.Tasks.{Tasks}
use Rattle.tb_lanes.specs.declared.clocks.Clocks.{Clocks}
use Rattle.tb_lanes.specs.declared.lane_bound.LaneBound.{LaneBound}
use Rattle.tb_lanes.specs.Bounds.{IsRising, bound_in}
use Rattle.tb_lanes.specs.Clocks.{AreLanes, IsClock, IsLane, IsLow, IsOneMore, Lanes, is_told, lane, lanes_of, origin, origin_reaches, reaches, row_in, row_of_step, says}
use Rattle.tb_lanes.specs.Fewer.{AreFewer, lanes_with, says_of}
use Rattle.tb_lanes.proofs.TableLemmas.{each, lane_here, lane_kept, lanes_more, of_here, of_kept, row_here, row_kept, row_same}

-- ---- the last of a lane that passes

-- one more than the last of the first n that passes and is in this lane, or 0
abbrev pub top : (ℕ → Bool) → (ℕ → ℕ) → ℕ → ℕ → ℕ
top f lane zero k = 0
top f lane (suc n) k = cond (f n && (lane n == k)) (suc n) (top f lane n k)

module _ (f : ℕ → Bool) (lane : ℕ → ℕ) (k : ℕ) where
  pub top_low : (n : ℕ) → top f lane n k ≤ n
  top_low zero = omega arith
  top_low (suc n) = by (top_low n) (f n && (lane n == k))
    where
      by : top f lane n k ≤ n → (b : Bool) → cond b (suc n) (top f lane n k) ≤ suc n
      by l true = omega arith
      by l false = omega (arith, l)

  pub top_has : (n q : ℕ) → q < n → f q ≡ true → lane q ≡ k → q < top f lane n k
  top_has zero q l h e = absurd (omega (arith, l))
  top_has (suc n) q l h e = by (λ m. top_has n q m h e) (f n && (lane n == k)) refl (cases_eq q n)
    where
      by : (q < n → q < top f lane n k) → (b : Bool) → (f n && (lane n == k)) ≡ b → (q ≡ n) ⊎ (q ≢ n) → q < cond b (suc n) (top f lane n k)
      by on true s c = omega (arith, l)
      by on false s (inl c) = absurd (none (sym s ∙ and_from (f n) (lane n == k) (ap f (sym c) ∙ h) (eq-eqb (lane n) k (ap lane (sym c) ∙ e))))
        where
          none : false ≡ true → ⊥
          none z = cc
      by on false s (inr d) = on (omega (arith, l, d))

  pub top_by : (n q : ℕ) → q < top f lane n k → (x : ℕ) × (q ≤ x) × (x < n) × (f x ≡ true) × (lane x ≡ k)
  top_by zero q l = absurd (omega (arith, l))
  top_by (suc n) q l = by (top_by n q) (f n && (lane n == k)) refl l
    where
      by : (q < top f lane n k → (x : ℕ) × (q ≤ x) × (x < n) × (f x ≡ true) × (lane x ≡ k)) → (b : Bool) → (f n && (lane n == k)) ≡ b
          → q < cond b (suc n) (top f lane n k) → (x : ℕ) × (q ≤ x) × (x < suc n) × (f x ≡ true) × (lane x ≡ k)
      by on true s m = let a = and_parts (f n) (lane n == k) s in (n, omega (arith, m), omega arith, a.0, eqb-true (lane n) k a.1)
      by on false s m = let r = on m in (r.0, r.1, omega (arith, r.2), r.3, r.4)

-- ---- the tables

-- what is told goes by the lane of the step alone
pub lane_same : (o : Order) (entries : List Entry) (tasks : Tasks) (a b : Lanes) (row : ℕ → ℕ) (k p q : ℕ) → lane a q ≡ lane b q
    → is_told o entries tasks a row k p q ≡ is_told o entries tasks b row k p q
lane_same o entries tasks a b row k p q e = ap (λ m. (k == m && nat_lt q p) || (says row m q || origin_reaches o entries (origin tasks p) q)) e

module _ (asked : ℕ → Bool) (o : Order) (entries : List Entry) (tasks : Tasks) (n : ℕ) where
  -- one row more, where nothing goes by it yet
  module _ (old : Clocks) (rows : Vec (Vec LaneBound Global) Global) (v : Vec LaneBound Global) (e : rows.items ≡ old.rows.items ++ v ∷ [])
      (are : AreFewer asked o entries tasks n old) where
    abbrev with_row : Clocks
    with_row = record { of = old.of; rows = rows; lanes = old.lanes; lasts = old.lasts }

    pub kept : (p : ℕ) → p < n → row_of_step with_row p ≡ row_of_step old p
    kept p l = row_kept old.rows.items rows.items v (slice_index_or old.of.items p 0) e (are.within p l)

    abbrev pub fewer_same : AreFewer asked o entries tasks n with_row
    fewer_same = record {
      bounds = are.bounds;
      listed = are.listed;
      laned = are.laned;
      within = λ p l. omega (arith, are.within p l, ap length e, length-append old.rows.items (v ∷ []));
      rising = λ p l. subst IsRising (sym (kept p l)) (are.rising p l);
      lanes = are.lanes;
      low = λ p l. subst (λ row. IsLow (bound_in row) p) (sym (kept p l)) (are.low p l);
      sound = λ p q l m h. are.sound p q l m (subst (λ row. says_of old (bound_in row) q) (kept p l) h);
      enough = λ p q l m a h.
          subst (λ row. is_told o entries tasks (lanes_of old) (bound_in row) (lane (lanes_of old) p) p q ≡ true) (sym (kept p l)) (are.enough p q l m a h);
    }

  -- one step more
  module _ (old new : Clocks) (row k : ℕ) (one : IsOneMore old row k n new) (are : AreFewer asked o entries tasks n old) (later : ℕ → Bool)
      (fewer : (q : ℕ) → q < n → later q ≡ true → asked q ≡ true) where
    abbrev full : Lanes
    full = lanes_with old are.bounds

    abbrev its : ℕ → ℕ
    its = bound_in (row_in old.rows.items row)

    module _ (bounds : ℕ → ℕ) (clock : IsClock o entries tasks full bounds k n) (small : IsLow bounds n) (place : IsLane entries full k n) where
      abbrev all : ℕ → ℕ → ℕ
      all p = cond (p == n) bounds (are.bounds p)

      all_here : all n ≡ bounds
      all_here = ap (λ b. cond b bounds (are.bounds n)) (eq-eqb n n refl)

      all_before : (p : ℕ) → p < n → all p ≡ are.bounds p
      all_before p l = ap (λ b. cond b bounds (are.bounds p)) (ne_eqb p n (λ e. omega (arith, e, l)))

      here : lane (lanes_of new) n ≡ k
      here = lane_here old new row k n one are.listed are.laned

      before : (p : ℕ) → p < n → lane (lanes_of new) p ≡ lane (lanes_of old) p
      before = lane_kept old new row k n one are.listed are.laned

      lanes_are : AreLanes o entries tasks (n + 1) (lanes_with new all)
      lanes_are =
          lanes_more o entries tasks n full
          (lanes_with new all) bounds k here before all_here all_before clock small place are.lanes one.within one.more one.last one.others

      rows : (p : ℕ) → p < n → row_of_step new p ≡ row_of_step old p
      rows = row_same old new row k n one are.listed are.laned

      row_is : row_of_step new n ≡ row_in old.rows.items row
      row_is = row_here old new row k n one are.listed are.laned

      module _ (within : row ≤ length old.rows.items) (rising : IsRising (row_in old.rows.items row)) (low : IsLow its n)
          (sound : (q : ℕ) → q < n → says_of old its q → reaches o entries n q ≡ true)
          (enough : (q : ℕ) → q < n → later q ≡ true → reaches o entries n q ≡ true → is_told o entries tasks (lanes_of old) its k n q ≡ true) where
        abbrev Sound : ℕ → Type 0
        Sound p = (q : ℕ) → q < p → says_of new (bound_in (row_of_step new p)) q → reaches o entries p q ≡ true

        abbrev Enough : ℕ → Type 0
        Enough p =
            (q : ℕ) → q < p → later q ≡ true → reaches o entries p q ≡ true → is_told o entries tasks (lanes_of new) (bound_in (row_of_step new p))
            (lane (lanes_of new) p) p q ≡ true

        sound_by : (p : ℕ) (r : List LaneBound) → row_of_step new p ≡ r → p ≤ n
            → ((q : ℕ) → q < p → says_of old (bound_in r) q → reaches o entries p q ≡ true) → Sound p
        sound_by p r e l f q m h =
            f q m (subst (λ j. says (bound_in r) j q ≡ true) (before q (omega (arith, m, l))) (subst (λ t. says_of new (bound_in t) q) e h))

        enough_by : (p j : ℕ) (r : List LaneBound) → row_of_step new p ≡ r → lane (lanes_of new) p ≡ j → p ≤ n
            → ((q : ℕ) → q < p → later q ≡ true → reaches o entries p q ≡ true → is_told o entries tasks (lanes_of old) (bound_in r) j p q ≡ true) → Enough p
        enough_by p j r e s l f q m a h =
            subst (λ t. is_told o entries tasks (lanes_of new) (bound_in t) (lane (lanes_of new) p) p q ≡ true) (sym e)
            (subst (λ i. is_told o entries tasks (lanes_of new) (bound_in r) i p q ≡ true) (sym s)
            (lane_same o entries tasks (lanes_of new) (lanes_of old) (bound_in r) j p q (before q (omega (arith, m, l))) ∙ f q m a h))

        pub fewer_more : AreFewer later o entries tasks (n + 1) new
        fewer_more = record {
          bounds = all;
          listed = ap length one.of ∙ length-append old.of.items (row ∷ []) ∙ ap (λ m. m + 1) are.listed;
          laned = ap length one.lanes ∙ length-append old.lanes.items (k ∷ []) ∙ ap (λ m. m + 1) are.laned;
          within = each n (λ p. slice_index_or new.of.items p 0 ≤ length new.rows.items)
              (λ p l. omega (arith, of_kept old new row k n one are.listed are.laned p l, are.within p l, ap length one.rows)) (omega (arith, of_here old new row k n one are.listed are.laned, within, ap length one.rows));
          rising = each n (λ p. IsRising (row_of_step new p)) (λ p l. subst IsRising (sym (rows p l)) (are.rising p l)) (subst IsRising (sym row_is) rising);
          lanes = lanes_are;
          low = each n (λ p. IsLow (bound_in (row_of_step new p)) p) (λ p l. subst (λ r. IsLow (bound_in r) p) (sym (rows p l)) (are.low p l))
              (subst (λ r. IsLow (bound_in r) n) (sym row_is) low);
          sound = λ p q l.
              each n Sound (λ p l. sound_by p (row_of_step old p) (rows p l) (omega (arith, l)) (λ q m h. are.sound p q l m h))
              (sound_by n (row_in old.rows.items row) row_is (omega arith) sound) p l q;
          enough = λ p q l. each n Enough
              (λ p l. enough_by p (lane (lanes_of old) p) (row_of_step old p) (rows p l) (before p l) (omega (arith, l)) (λ q m a h. are.enough p q l m (fewer q (omega (arith, l, m)) a) h))
              (enough_by n k (row_in old.rows.items row) row_is here (omega arith) enough) p l q;
        }
