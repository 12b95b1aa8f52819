-- For which steps a later one may ask.
use Rattle.std.proofs.Common.{◌≡◌, ◌<◌, ◌≤◌, ℕ, zero, suc, List, Bool, true, false, not, ◌||◌, nat_lt, nat_le, length, slice_get, refl, sym, ap, ◌∙◌, subst, arith, Option, Some, None, ⊎_elim, eq-eqb, eqb-true, lt-ltb, ltb-true, le-leb, leb-true}
use Rattle.std.proofs.lemmas.Bool.{and_from, and_parts, both_ways, cases_eq, false≢true, false_from_ne_true, or_cases, or_left, or_right}
use Rattle.tb_model.specs.declared.action.Action.{Action}
use Rattle.tb_steps.specs.Entries.{Entry}
use Rattle.tb_lanes.specs.declared.tasks.Tasks.{Tasks}
use Rattle.tb_lanes.specs.Clocks.{is_end_at, previous}
use Rattle.tb_lanes.specs.Kept.{in_so, is_in, is_in_at, loads_at, slot_of}
use Rattle.tb_order.specs.Needed.{is_next_from, is_over, is_pending, is_uncovered, slot_so, some_below, uncovered_so}
use Rattle.tb_lanes.proofs.SharingLemmas.{in_no_slot, in_slot}

-- ---- some of the first

pub some_true : (f : ℕ → Bool) (n x : ℕ) → x < n → f x ≡ true → some_below f n ≡ true
some_true f zero x l h = absurd (omega (arith, l))
some_true f (suc n) x l h = ⊎_elim (λ e. or_left (f n) _ (subst (λ y. f y ≡ true) e h)) (λ d. or_right (f n) _ (some_true f n x (omega (arith, l, d)) h))
    (cases_eq x n)

pub true_some : (f : ℕ → Bool) (n : ℕ) → some_below f n ≡ true → (x : ℕ) × (x < n) × (f x ≡ true)
true_some f zero h = absurd (false≢true h)
true_some f (suc n) h = ⊎_elim (λ a. (n, omega arith, a)) (λ a. let r = true_some f n a in (r.0, omega (arith, r.1), r.2)) (or_cases (f n) (some_below f n) h)

not_some : (b : Bool) → not b ≡ true → b ≡ false
not_some true h = absurd (false≢true h)
not_some false h = refl

module _ (entries : List Entry) (tasks : Tasks) (q : ℕ) where
  -- ---- it is where it is an end, or the next that touches a task, or not covered

  module _ (n : ℕ) where
    pub end_pending : is_end_at entries q ≡ true → is_pending entries tasks n q ≡ true
    end_pending h = or_left (is_end_at entries q) _ h

    pub next_pending : (p : ℕ) → n ≤ p → p < length entries → previous tasks p ≡ suc q → is_pending entries tasks n q ≡ true
    next_pending p l w e =
        or_right (is_end_at entries q) _
        (or_left (is_next_from entries tasks n q) _ (some_true _ (length entries) p w (and_from (nat_le n p) _ (le-leb n p l) (eq-eqb (previous tasks p) (suc q) e))))

    uncovered : is_uncovered entries n q ≡ true → is_pending entries tasks n q ≡ true
    uncovered h = or_right (is_end_at entries q) _ (or_right (is_next_from entries tasks n q) _ h)

    pub uncovered_pending : (i : ℕ) → is_in_at entries i q ≡ true → ((x : ℕ) → q < x → x < n → is_in_at entries i x ≡ true → loads_at entries x ≡ true)
        → is_pending entries tasks n q ≡ true
    uncovered_pending i here loads = uncovered (by (slice_get entries q) refl)
      where
        none : some_below (is_over entries i q) n ≡ false
        none = false_from_ne_true (some_below (is_over entries i q) n) (λ h.
            let r = true_some (is_over entries i q) n h in
            let a = and_parts (nat_lt q r.0) _ r.2 in
            let b = and_parts (is_in_at entries i r.0) _ a.1 in
            both_ways (loads_at entries r.0) (not_some (loads_at entries r.0) b.1) (loads r.0 (ltb-true q r.0 a.0) r.1 b.0))

        at_slot : (a : Action) → is_in i a ≡ true → (s : Option ℕ) → slot_of a ≡ s → uncovered_so entries n q s ≡ true
        at_slot a h None e = absurd (both_ways (is_in i a) (in_no_slot a i e) h)
        at_slot a h (Some j) e = subst (λ k. not (some_below (is_over entries k q) n) ≡ true) (eqb-true i j (sym (in_slot a j i e) ∙ h)) (ap not none)

        by : (o : Option Entry) → slice_get entries q ≡ o → is_uncovered entries n q ≡ true
        by None e = absurd (false≢true (sym (ap (in_so i) e) ∙ here))
        by (Some u) e = ap (λ o. uncovered_so entries n q (slot_so o)) e ∙ at_slot u.event.action (sym (ap (in_so i) e) ∙ here) (slot_of u.event.action) refl

    -- ---- else it isn't

    pub not_pending : is_end_at entries q ≡ false → ((p : ℕ) → n ≤ p → p < length entries → previous tasks p ≡ suc q → ⊥) → is_uncovered entries n q ≡ false
        → is_pending entries tasks n q ≡ false
    not_pending over next covered =
        false_from_ne_true (is_pending entries tasks n q) (λ h.
        ⊎_elim (λ a. both_ways (is_end_at entries q) over a)
        (λ a.
        ⊎_elim
        (λ b.
        let r = true_some _ (length entries) b in
        let c = and_parts (nat_le n r.0) _ r.2 in
        next r.0 (leb-true n r.0 c.0) r.1 (eqb-true (previous tasks r.0) (suc q) c.1))
        (λ b. both_ways (is_uncovered entries n q) covered b)
        (or_cases (is_next_from entries tasks n q) (is_uncovered entries n q) a))
        (or_cases (is_end_at entries q) (is_next_from entries tasks n q || is_uncovered entries n q) h))

  -- ---- who may be asked for later may be earlier

  pub pending_earlier : (m n : ℕ) → m ≤ n → is_pending entries tasks n q ≡ true → is_pending entries tasks m q ≡ true
  pending_earlier m n l h =
      ⊎_elim (λ a. end_pending m a)
      (λ a.
      ⊎_elim
      (λ b.
      let r = true_some _ (length entries) b in
      let c = and_parts (nat_le n r.0) _ r.2 in
      next_pending m r.0 (omega (arith, l, leb-true n r.0 c.0)) r.1 (eqb-true (previous tasks r.0) (suc q) c.1))
      (λ b. uncovered m (fewer (slot_so (slice_get entries q)) b))
      (or_cases (is_next_from entries tasks n q) (is_uncovered entries n q) a))
      (or_cases (is_end_at entries q) (is_next_from entries tasks n q || is_uncovered entries n q) h)
    where
      fewer : (s : Option ℕ) → uncovered_so entries n q s ≡ true → uncovered_so entries m q s ≡ true
      fewer None h = h
      fewer (Some i) h =
          ap not
          (false_from_ne_true (some_below (is_over entries i q) m) (λ e.
          let r = true_some (is_over entries i q) m e in
          both_ways (some_below (is_over entries i q) n) (not_some (some_below (is_over entries i q) n) h)
          (some_true (is_over entries i q) n r.0 (omega (arith, r.1, l)) r.2)))

-- what is covered by one that stores or prints
pub covered_by : (entries : List Entry) (n q x i : ℕ) (u : Entry) → slice_get entries q ≡ Some u → slot_of u.event.action ≡ Some i → q < x → x < n
    → is_in_at entries i x ≡ true → loads_at entries x ≡ false → is_uncovered entries n q ≡ false
covered_by entries n q x i u u_is slot l m here stores =
    ap (λ o. uncovered_so entries n q (slot_so o)) u_is ∙ ap (uncovered_so entries n q) slot
    ∙ ap not (some_true (is_over entries i q) n x m (and_from (nat_lt q x) _ (lt-ltb q x l) (and_from (is_in_at entries i x) _ here (ap not stores))))

pub no_slot : (entries : List Entry) (n q : ℕ) (u : Entry) → slice_get entries q ≡ Some u → slot_of u.event.action ≡ None → is_uncovered entries n q ≡ false
no_slot entries n q u u_is slot = ap (λ o. uncovered_so entries n q (slot_so o)) u_is ∙ ap (uncovered_so entries n q) slot
