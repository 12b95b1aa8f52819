-- What a step reaches, by its clock and by what generates its task.
use Rattle.std.proofs.Common.{◌≡◌, ◌==◌, ◌<◌, ◌≤◌, ◌-◌, ◌≢◌, ℕ, List, Bool, true, false, ◌||◌, ◌&&◌, cond, length, refl, sym, ap, ap₂, ◌∙◌, subst, arith, nat_lt, eqb-true, ◌⊎◌, inl, inr, ⊎_elim, eq-eqb, nat_le, lt-ltb, le-leb, leb-true}
use Rattle.std.proofs.lemmas.Bool.{or_left, or_right, or_cases, and_from, and_parts, false_from_ne_true, cases_order}
use Rattle.tb_steps.specs.Entries.{Entry}
use Rattle.tb_races.specs.Orders.{Order}
use Rattle.tb_lanes.specs.declared.tasks.Tasks.{Tasks}
use Rattle.tb_lanes.specs.Clocks.{AreLanes, AreTasks, IsLow, IsSound, Lanes, Adds, is_told, adds, is_below, lane, origin, is_after, origin_reaches, reaches, row_at, says}
use Rattle.tb_lanes.proofs.AfterLemmas.{reached}
use Rattle.tb_lanes.proofs.ClockLemmas.{or_if, zero_eqb}
use Rattle.tb_lanes.proofs.SoundLemmas.{origin_low, origin_none, reached_low}

-- a step isn't reached from one in front of it
pub not_reached : (o : Order) (entries : List Entry) (p q : ℕ) → p < q → q < length entries → reaches o entries p q ≡ false
not_reached o entries p q l i = false_from_ne_true (reaches o entries p q) (λ h. omega (arith, l, reached_low o entries p q (reached o entries p q (omega (arith, l, i)) i h)))

pub not_from_origin : (o : Order) (entries : List Entry) (n q : ℕ) → n ≤ q → q < length entries → origin_reaches o entries n q ≡ false
not_from_origin o entries n q l i =
    false_from_ne_true (origin_reaches o entries n q) (λ h. omega (arith, origin_low o entries n q q l (omega (arith, i)) i h))

or_assoc : (a b c : Bool) → ((a || b) || c) ≡ (a || (b || c))
or_assoc true b c = refl
or_assoc false b c = refl

or_none : (a : Bool) → (a || false) ≡ a
or_none true = refl
or_none false = refl

all_false : (a b c d : Bool) → b ≡ false → c ≡ false → d ≡ false → (((a && b) || c) || d) ≡ false
all_false true b c d e f g = ap₂ (λ x y. (x || y) || d) e f ∙ g
all_false false b c d e f g = ap (λ y. y || d) f ∙ g

pub from_origin : (o : Order) (entries : List Entry) (n m q : ℕ) → n ≡ m → n ≢ 0 → origin_reaches o entries n q ≡ reaches o entries (m - 1) q
from_origin o entries n m q e some =
    ap (λ b. cond b false (reaches o entries (n - 1) q)) (zero_eqb n some) ∙ ap (λ k. reaches o entries (k - 1) q) e

module _ (o : Order) (entries : List Entry) (tasks : Tasks) (n : ℕ) (clocks : Lanes) (are : AreTasks entries tasks) (told : AreLanes o entries tasks n clocks) (long : n ≤ length entries) (p : ℕ) (inside : p < n) where
  abbrev below : ℕ → Bool
  below q = is_below clocks (row_at clocks p) (lane clocks p) p q

  -- of all steps it reaches what its lane, its row, or what generates its task says
  pub told_all : (q : ℕ) → q < n → reaches o entries p q ≡ (below q || origin_reaches o entries (origin tasks p) q)
  told_all q m = by (cases_order q p)
    where
      here : q ≡ p → reaches o entries p q ≡ (below q || origin_reaches o entries (origin tasks p) q)
      here e =
          or_left (p == q) _ (eq-eqb p q (sym e))
          ∙ sym (or_left (below q) _ (or_left (lane clocks p == lane clocks q && nat_le q p) _ (and_from (lane clocks p == lane clocks q) (nat_le q p) (eq-eqb (lane clocks p) (lane clocks q) (ap (lane clocks) (sym e))) (le-leb q p (omega (arith, e))))))

      front : q < p → reaches o entries p q ≡ (below q || origin_reaches o entries (origin tasks p) q)
      front l =
          told.told p inside q l
          ∙ ap (λ b. (lane clocks p == lane clocks q && b) || (says (row_at clocks p) (lane clocks q) q || origin_reaches o entries (origin tasks p) q)) (lt-ltb q p l ∙ sym (le-leb q p (omega (arith, l))))
          ∙ sym (or_assoc (lane clocks p == lane clocks q && nat_le q p) (says (row_at clocks p) (lane clocks q) q) (origin_reaches o entries (origin tasks p) q))

      behind : p < q → reaches o entries p q ≡ (below q || origin_reaches o entries (origin tasks p) q)
      behind l =
          not_reached o entries p q l (omega (arith, m, long))
          ∙ sym
          (all_false (lane clocks p == lane clocks q) (nat_le q p) (says (row_at clocks p) (lane clocks q) q) (origin_reaches o entries (origin tasks p) q)
          (false_from_ne_true (nat_le q p) (λ h. omega (arith, leb-true q p h, l)))
          (false_from_ne_true (says (row_at clocks p) (lane clocks q) q) (λ h. omega (arith, told.low p inside (lane clocks q) q h, l)))
          (not_from_origin o entries (origin tasks p) q (omega (arith, are.shaped.low p (omega (arith, inside, long, are.numbers_listed)), l)) (omega (arith, m, long))))

      by : (q ≡ p) ⊎ ((q < p) ⊎ (p < q)) → reaches o entries p q ≡ (below q || origin_reaches o entries (origin tasks p) q)
      by (inl e) = here e
      by (inr (inl l)) = front l
      by (inr (inr l)) = behind l

  -- ---- the way up

  module _ (q : ℕ) (early : q < n) where
    pub reached_below : below q ≡ true → reaches o entries p q ≡ true
    reached_below h = told_all q early ∙ or_left (below q) _ h

    pub reached_above : below q ≡ false → origin tasks p ≢ 0 → reaches o entries p q ≡ reaches o entries (origin tasks p - 1) q
    reached_above h some = told_all q early ∙ or_if (below q) _ h ∙ from_origin o entries (origin tasks p) (origin tasks p) q refl some

    pub reached_not : below q ≡ false → origin tasks p ≡ 0 → reaches o entries p q ≡ false
    reached_not h none = told_all q early ∙ or_if (below q) _ h ∙ origin_none o entries (origin tasks p) q none

  -- ---- what it reaches, joined to bounds

  pub joined : (q : ℕ) → q < n → (b : Bool) (next : ℕ → ℕ) → says next (lane clocks q) q ≡ (b || adds clocks p (lane clocks q) q)
      → (says next (lane clocks q) q || origin_reaches o entries (origin tasks p) q) ≡ (b || reaches o entries p q)
  joined q m b next h =
      ap (λ a. a || origin_reaches o entries (origin tasks p) q) h
      ∙ or_assoc b (below q) (origin_reaches o entries (origin tasks p) q)
      ∙ ap (λ a. b || a) (sym (told_all q m))

  -- what is added isn't after it
  pub adds_low : (m : ℕ) → p < m → (k q : ℕ) → adds clocks p k q ≡ true → q < m
  adds_low m l k q s =
      ⊎_elim (λ b. omega (arith, leb-true q p (and_parts (lane clocks p == k) (nat_le q p) b).1, l)) (λ b. omega (arith, told.low p inside k q b, l))
      (or_cases (lane clocks p == k && nat_le q p) (says (row_at clocks p) k q) s)

  pub low_more : (m : ℕ) → p < m → (old next : ℕ → ℕ) → ((k q : ℕ) → says next k q ≡ (says old k q || adds clocks p k q)) → IsLow old m → IsLow next m
  low_more m l old next h small k q s = ⊎_elim (λ a. small k q a) (λ a. adds_low m l k q a) (or_cases (says old k q) (adds clocks p k q) (sym (h k q) ∙ s))

pub joined_up : (o : Order) (entries : List Entry) (n m q : ℕ) (b : Bool) → n ≡ m → n ≢ 0 → (b || reaches o entries (m - 1) q) ≡ (b || origin_reaches o entries n q)
joined_up o entries n m q b e some = ap (λ r. b || r) (sym (from_origin o entries n m q e some))

pub joined_end : (o : Order) (entries : List Entry) (n q : ℕ) (b : Bool) → n ≡ 0 → b ≡ (b || origin_reaches o entries n q)
joined_end o entries n q b none = sym (ap (λ r. b || r) (origin_none o entries n q none) ∙ or_none b)

-- ---- all that is added

module _ (o : Order) (entries : List Entry) (tasks : Tasks) (p : ℕ) (w : p < length entries) (clocks : Lanes) (k s : ℕ) (row more next : ℕ → ℕ) (small : IsLow row p) (more_small : IsLow more p)
    (both : (j q : ℕ) → says next j q ≡ (says row j q || says more j q)) where
  abbrev Told : (ℕ → ℕ) → ℕ → Type 0
  Told r q = is_told o entries tasks clocks r k p q ≡ true

  -- what was listed stays so
  kept_told : (q : ℕ) → Told row q → Told next q
  kept_told q h =
      ⊎_elim (λ a. or_left (k == lane clocks q && nat_lt q p) _ a)
      (λ a.
      or_right (k == lane clocks q && nat_lt q p) _
      (⊎_elim (λ b. or_left (says next (lane clocks q) q) _ (both (lane clocks q) q ∙ or_left (says row (lane clocks q) q) _ b)) (λ b. or_right (says next (lane clocks q) q) _ b)
      (or_cases (says row (lane clocks q) q) (origin_reaches o entries (origin tasks p) q) a)))
      (or_cases (k == lane clocks q && nat_lt q p) _ h)

  low_both : IsLow next p
  low_both j q h = ⊎_elim (λ a. small j q a) (λ a. more_small j q a) (or_cases (says row j q) (says more j q) (sym (both j q) ∙ h))

  -- what is left to the index `at` is listed already, or nothing is left
  pub adds_up : (at : ℕ) → ((q : ℕ) → q < p → (says more (lane clocks q) q || reaches o entries at q) ≡ reaches o entries s q) → at < p → IsSound o entries tasks clocks row k p → Told row at → Adds o entries tasks clocks k p s row next
  adds_up at same l so told = record {
    kept = λ j q h. both j q ∙ or_left (says row j q) _ h;
    reached = λ q m h.
        ⊎_elim (λ a. or_right (k == lane clocks q && nat_lt q p) _ (or_left (says next (lane clocks q) q) _ (both (lane clocks q) q ∙ or_right (says row (lane clocks q) q) _ a)))
        (λ a. kept_told q (on q m (or_cases (at == q) (is_after o entries at q) a)))
        (or_cases (says more (lane clocks q) q) (reaches o entries at q) (same q m ∙ h));
    sound = λ q m h. ⊎_elim (λ a. inl a) (λ a. inr (sym (same q m) ∙ or_left (says more (lane clocks q) q) _ a)) (or_cases (says row (lane clocks q) q) (says more (lane clocks q) q) (sym (both (lane clocks q) q) ∙ h));
    low = low_both;
  }
    where
      on : (q : ℕ) → q < p → ((at == q) ≡ true) ⊎ (is_after o entries at q ≡ true) → Told row q
      on q m (inl e) = subst (Told row) (eqb-true at q e) told
      on q m (inr a) = so.closed at q l m told a

  pub adds_all : ((q : ℕ) → q < p → says more (lane clocks q) q ≡ reaches o entries s q) → Adds o entries tasks clocks k p s row next
  adds_all same = record {
    kept = λ j q h. both j q ∙ or_left (says row j q) _ h;
    reached = λ q m h. or_right (k == lane clocks q && nat_lt q p) _ (or_left (says next (lane clocks q) q) _ (both (lane clocks q) q ∙ or_right (says row (lane clocks q) q) _ (same q m ∙ h)));
    sound = λ q m h. ⊎_elim (λ a. inl a) (λ a. inr (sym (same q m) ∙ a)) (or_cases (says row (lane clocks q) q) (says more (lane clocks q) q) (sym (both (lane clocks q) q) ∙ h));
    low = low_both;
  }
