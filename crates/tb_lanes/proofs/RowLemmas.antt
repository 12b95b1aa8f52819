-- The rows of ends, as they grow.
use Rattle.std.proofs.Common.{cond, ◌≡◌, ◌≢◌, ◌<◌, ◌≤◌, ◌+◌, ◌==◌, ◌&&◌, get_or, ℕ, zero, suc, List, [], ◌∷◌, Bool, true, false, length, refl, sym, ap, ◌∙◌, subst, arith, Option, Some, None, ◌⊎◌, inl, inr, ⊎_elim, eqb-true, eq-eqb, slice_get}
use Rattle.std.proofs.lemmas.Bool.{and_parts, and_from, both_ways, cases_eq}
use Rattle.tb_model.specs.declared.item.Item.{Item}
use Rattle.tb_steps.specs.Entries.{Entry}
use Rattle.tb_races.specs.Orders.{Order}
use Rattle.tb_lanes.specs.declared.clocks.Clocks.{Clocks}
use Rattle.tb_lanes.specs.declared.ends.Ends.{Ends}
use Rattle.tb_lanes.specs.declared.tasks.Tasks.{Tasks}
use Rattle.tb_lanes.specs.Clocks.{AddsEnd, AreClocks, AreEnds, AreRow, AreTasks, IsEnd, end_at, is_end_at}
use Rattle.tb_lanes.specs.Rows.{AddsTo, AreFit, AreRows, HasKey, IsFit, IsGrown, IsNoted, IsRowOf, Key, Named, child_key, item_key, items_at, parent, row_of, same_key}
use Rattle.tb_lanes.proofs.EndLemmas.{row_more, row_none, row_same}

-- ---- keys

pub key_true : (x y : Key) → same_key x y ≡ true → x ≡ y
key_true (a, b, c) (d, e, f) h =
    let p = and_parts (a == d && b == e) (c == f) h in
    let q = and_parts (a == d) (b == e) p.0 in
    ap (λ m. (m, b, c)) (eqb-true a d q.0) ∙ (ap (λ m. (d, m, c)) (eqb-true b e q.1) ∙ ap (λ m. (d, e, m)) (eqb-true c f p.1))

pub key_refl : (x : Key) → same_key x x ≡ true
key_refl (a, b, c) = and_from (a == a && b == b) (c == c) (and_from (a == a) (b == b) (eq-eqb a a refl) (eq-eqb b b refl)) (eq-eqb c c refl)

-- x too is one of the row of this key
abbrev pub WithOne : (Key → ℕ → Type 0) → Key → ℕ → Key → ℕ → Type 0
WithOne P to x k y = P k y ⊎ ((y ≡ x) × (k ≡ to))

-- ---- all rows

module _ (o : Order) (entries : List Entry) where
  row_of_same : (P Q : ℕ → Type 0) → ((x : ℕ) → P x → Q x) → ((x : ℕ) → Q x → P x) → (r : Option Ends) → IsRowOf o entries P r → IsRowOf o entries Q r
  row_of_same P Q there back None none = λ x q. none x (back x q)
  row_of_same P Q there back (Some ends) row = row_same o entries P Q ends there back row

  pub rows_same : (P Q : Key → ℕ → Type 0) (rows : Named) → ((k : Key) (x : ℕ) → P k x → Q k x) → ((k : Key) (x : ℕ) → Q k x → P k x) → AreRows o entries P rows → AreRows o entries Q rows
  rows_same P Q rows there back are k = row_of_same (P k) (Q k) (there k) (back k) (row_of rows k) (are k)

  -- no rows, no ends
  pub rows_none : (P : Key → ℕ → Type 0) (rows : Named) → ((k : Key) → row_of rows k ≡ None) → ((k : Key) (x : ℕ) → P k x → ⊥) → AreRows o entries P rows
  rows_none P rows none nothing k = subst (IsRowOf o entries (P k)) (sym (none k)) (nothing k)

  module _ (tasks : Tasks) (are : AreTasks entries tasks) (clocks : Clocks) (p : ℕ) (told : AreClocks o entries tasks (p + 1) clocks) where
    grown : (P : ℕ → Type 0) (old new : Ends) → AreRow o entries P old → AddsEnd tasks clocks p old new → AreRow o entries (λ x. P x ⊎ (x ≡ p)) new
    grown P old new row adds = row_more p old row.tied.listed row.tied.low adds.from new adds.more adds.few adds.newest o entries row.tied (adds.reached o entries are told row.tied) P row

    row_grown : (P : ℕ → Type 0) (old new : Option Ends) → IsRowOf o entries P old → IsGrown tasks clocks p old new → IsRowOf o entries (λ x. P x ⊎ (x ≡ p)) new
    row_grown P None None row g = absurd g
    row_grown P (Some old) None row g = absurd g
    row_grown P None (Some new) none g = grown P g.0 new (row_none o entries P g.0 g.1 g.2 none) g.3
    row_grown P (Some old) (Some new) row g = grown P old new row g

    -- an end is added to the row of one key
    pub rows_more : (P : Key → ℕ → Type 0) (key : Key) (old new : Named) → AddsTo tasks clocks key p old new → AreRows o entries P old → AreRows o entries (WithOne P key p) new
    rows_more P key old new adds rows k = by (same_key key k) refl
      where
        by : (b : Bool) → same_key key k ≡ b → IsRowOf o entries (WithOne P key p k) (row_of new k)
        by true e =
            subst (λ m. IsRowOf o entries (WithOne P key p m) (row_of new m)) (key_true key k e)
            (row_of_same (λ x. P key x ⊎ (x ≡ p)) (WithOne P key p key) (λ x h. ⊎_elim (λ a. inl a) (λ a. inr (a, refl)) h) (λ x h. ⊎_elim (λ a. inl a) (λ a. inr a.0) h) (row_of new key)
            (row_grown (P key) (row_of old key) (row_of new key) (rows key) adds.here))
        by false e =
            subst (IsRowOf o entries (WithOne P key p k)) (sym (adds.others k e))
            (row_of_same (P k) (WithOne P key p k) (λ x h. inl h) (λ x h. ⊎_elim (λ a. a) (λ a. absurd (both_ways (same_key key k) e (subst (λ m. same_key m k ≡ true) a.1 (key_refl k)))) h) (row_of old k) (rows k))

  -- each row can take the next end
  pub rows_fit : (P : Key → ℕ → Type 0) (p : ℕ) (rows : Named) → ((k : Key) (x : ℕ) → P k x → x ≤ p) → AreRows o entries P rows → AreFit p rows
  rows_fit P p rows low are k ends is =
      let row : AreRow o entries (P k) ends = subst (IsRowOf o entries (P k)) is (are k) in record {
        low = λ i l. low k (end_at ends i) (row.each i l);
        listed = row.tied.listed;
        skips = row.tied.low;
      }

-- ---- the rows of one end

-- so far those of the children, and of the first items
abbrev pub SoFar : List Entry → Tasks → ℕ → ℕ → Key → ℕ → Type 0
SoFar entries tasks p n k x = IsNoted entries tasks p k x ⊎ ((x ≡ p) × HasKey (parent tasks p) (items_at entries p) n k)

module _ (entries : List Entry) (tasks : Tasks) (p : ℕ) where
  pub first_there : (k : Key) (x : ℕ) → WithOne (IsNoted entries tasks p) (child_key (parent tasks p)) p k x → SoFar entries tasks p 0 k x
  first_there k x (inl a) = inl a
  first_there k x (inr a) = inr (a.0, inl a.1)

  pub first_back : (k : Key) (x : ℕ) → SoFar entries tasks p 0 k x → WithOne (IsNoted entries tasks p) (child_key (parent tasks p)) p k x
  first_back k x (inl a) = inl a
  first_back k x (inr a) = ⊎_elim (λ b. inr (a.0, b)) (λ b. absurd (omega (arith, b.2))) a.1

  module _ (n : ℕ) (j : Item) (got : slice_get (items_at entries p) n ≡ Some j) where
    pub next_there : (k : Key) (x : ℕ) → WithOne (SoFar entries tasks p n) (item_key (parent tasks p) j.kind j.place) p k x → SoFar entries tasks p (n + 1) k x
    next_there k x (inl (inl a)) = inl a
    next_there k x (inl (inr a)) = inr (a.0, ⊎_elim (λ b. inl b) (λ b. inr (b.0, b.1, omega (arith, b.2), b.3, b.4)) a.1)
    next_there k x (inr a) = inr (a.0, inr (n, j, omega arith, got, a.1))

    pub next_back : (k : Key) (x : ℕ) → SoFar entries tasks p (n + 1) k x → WithOne (SoFar entries tasks p n) (item_key (parent tasks p) j.kind j.place) p k x
    next_back k x (inl a) = inl (inl a)
    next_back k x (inr a) = ⊎_elim (λ b. inl (inr (a.0, inl b))) (λ b. by b.0 b.1 b.2 b.3 b.4 (cases_eq b.0 n)) a.1
      where
        the : (a b : Item) → Some a ≡ Some b → a ≡ b
        the a b e = cc

        by : (i : ℕ) (y : Item) → i < n + 1 → slice_get (items_at entries p) i ≡ Some y → k ≡ item_key (parent tasks p) y.kind y.place → (i ≡ n) ⊎ (i ≢ n) → WithOne (SoFar entries tasks p n) (item_key (parent tasks p) j.kind j.place) p k x
        by i y l g e (inl s) =
            let same : y ≡ j = the y j (sym g ∙ (ap (slice_get (items_at entries p)) s ∙ got)) in
            inr (a.0, e ∙ ap (λ (z : Item). item_key (parent tasks p) z.kind z.place) same)
        by i y l g e (inr d) = inl (inr (a.0, inr (i, y, omega (arith, l, d), g, e)))

  -- with all items, the end is noted
  pub last_there : is_end_at entries p ≡ true → (k : Key) (x : ℕ) → SoFar entries tasks p (length (items_at entries p)) k x → IsNoted entries tasks (p + 1) k x
  last_there over k x (inl a) = ((omega (arith, a.0.0), a.0.1), a.1)
  last_there over k x (inr a) = by x a.0 a.1
    where
      by : (y : ℕ) → y ≡ p → HasKey (parent tasks p) (items_at entries p) (length (items_at entries p)) k → IsNoted entries tasks (p + 1) k y
      by y e h = subst (λ z. IsNoted entries tasks (p + 1) k z) (sym e) ((omega arith, over), h)

  pub last_back : (k : Key) (x : ℕ) → IsNoted entries tasks (p + 1) k x → SoFar entries tasks p (length (items_at entries p)) k x
  last_back k x a = by (cases_eq x p)
    where
      by : (x ≡ p) ⊎ (x ≢ p) → SoFar entries tasks p (length (items_at entries p)) k x
      by (inl e) = inr (e, subst (λ z. HasKey (parent tasks z) (items_at entries z) (length (items_at entries z)) k) e a.1)
      by (inr d) = inl ((omega (arith, a.0.0, d), a.0.1), a.1)

  pub end_back : is_end_at entries p ≡ false → (x : ℕ) → IsEnd entries (p + 1) x → IsEnd entries p x
  end_back none x a = by (cases_eq x p)
    where
      by : (x ≡ p) ⊎ (x ≢ p) → IsEnd entries p x
      by (inl e) = absurd (both_ways (is_end_at entries p) none (subst (λ z. is_end_at entries z ≡ true) e a.1))
      by (inr d) = (omega (arith, a.0, d), a.1)

  -- a step that is no end
  pub step_there : (k : Key) (x : ℕ) → IsNoted entries tasks p k x → IsNoted entries tasks (p + 1) k x
  step_there k x a = ((omega (arith, a.0.0), a.0.1), a.1)

  pub step_back : is_end_at entries p ≡ false → (k : Key) (x : ℕ) → IsNoted entries tasks (p + 1) k x → IsNoted entries tasks p k x
  step_back none k x a = ((end_back none x a.0), a.1)

  pub end_there : (x : ℕ) → IsEnd entries p x → IsEnd entries (p + 1) x
  end_there x a = (omega (arith, a.0), a.1)

  pub end_more : is_end_at entries p ≡ true → (x : ℕ) → IsEnd entries p x ⊎ (x ≡ p) → IsEnd entries (p + 1) x
  end_more over x (inl a) = (omega (arith, a.0), a.1)
  end_more over x (inr e) = (omega (arith, e), subst (λ z. is_end_at entries z ≡ true) (sym e) over)

  pub end_less : (x : ℕ) → IsEnd entries (p + 1) x → IsEnd entries p x ⊎ (x ≡ p)
  end_less x a = ⊎_elim (λ e. inr e) (λ d. inl (omega (arith, a.0, d), a.1)) (cases_eq x p)

pub got_here : {A : Type 0} (xs : List A) (i : ℕ) (d : A) → i < length xs → slice_get xs i ≡ Some (get_or xs i d)
got_here [] i d l = absurd (omega (arith, l))
got_here (x ∷ xs) zero d l = refl
got_here (x ∷ xs) (suc i) d l = got_here xs i d (omega (arith, l))

-- ---- a step more

module _ (o : Order) (entries : List Entry) (tasks : Tasks) (are : AreTasks entries tasks) (clocks : Clocks) (p : ℕ) (told : AreClocks o entries tasks (p + 1) clocks) where
  pub ends_more : (old new : Ends) → AreEnds o entries p old → AddsEnd tasks clocks p old new → is_end_at entries p ≡ true → AreEnds o entries (p + 1) new
  ends_more old new row adds over =
      row_same o entries (λ x. IsEnd entries p x ⊎ (x ≡ p)) (IsEnd entries (p + 1)) new (end_more entries tasks p over) (end_less entries tasks p)
      (grown o entries tasks are clocks p told (IsEnd entries p) old new row adds)

-- ---- a row is written

module _ (tasks : Tasks) (clocks : Clocks) (key : Key) (p : ℕ) (old new : Named) (v : Ends) (writes : (u : Key) → row_of new u ≡ cond (same_key key u) (Some v) (row_of old u)) where
  written : row_of new key ≡ Some v
  written = writes key ∙ ap (λ b. cond b (Some v) (row_of old key)) (key_refl key)

  adds_to : IsGrown tasks clocks p (row_of old key) (Some v) → AddsTo tasks clocks key p old new
  adds_to here = record {
    here = subst (IsGrown tasks clocks p (row_of old key)) (sym written) here;
    others = λ k e. writes k ∙ ap (λ b. cond b (Some v) (row_of old k)) e;
  }

  pub writes_row : (row : Ends) → row_of old key ≡ Some row → AddsEnd tasks clocks p row v → AddsTo tasks clocks key p old new
  writes_row row is adds = adds_to (subst (λ r. IsGrown tasks clocks p r (Some v)) (sym is) adds)

  pub inserts_row : row_of old key ≡ None → (none : Ends) → none.places.items ≡ [] → none.skips.items ≡ [] → AddsEnd tasks clocks p none v → AddsTo tasks clocks key p old new
  inserts_row is none places skips adds = adds_to (subst (λ r. IsGrown tasks clocks p r (Some v)) (sym is) (none, places, skips, adds))

  pub writes_fit : AreFit p old → IsFit p v → AreFit p new
  writes_fit fit one k ends is = by (same_key key k) refl
    where
      the : (a b : Ends) → Some a ≡ Some b → a ≡ b
      the a b e = cc

      by : (b : Bool) → same_key key k ≡ b → IsFit p ends
      by true e = subst (IsFit p) (the v ends (sym (writes k ∙ ap (λ b. cond b (Some v) (row_of old k)) e) ∙ is)) one
      by false e = fit k ends (sym (writes k ∙ ap (λ b. cond b (Some v) (row_of old k)) e) ∙ is)

-- where the map was written as it was
pub moved_writes : (key : Key) (old mid new : Named) (v : Ends) → mid ≡ old → ((u : Key) → row_of new u ≡ cond (same_key key u) (Some v) (row_of mid u)) → (u : Key) → row_of new u ≡ cond (same_key key u) (Some v) (row_of old u)
moved_writes key old mid new v same writes u = writes u ∙ ap (λ (m : Named). cond (same_key key u) (Some v) (row_of m u)) same
