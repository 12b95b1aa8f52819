-- The rows of ends, one end more.
use Rattle.std.proofs.Common.{◌≡◌, ◌≢◌, ◌<◌, ◌≤◌, ◌+◌, ℕ, zero, suc, List, [], ◌∷◌, ◌++◌, Bool, true, false, cond, length, map, refl, sym, ap, ◌∙◌, subst, arith, Option, Some, None, slice_get, ◌⊎◌, inl, inr, ⊎_elim, Vec, Global}
use Rattle.std.proofs.lemmas.Bool.{both_ways, cases_eq}
use Rattle.std.proofs.lemmas.List.{length-map, map-append}
use Rattle.tb_model.specs.declared.item.Item.{Item}
use Rattle.tb_clocks.proofs.TaskLemmas.{one_id}
use Rattle.tb_steps.specs.Scans.{history_of}
use Rattle.tb_races.specs.Orders.{Synchronised}
use Rattle.tb_lanes.specs.declared.lane_bound.LaneBound.{LaneBound}
use Rattle.tb_lanes.specs.Clocks.{Lanes, end_at, is_end_at, reaches}
use Rattle.tb_lanes.specs.Rows.{HasKey, Key, child_key, item_key, items_at, same_key}
use Rattle.tb_lanes.proofs.AfterLemmas.{at, at_read}
use Rattle.tb_lanes.proofs.EndLemmas.{passed_more, row_more, row_none, row_same}
use Rattle.tb_lanes.proofs.RowLemmas.{key_refl, key_true}
use Rattle.tb_stream.specs.declared.clocks.Clocks.{Clocks}
use Rattle.tb_stream.specs.declared.end.End.{End}
use Rattle.tb_stream.specs.declared.mark.Mark.{Mark}
use Rattle.tb_stream.specs.Ends.{AreRows, AreStored, IsChild, IsNoted, IsMeant, IsRowOf, Named, SoFar, WithOne, ends_of, row_of}
use Rattle.tb_stream.specs.Seen.{IsAdded, IsFull, Run, order}
use Rattle.tb_stream.proofs.ListLemmas.{map_read, the_same}

get_put : (xs : List End) (y : End) (j : ℕ) (e : End) → slice_get (xs ++ y ∷ []) j ≡ Some e → (slice_get xs j ≡ Some e) ⊎ (e ≡ y)
get_put [] y zero e g = inr (sym (the_same y e g))
get_put [] y (suc j) e g = absurd (none g)
  where
    none : ◌≡◌ {A = Option End} None (Some e) → ⊥
    none h = cc
get_put (x ∷ xs) y zero e g = inl g
get_put (x ∷ xs) y (suc j) e g = get_put xs y j e g

-- ---- one row

module _ (r : Run) (m : ℕ) (lanes : Lanes) (rows : List (Vec LaneBound Global)) where
  pub stored_so : (P Q : ℕ → Type 0) → ((x : ℕ) → P x → Q x) → ((x : ℕ) → Q x → P x) → (ends : Vec End Global) → AreStored r m lanes rows P ends
      → AreStored r m lanes rows Q ends
  stored_so P Q there back ends a = record { are = row_same (order r) r.entries P Q (ends_of ends) there back a.are; full = a.full }

  row_so : (P Q : ℕ → Type 0) → ((x : ℕ) → P x → Q x) → ((x : ℕ) → Q x → P x) → (o : Option (Vec End Global)) → IsRowOf r m lanes rows P o
      → IsRowOf r m lanes rows Q o
  row_so P Q there back None none = λ x q. none x (back x q)
  row_so P Q there back (Some ends) a = stored_so P Q there back ends a

  pub rows_so : (P Q : Key → ℕ → Type 0) (named : Named) → ((k : Key) (x : ℕ) → P k x → Q k x) → ((k : Key) (x : ℕ) → Q k x → P k x)
      → AreRows r m lanes rows P named → AreRows r m lanes rows Q named
  rows_so P Q named there back are k = row_so (P k) (Q k) (there k) (back k) (row_of named k) (are k)

  -- no ends
  pub stored_none : (P : ℕ → Type 0) (ends : Vec End Global) → ends.items ≡ [] → ((x : ℕ) → P x → ⊥) → AreStored r m lanes rows P ends
  stored_none P ends none nothing = record {
    are = row_none (order r) r.entries P (ends_of ends) (ap (map (λ (e : End). e.mark.at)) none) (ap (map (λ (e : End). e.skip)) none) nothing;
    full = λ i e g. absurd (no i e (sym (ap (λ xs. slice_get xs i) none) ∙ g));
  }
    where
      no : (i : ℕ) (e : End) → ◌≡◌ {A = Option End} None (Some e) → ⊥
      no i e h = cc

  -- a row is written
  pub rows_written : (P : Key → ℕ → Type 0) (n : ℕ) (key : Key) (old new : Named) (v : Vec End Global)
      → ((u : Key) → row_of new u ≡ cond (same_key key u) (Some v) (row_of old u)) → AreStored r m lanes rows (λ x. P key x ⊎ (x ≡ n)) v
      → AreRows r m lanes rows P old
      → AreRows r m lanes rows (WithOne P key n) new
  rows_written P n key old new v writes stored are k = by (same_key key k) refl
    where
      by : (b : Bool) → same_key key k ≡ b → IsRowOf r m lanes rows (WithOne P key n k) (row_of new k)
      by true e =
          subst (λ o. IsRowOf r m lanes rows (WithOne P key n k) o) (sym (writes k ∙ ap (λ b. cond b (Some v) (row_of old k)) e))
          (subst (λ j. AreStored r m lanes rows (WithOne P key n j) v) (key_true key k e)
          (stored_so (λ x. P key x ⊎ (x ≡ n)) (WithOne P key n key) (λ x h. ⊎_elim (λ a. inl a) (λ a. inr (a, refl)) h) (λ x h. ⊎_elim (λ a. inl a) (λ a. inr a.0) h) v stored))
      by false e =
          subst (λ o. IsRowOf r m lanes rows (WithOne P key n k) o) (sym (writes k ∙ ap (λ b. cond b (Some v) (row_of old k)) e))
          (row_so (P k) (WithOne P key n k) (λ x h. inl h) (λ x h. ⊎_elim (λ a. a) (λ a. absurd (both_ways (same_key key k) e (subst (λ j. same_key j k ≡ true) a.1 (key_refl k)))) h) (row_of old k) (are k))

-- where the map was written as it was
pub moved_writes : (key : Key) (old mid new : Named) (v : Vec End Global) → mid ≡ old
    → ((u : Key) → row_of new u ≡ cond (same_key key u) (Some v) (row_of mid u)) → (u : Key) → row_of new u ≡ cond (same_key key u) (Some v) (row_of old u)
moved_writes key old mid new v same writes u = writes u ∙ ap (λ (m : Named). cond (same_key key u) (Some v) (row_of m u)) same

-- ---- one end more

module _ (r : Run) (n : ℕ) (lanes : Lanes) (clocks : Clocks) (m : Mark) (added : IsAdded r n lanes clocks m) (P : ℕ → Type 0) (low : (x : ℕ) → P x → x ≤ n)
    (old : Vec End Global) (stored : AreStored r (n + 1) lanes clocks.rows.items P old) where
  count : length (ends_of old).places.items ≡ length old.items
  count = length-map old.items (λ e. e.mark.at)

  pub inside : n < length r.entries
  inside = omega (arith, added.clocks_are.within)

  newest : (i : ℕ) → i < length (ends_of old).places.items → end_at (ends_of old) i ≤ n
  newest i l = low _ (stored.are.each i l)

  -- what is skipped from one that was passed is passed
  pub passed : (i : ℕ) (e : End) → slice_get old.items i ≡ Some e → i < length old.items → reaches (order r) r.entries n e.mark.at ≡ true
      → ((j : ℕ) → i < j → j < length old.items → reaches (order r) r.entries n (end_at (ends_of old) j) ≡ true)
      → (j : ℕ) → e.skip ≤ j → j < length old.items → reaches (order r) r.entries n (end_at (ends_of old) j) ≡ true
  passed i e here l top rest j f h =
      passed_more (order r) r.entries n inside (ends_of old) stored.are.tied newest i (omega (arith, l, count))
      (subst (λ y. reaches (order r) r.entries n y ≡ true) (sym (map_read (λ (x : End). x.mark.at) old.items i e 0 here)) top)
      (λ k a b. rest k a (omega (arith, b, count))) j (omega (arith, f, map_read (λ (x : End). x.skip) old.items i e 0 here)) (omega (arith, h, count))

  pub skip_low : (i : ℕ) (e : End) → slice_get old.items i ≡ Some e → i < length old.items → e.skip ≤ i
  skip_low i e here l = omega (arith, map_read (λ (x : End). x.skip) old.items i e 0 here, stored.are.tied.low i (omega (arith, l, count)))

  module _ (new : Vec End Global) (from : ℕ) (more : new.items ≡ old.items ++ (record { mark = m; skip = from }) ∷ []) (few : from ≤ length old.items)
      (reached : (j : ℕ) → from ≤ j → j < length old.items → reaches (order r) r.entries n (end_at (ends_of old) j) ≡ true) where
    pub stored_more : AreStored r (n + 1) lanes clocks.rows.items (λ x. P x ⊎ (x ≡ n)) new
    stored_more = record {
      are = row_more n (ends_of old) stored.are.tied.listed stored.are.tied.low from (ends_of new)
          (record {
            places = ap (map (λ (e : End). e.mark.at)) more ∙ map-append (λ (e : End). e.mark.at) old.items ((record { mark = m; skip = from }) ∷ []) ∙ ap (λ y. map (λ (e : End). e.mark.at) old.items ++ y ∷ []) added.at;
            skips = ap (map (λ (e : End). e.skip)) more ∙ map-append (λ (e : End). e.skip) old.items ((record { mark = m; skip = from }) ∷ []);
          })
          (omega (arith, few, count)) newest (order r) r.entries stored.are.tied (λ j a b. reached j a (omega (arith, b, count))) P stored.are;
      full = λ i e g. ⊎_elim (λ h. stored.full i e h) (λ h. subst (IsFull r (n + 1) lanes clocks.rows.items) (sym (ap (λ (x : End). x.mark) h)) added.full)
          (get_put old.items (record { mark = m; skip = from }) i e (sym (ap (λ xs. slice_get xs i) more) ∙ g));
    }

-- ---- the rows of one end

pub meant_low : (r : Run) (n : ℕ) (meant : Option (Option (ℕ × ℕ) × Key)) (x : ℕ) → IsMeant r n meant x → x ≤ n
meant_low r n None x h = omega (arith, h.0)
meant_low r n (Some (None, k)) x h = omega (arith, h.0.0)
meant_low r n (Some (Some s, k)) x h = ⊎_elim (λ a. omega (arith, a.0.0)) (λ a. omega (arith, a.0)) h

module _ (r : Run) (n g : ℕ) where
  pub first_there : (k : Key) (x : ℕ) → WithOne (IsNoted r n) (child_key g) n k x → SoFar r n g 0 k x
  first_there k x (inl a) = inl a
  first_there k x (inr a) = inr (a.0, inl a.1)

  pub first_back : (k : Key) (x : ℕ) → SoFar r n g 0 k x → WithOne (IsNoted r n) (child_key g) n k x
  first_back k x (inl a) = inl a
  first_back k x (inr a) = ⊎_elim (λ b. inr (a.0, b)) (λ b. absurd (omega (arith, b.2))) a.1

  module _ (i : ℕ) (j : Item) (got : slice_get (items_at r.entries n) i ≡ Some j) where
    pub next_there : (k : Key) (x : ℕ) → WithOne (SoFar r n g i) (item_key g j.kind j.place) n k x → SoFar r n g (i + 1) k x
    next_there k x (inl (inl a)) = inl a
    next_there k x (inl (inr a)) = inr (a.0, ⊎_elim (λ b. inl b) (λ b. inr (b.0, b.1, omega (arith, b.2), b.3, b.4)) a.1)
    next_there k x (inr a) = inr (a.0, inr (i, j, omega arith, got, a.1))

    pub next_back : (k : Key) (x : ℕ) → SoFar r n g (i + 1) k x → WithOne (SoFar r n g i) (item_key g j.kind j.place) n k x
    next_back k x (inl a) = inl (inl a)
    next_back k x (inr a) = ⊎_elim (λ b. inl (inr (a.0, inl b))) (λ b. by b.0 b.1 b.2 b.3 b.4 (cases_eq b.0 i)) a.1
      where
        by : (c : ℕ) (y : Item) → c < i + 1 → slice_get (items_at r.entries n) c ≡ Some y → k ≡ item_key g y.kind y.place → (c ≡ i) ⊎ (c ≢ i)
            → WithOne (SoFar r n g i) (item_key g j.kind j.place) n k x
        by c y l h e (inl s) =
            let same : y ≡ j = the_same y j (sym h ∙ (ap (slice_get (items_at r.entries n)) s ∙ got)) in
            inr (a.0, e ∙ ap (λ (z : Item). item_key g z.kind z.place) same)
        by c y l h e (inr d) = inl (inr (a.0, inr (c, y, omega (arith, l, d), h, e)))

  module _ (w : n < length r.entries) (over : is_end_at r.entries n ≡ true) (child : IsChild r g n) where
    pub last_there : (k : Key) (x : ℕ) → SoFar r n g (length (items_at r.entries n)) k x → IsNoted r (n + 1) k x
    last_there k x (inl a) = ((omega (arith, a.0.0), a.0.1), a.1)
    last_there k x (inr a) = subst (λ y. IsNoted r (n + 1) k y) (sym a.0) ((omega arith, over), (g, child, a.1))

    same_parent : (h : ℕ) → IsChild r h n → h ≡ g
    same_parent h other =
        let x = at Synchronised r.entries n w in
        let read = at_read Synchronised r.entries n w in
        one_id r.legal.cells (history_of r.entries) h g _ r.legal.legal (other x read) (child x read)

    pub last_back : (k : Key) (x : ℕ) → IsNoted r (n + 1) k x → SoFar r n g (length (items_at r.entries n)) k x
    last_back k x a = by (cases_eq x n)
      where
        by : (x ≡ n) ⊎ (x ≢ n) → SoFar r n g (length (items_at r.entries n)) k x
        by (inl e) =
            let b = subst (λ y. IsNoted r (n + 1) k y) e a in
            inr (e, subst (λ h. HasKey h (items_at r.entries n) (length (items_at r.entries n)) k) (same_parent b.1.0 b.1.1) b.1.2)
        by (inr d) = inl ((omega (arith, a.0.0, d), a.0.1), a.1)

  -- a step that is no end
  pub step_there : (k : Key) (x : ℕ) → IsNoted r n k x → IsNoted r (n + 1) k x
  step_there k x a = ((omega (arith, a.0.0), a.0.1), a.1)

  pub step_back : is_end_at r.entries n ≡ false → (k : Key) (x : ℕ) → IsNoted r (n + 1) k x → IsNoted r n k x
  step_back none k x a = ⊎_elim (λ e. absurd (both_ways (is_end_at r.entries n) none (subst (λ y. is_end_at r.entries y ≡ true) e a.0.1))) (λ d. ((omega (arith, a.0.0, d), a.0.1), a.1)) (cases_eq x n)
