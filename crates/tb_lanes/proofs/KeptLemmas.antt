-- What is stored of each cell and of the output has the newest step with which a later one races.
use Rattle.std.proofs.Common.{◌≡◌, ◌≢◌, ◌<◌, ◌≤◌, ◌+◌, ◌-◌, ℕ, suc, List, [], ◌∷◌, ◌++◌, Bool, true, false, not, ◌||◌, ◌&&◌, cond, length, take, refl, sym, ap, ap₂, ◌∙◌, subst, arith, Option, Some, None, is_some, get_or, slice_get, ◌⊎◌, inl, inr, ⊎_elim, map, set, get_or-set_same, get_or-set_other, Vec, Global}
use Rattle.std.proofs.lemmas.Bool.{and_parts, and_from, or_left, or_right, false≢true, true_from_ne_false, both_ways, cases_eq, cases_lt, eq-eqb, ne_eqb}
use Rattle.std.proofs.lemmas.List.{get_or-take, get_or_append_left, length-take, length-append, map-set, length-map, get_or-map}
use Rattle.std.proofs.Math.Seq.{get_or-append_seam}
use Rattle.std.proofs.lemmas.Option.{slice_get_read}
use Rattle.tb_steps.specs.Entries.{Entry}
use Rattle.tb_races.specs.Orders.{Order}
use Rattle.tb_lanes.specs.Clocks.{kept_in, reaches}
use Rattle.tb_lanes.specs.Kept.{AreRows, IsCovered, IsCut, IsLarger, IsNewest, IsRow, in_so, is_in, is_in_at, is_load, loads_at, loads_so, newest_of, shares_at, shares_so, slot_of}
use Rattle.tb_lanes.proofs.AfterLemmas.{at, at_read, reached, reaches_so, reach_on}
use Rattle.tb_lanes.proofs.ClockLemmas.{zero_eqb}
use Rattle.tb_lanes.proofs.SharingLemmas.{shared_told, shared_none, in_slot, in_no_slot}
use Rattle.tb_steps.proofs.FirstLemmas.{some_same}

-- ---- tables of rows

pub kept_read : {A : Type 0} (rows : List (Vec A Global)) (i : ℕ) (v : Vec A Global) → i < length rows → v ≡ get_or rows i v → v.items ≡ kept_in rows i
kept_read {A} rows i v low is =
    let items = λ (x : Vec A Global). x.items in
    ap items is ∙ sym (get_or-map items rows i v [] low)

pub kept_here : (rows : List (Vec ℕ Global)) (i : ℕ) (v : Vec ℕ Global) → i < length rows → kept_in (set rows i v) i ≡ v.items
kept_here rows i v low =
    let items = λ (x : Vec ℕ Global). x.items in
    ap (λ (xs : List (List ℕ)). get_or xs i []) (map-set items rows i v)
    ∙ get_or-set_same (map items rows) i v.items [] (omega (arith, low, length-map rows items))

pub kept_other : (rows : List (Vec ℕ Global)) (i j : ℕ) (v : Vec ℕ Global) → j ≢ i → kept_in (set rows i v) j ≡ kept_in rows j
kept_other rows i j v other =
    let items = λ (x : Vec ℕ Global). x.items in
    ap (λ (xs : List (List ℕ)). get_or xs j []) (map-set items rows i v) ∙ get_or-set_other (map items rows) i j v.items [] other

-- nothing is stored at first
row_none : (entries : List Entry) (i : ℕ) (loads : Bool) → IsRow entries 0 i loads []
row_none entries i loads = record {
  low = λ j l. absurd (omega (arith, l));
  sharing = λ j l. absurd (omega (arith, l));
  loading = λ j l. absurd (omega (arith, l));
  rising = λ j k l m. absurd (omega (arith, m));
}

pub kept_none : (o : Order) (entries : List Entry) (i : ℕ) (writes loads : List ℕ) → writes ≡ [] → loads ≡ [] → AreRows o entries 0 i writes loads
kept_none o entries i writes loads a b = record {
  writes_in = subst (IsRow entries 0 i false) (sym a) (row_none entries i false);
  loads_in = subst (IsRow entries 0 i true) (sym b) (row_none entries i true);
  writes_left = λ x k. absurd (omega (arith, k));
  loads_left = λ x k. absurd (omega (arith, k));
}

-- ---- one row

module _ (row : List ℕ) (count n : ℕ) (few : count ≤ length row) where
  abbrev more : List ℕ
  more = take count row ++ n ∷ []

  cut_length : length (take count row) ≡ count
  cut_length = omega (arith, few, length-take count row)

  cut_here : (j : ℕ) → j < count → get_or (take count row) j 0 ≡ get_or row j 0
  cut_here j l = get_or-take count row j 0 l

  more_here : (j : ℕ) → j < count → get_or more j 0 ≡ get_or row j 0
  more_here j l = get_or_append_left (take count row) (n ∷ []) 0 j (omega (arith, l, cut_length)) ∙ cut_here j l

  more_last : get_or more count 0 ≡ n
  more_last = subst (λ m. get_or more m 0 ≡ n) cut_length (get_or-append_seam (take count row) n [] 0)

  -- the indexes of the new row
  abbrev Place : ℕ → Type 0
  Place j = ((j < count) × (get_or more j 0 ≡ get_or row j 0)) ⊎ ((j ≡ count) × (get_or more j 0 ≡ n))

  place : (j : ℕ) → j < length more → Place j
  place j l = by (cases_eq j count)
    where
      by : (j ≡ count) ⊎ (j ≢ count) → Place j
      by (inl e) = inr (e, ap (λ m. get_or more m 0) e ∙ more_last)
      by (inr d) = let k : j < count = omega (arith, l, d, cut_length, length-append (take count row) (n ∷ [])) in inl (k, more_here j k)

  top_none : count ≡ 0 → newest_of row count ≡ 0
  top_none e = ap (λ b. cond b 0 (suc (get_or row (count - 1) 0))) (eq-eqb count 0 e)

  top_some : count ≢ 0 → newest_of row count ≡ suc (get_or row (count - 1) 0)
  top_some d = ap (λ b. cond b 0 (suc (get_or row (count - 1) 0))) (zero_eqb count d)

module _ (o : Order) (entries : List Entry) (n : ℕ) (w : n < length entries) (i : ℕ) where
  -- n comes after what comes before one that comes before n
  past : (y x : ℕ) → y < n → x < n → reaches o entries n y ≡ true → reaches o entries y x ≡ true → reaches o entries n x ≡ true
  past y x l m h g =
      reaches_so o entries n x (reach_on o entries n y x (reached o entries n y w (omega (arith, l, w)) h) (reached o entries y x (omega (arith, l, w)) (omega (arith, m, w)) g))

  module _ (loads : Bool) (row : List ℕ) (is : IsRow entries n i loads row) where
    row_same : IsRow entries (n + 1) i loads row
    row_same = record {
      low = λ j l. omega (arith, is.low j l);
      sharing = is.sharing;
      loading = is.loading;
      rising = is.rising;
    }

    module _ (count : ℕ) (few : count ≤ length row) where
      row_less : IsRow entries (n + 1) i loads (take count row)
      row_less = record {
        low = λ j l. omega (arith, cut_here row count n few j (inside j l), is.low j (omega (arith, inside j l, few)));
        sharing = λ j l. subst (λ y. is_in_at entries i y ≡ true) (sym (cut_here row count n few j (inside j l))) (is.sharing j (omega (arith, inside j l, few)));
        loading = λ j l. subst (λ y. loads_at entries y ≡ loads) (sym (cut_here row count n few j (inside j l))) (is.loading j (omega (arith, inside j l, few)));
        rising = λ j k l m.
            omega (arith, cut_here row count n few j (omega (arith, l, inside k m)), cut_here row count n few k (inside k m), is.rising j k l (omega (arith, inside k m, few)));
      }
        where
          inside : (j : ℕ) → j < length (take count row) → j < count
          inside j l = omega (arith, l, cut_length row count n few)

      row_more : is_in_at entries i n ≡ true → loads_at entries n ≡ loads → IsRow entries (n + 1) i loads (take count row ++ n ∷ [])
      row_more sharing loading = record {
        low = λ j l. ⊎_elim (λ e. omega (arith, e.1, is.low j (omega (arith, e.0, few)))) (λ e. omega (arith, e.1)) (place row count n few j l);
        sharing = λ j l.
            ⊎_elim (λ e. subst (λ y. is_in_at entries i y ≡ true) (sym e.1) (is.sharing j (omega (arith, e.0, few))))
            (λ e. subst (λ y. is_in_at entries i y ≡ true) (sym e.1) sharing) (place row count n few j l);
        loading = λ j l.
            ⊎_elim (λ e. subst (λ y. loads_at entries y ≡ loads) (sym e.1) (is.loading j (omega (arith, e.0, few))))
            (λ e. subst (λ y. loads_at entries y ≡ loads) (sym e.1) loading) (place row count n few j l);
        rising = λ j k l m. ⊎_elim (λ e. before j k l e.0 e.1) (λ e. last j k l e.0 e.1) (place row count n few k m);
      }
        where
          before : (j k : ℕ) → j < k → k < count → get_or (take count row ++ n ∷ []) k 0 ≡ get_or row k 0
              → get_or (take count row ++ n ∷ []) j 0 < get_or (take count row ++ n ∷ []) k 0
          before j k l m e = omega (arith, e, more_here row count n few j (omega (arith, l, m)), is.rising j k l (omega (arith, m, few)))

          last : (j k : ℕ) → j < k → k ≡ count → get_or (take count row ++ n ∷ []) k 0 ≡ n
              → get_or (take count row ++ n ∷ []) j 0 < get_or (take count row ++ n ∷ []) k 0
          last j k l m e = omega (arith, e, more_here row count n few j (omega (arith, l, m)), is.low j (omega (arith, l, m, few)))

      -- ---- what isn't in the row any more

      module _ (passed : (j : ℕ) → count ≤ j → j < length row → reaches o entries n (get_or row j 0) ≡ true) where
        cut : (x : ℕ) → x < n → IsCovered o entries x row → IsCovered o entries x (take count row) ⊎ (reaches o entries n x ≡ true)
        cut x l h = by (cases_lt h.0 count)
          where
            by : (h.0 < count) ⊎ (count ≤ h.0) → IsCovered o entries x (take count row) ⊎ (reaches o entries n x ≡ true)
            by (inl a) =
                let e = cut_here row count n few h.0 a in
                inl (h.0, omega (arith, a, cut_length row count n few), omega (arith, e, h.2), subst (λ y. reaches o entries y x ≡ true) (sym e) h.3)
            by (inr b) = inr (past (get_or row h.0 0) x (is.low h.0 h.1) l (passed h.0 b h.1) h.3)

        -- one that isn't in front of n, and isn't newer than it, is behind the last
        above : (x : ℕ) → x < n → reaches o entries n x ≡ false → IsCovered o entries x row → newest_of row count ≤ x → ⊥
        above x m none h l = by (cases_lt h.0 count)
          where
            by : (h.0 < count) ⊎ (count ≤ h.0) → ⊥
            by (inr b) = both_ways (reaches o entries n x) none (past (get_or row h.0 0) x (is.low h.0 h.1) m (passed h.0 b h.1) h.3)
            by (inl a) = last (cases_eq h.0 (count - 1))
              where
                top : newest_of row count ≡ suc (get_or row (count - 1) 0)
                top = top_some row count n few (λ z. omega (arith, z, a))

                last : (h.0 ≡ count - 1) ⊎ (h.0 ≢ count - 1) → ⊥
                last (inl e) = omega (arith, l, top, h.2, ap (λ m. get_or row m 0) e)
                last (inr d) = omega (arith, l, top, h.2, is.rising h.0 (count - 1) (omega (arith, a, d)) (omega (arith, a, few)))

      kept_on : (x : ℕ) → IsCovered o entries x (take count row) → IsCovered o entries x (take count row ++ n ∷ [])
      kept_on x h =
          let a : h.0 < count = omega (arith, h.1, cut_length row count n few) in
          let e = more_here row count n few h.0 a ∙ sym (cut_here row count n few h.0 a) in
          (h.0, omega (arith, a, cut_length row count n few, length-append (take count row) (n ∷ [])), omega (arith, e, h.2), subst (λ y. reaches o entries y x ≡ true) (sym e) h.3)

      last_on : (x : ℕ) → x ≤ n → reaches o entries n x ≡ true → IsCovered o entries x (take count row ++ n ∷ [])
      last_on x l h =
          let e = more_last row count n few in
          (count, omega (arith, cut_length row count n few, length-append (take count row) (n ∷ [])), omega (arith, e, l), subst (λ y. reaches o entries y x ≡ true) (sym e) h)

  itself : (x : ℕ) → x ≡ n → reaches o entries n x ≡ true
  itself x e = reaches_so o entries n x (inl (sym e))

  -- ---- one step more

  module _ (writes loads : List ℕ) (is : AreRows o entries n i writes loads) where
    pub kept_same : is_in_at entries i n ≡ false → AreRows o entries (n + 1) i writes loads
    kept_same other = record {
      writes_in = row_same false writes is.writes_in;
      loads_in = row_same true loads is.loads_in;
      writes_left = λ x k s t. is.writes_left x (older x k s) s t;
      loads_left = λ x k s t. is.loads_left x (older x k s) s t;
    }
      where
        older : (x : ℕ) → x < n + 1 → is_in_at entries i x ≡ true → x < n
        older x k s = ⊎_elim (λ e. absurd (both_ways (is_in_at entries i n) other (subst (λ y. is_in_at entries i y ≡ true) e s))) (λ d. omega (arith, k, d)) (cases_eq x n)

    module _ (sharing : is_in_at entries i n ≡ true) (many : ℕ) (few : many ≤ length loads)
        (passed : (j : ℕ) → many ≤ j → j < length loads → reaches o entries n (get_or loads j 0) ≡ true) where
      pub kept_load : loads_at entries n ≡ true → AreRows o entries (n + 1) i writes (take many loads ++ n ∷ [])
      kept_load it = record {
        writes_in = row_same false writes is.writes_in;
        loads_in = row_more true loads is.loads_in many few sharing it;
        writes_left = λ x k s t. is.writes_left x (older x k t) s t;
        loads_left = λ x k s t. left x s t (cases_eq x n) k;
      }
        where
          older : (x : ℕ) → x < n + 1 → loads_at entries x ≡ false → x < n
          older x k t = ⊎_elim (λ e. absurd (both_ways (loads_at entries n) (subst (λ y. loads_at entries y ≡ false) e t) it)) (λ d. omega (arith, k, d)) (cases_eq x n)

          left : (x : ℕ) → is_in_at entries i x ≡ true → loads_at entries x ≡ true → (x ≡ n) ⊎ (x ≢ n) → x < n + 1
              → IsCovered o entries x writes ⊎ IsCovered o entries x (take many loads ++ n ∷ [])
          left x s t (inl e) k = inr (last_on true loads is.loads_in many few x (omega (arith, e)) (itself x e))
          left x s t (inr d) k =
              let l : x < n = omega (arith, k, d) in
              ⊎_elim (λ a. inl a)
              (λ b.
              ⊎_elim (λ c. inr (kept_on true loads is.loads_in many few x c)) (λ c. inr (last_on true loads is.loads_in many few x (omega (arith, k)) c))
              (cut true loads is.loads_in many few passed x l b))
              (is.loads_left x l s t)

      module _ (count : ℕ) (less : count ≤ length writes)
          (gone : (j : ℕ) → count ≤ j → j < length writes → reaches o entries n (get_or writes j 0) ≡ true) where
        pub kept_write : loads_at entries n ≡ false → AreRows o entries (n + 1) i (take count writes ++ n ∷ []) (take many loads)
        kept_write it = record {
          writes_in = row_more false writes is.writes_in count less sharing it;
          loads_in = row_less true loads is.loads_in many few;
          writes_left = λ x k s t. left x s t (cases_eq x n) k;
          loads_left = λ x k s t. let l = older x k t in covered x l (is.loads_left x l s t);
        }
          where
            older : (x : ℕ) → x < n + 1 → loads_at entries x ≡ true → x < n
            older x k t = ⊎_elim (λ e. absurd (both_ways (loads_at entries n) it (subst (λ y. loads_at entries y ≡ true) e t))) (λ d. omega (arith, k, d)) (cases_eq x n)

            on : (x : ℕ) → x < n → IsCovered o entries x writes → IsCovered o entries x (take count writes ++ n ∷ [])
            on x l a =
                ⊎_elim (λ c. kept_on false writes is.writes_in count less x c) (λ c. last_on false writes is.writes_in count less x (omega (arith, l)) c)
                (cut false writes is.writes_in count less gone x l a)

            left : (x : ℕ) → is_in_at entries i x ≡ true → loads_at entries x ≡ false → (x ≡ n) ⊎ (x ≢ n) → x < n + 1
                → IsCovered o entries x (take count writes ++ n ∷ [])
            left x s t (inl e) k = last_on false writes is.writes_in count less x (omega (arith, e)) (itself x e)
            left x s t (inr d) k = let l : x < n = omega (arith, k, d) in on x l (is.writes_left x l s t)

            covered : (x : ℕ) → x < n → IsCovered o entries x writes ⊎ IsCovered o entries x loads
                → IsCovered o entries x (take count writes ++ n ∷ []) ⊎ IsCovered o entries x (take many loads)
            covered x l (inl a) = inl (on x l a)
            covered x l (inr b) =
                ⊎_elim (λ c. inr c) (λ c. inl (last_on false writes is.writes_in count less x (omega (arith, l)) c))
                (cut true loads is.loads_in many few passed x l b)

    -- ---- the newest

    abbrev Sharing : ℕ → Type 0
    Sharing x = shares_at entries n x ≡ true

    pub record IsCandidate (m : ℕ) : Type 0 where
      within : m ≤ n
      unordered : 0 < m → reaches o entries n (m - 1) ≡ false
      shares : 0 < m → Sharing (m - 1)

    pub newest_is : (m : ℕ) → IsCandidate m → ((x : ℕ) → m ≤ x → x < n → Sharing x → reaches o entries n x ≡ true) → IsNewest o entries n m
    newest_is m c h = record { within = c.within; unordered = c.unordered; shares = c.shares; newest = h }

    module _ (loading : Bool) (row : List ℕ) (in_row : IsRow entries n i loading row) (count : ℕ) (few : count ≤ length row)
        (sharing : (x : ℕ) → x < n → is_in_at entries i x ≡ true → loads_at entries x ≡ loading → Sharing x)
        (last : 0 < count → reaches o entries n (get_or row (count - 1) 0) ≡ false)
      where
        pub candidate : IsCandidate (newest_of row count)
        candidate = by (cases_eq count 0)
          where
            by : (count ≡ 0) ⊎ (count ≢ 0) → IsCandidate (newest_of row count)
            by (inl e) =
                let z = top_none row count n few e in record {
                  within = omega (arith, z);
                  unordered = λ l. absurd (omega (arith, z, l));
                  shares = λ l. absurd (omega (arith, z, l));
                }
            by (inr d) =
                let top = top_some row count n few d in
                let inside : count - 1 < length row = omega (arith, d, few) in
                let one : newest_of row count - 1 ≡ get_or row (count - 1) 0 = omega (arith, top) in
                let low = in_row.low (count - 1) inside in record {
                  within = omega (arith, top, low);
                  unordered = λ l. subst (λ y. reaches o entries n y ≡ false) (sym one) (last (omega (arith, d)));
                  shares = λ l. subst (λ y. Sharing y) (sym one) (sharing (get_or row (count - 1) 0) low (in_row.sharing (count - 1) inside) (in_row.loading (count - 1) inside));
                }

    -- ---- with which n races

    module _ (sharing : (x : ℕ) → x < n → shares_at entries n x ≡ (is_in_at entries i x && (not (loads_at entries n) || not (loads_at entries x))))
        (count many : ℕ) (less : count ≤ length writes) (few : many ≤ length loads)
        (gone : (j : ℕ) → count ≤ j → j < length writes → reaches o entries n (get_or writes j 0) ≡ true) (passed : (j : ℕ) → many ≤ j → j < length loads → reaches o entries n (get_or loads j 0) ≡ true)
        (last : 0 < count → reaches o entries n (get_or writes (count - 1) 0) ≡ false) (end : 0 < many → reaches o entries n (get_or loads (many - 1) 0) ≡ false)
      where
        abbrev write : ℕ
        write = newest_of writes count

        abbrev load : ℕ
        load = newest_of loads many

        with_write : (x : ℕ) → x < n → is_in_at entries i x ≡ true → loads_at entries x ≡ false → Sharing x
        with_write x l s t = sharing x l ∙ and_from (is_in_at entries i x) _ s (or_right (not (loads_at entries n)) _ (ap not t))

        no_write : (x : ℕ) → write ≤ x → x < n → is_in_at entries i x ≡ true → loads_at entries x ≡ false → reaches o entries n x ≡ true
        no_write x l m s t =
            true_from_ne_false (reaches o entries n x) (λ h.
            above false writes is.writes_in count less gone x m h (is.writes_left x m s t) l)

        writes_candidate : IsCandidate write
        writes_candidate = candidate false writes is.writes_in count less with_write last

        pub newest_for_load : loads_at entries n ≡ true → IsNewest o entries n write
        newest_for_load it = newest_is write writes_candidate (λ x l m s.
            let parts = and_parts (is_in_at entries i x) _ (sym (sharing x m) ∙ s) in
            no_write x l m parts.0 (not_loading (loads_at entries n) (loads_at entries x) it parts.1))
          where
            not_loading : (a b : Bool) → a ≡ true → (not a || not b) ≡ true → b ≡ false
            not_loading true false e h = refl
            not_loading true true e h = sym h
            not_loading false b e h = absurd (false≢true e)

        pub newest_for_write : loads_at entries n ≡ false → (m : ℕ) → IsLarger write load m → IsNewest o entries n m
        newest_for_write it m larger = by larger
          where
            with_load : (x : ℕ) → x < n → is_in_at entries i x ≡ true → loads_at entries x ≡ true → Sharing x
            with_load x l s t = sharing x l ∙ and_from (is_in_at entries i x) _ s (or_left (not (loads_at entries n)) _ (ap not it))

            none : (x : ℕ) → write ≤ x → load ≤ x → x < n → Sharing x → (b : Bool) → loads_at entries x ≡ b → reaches o entries n x ≡ true
            none x l k m s false t = no_write x l m (and_parts (is_in_at entries i x) _ (sym (sharing x m) ∙ s)).0 t
            none x l k m s true t =
                true_from_ne_false (reaches o entries n x) (λ h.
                ⊎_elim (λ a. above false writes is.writes_in count less gone x m h a l) (λ b. above true loads is.loads_in many few passed x m h b k)
                (is.loads_left x m (and_parts (is_in_at entries i x) _ (sym (sharing x m) ∙ s)).0 t))

            by : IsLarger write load m → IsNewest o entries n m
            by (inl a) =
                subst (IsNewest o entries n) (sym a.0) (newest_is write writes_candidate (λ x l k s. none x l (omega (arith, l, a.1)) k s (loads_at entries x) refl))
            by (inr b) =
                subst (IsNewest o entries n) (sym b.0)
                (newest_is load (candidate true loads is.loads_in many few with_load end) (λ x l k s. none x (omega (arith, l, b.1)) l k s (loads_at entries x) refl))

-- ---- what the step at n shares, by the numbers

module _ (o : Order) (entries : List Entry) (n : ℕ) (w : n < length entries) where
  abbrev v : Entry
  v = at o entries n w

  pub shares_by_number : (i : ℕ) → slot_of v.event.action ≡ Some i → (x : ℕ) → x < n
      → shares_at entries n x ≡ (is_in_at entries i x && (not (loads_at entries n) || not (loads_at entries x)))
  shares_by_number i is x l =
      let inside : x < length entries = omega (arith, l, w) in
      let u = at o entries x inside in
      ap₂ shares_so (at_read o entries n w) (at_read o entries x inside)
      ∙ shared_told v.event.action u.event.action i is
      ∙ sym (ap₂ (λ (a b : Option Entry). in_so i b && (not (loads_so a) || not (loads_so b))) (at_read o entries n w) (at_read o entries x inside))

  pub shares_nothing : slot_of v.event.action ≡ None → IsNewest o entries n 0
  shares_nothing none = record {
    within = omega arith;
    unordered = λ l. absurd (omega (arith, l));
    shares = λ l. absurd (omega (arith, l));
    newest = λ x l m s.
        let inside : x < length entries = omega (arith, m, w) in
        absurd (both_ways (shares_at entries n x) (ap₂ shares_so (at_read o entries n w) (at_read o entries x inside) ∙ ap is_some (shared_none v.event.action (at o entries x inside).event.action none)) s);
  }

-- ---- one step more, as the code finds what goes

module _ (o : Order) (entries : List Entry) (n : ℕ) (w : n < length entries) (x : Entry) (here : x ≡ get_or entries n x) where
  x_read : slice_get entries n ≡ Some x
  x_read = slice_get_read entries (length entries) n x refl w here

  same : at o entries n w ≡ x
  same = some_same _ x (sym (at_read o entries n w) ∙ x_read)

  in_here : (j : ℕ) (b : Bool) → is_in j x.event.action ≡ b → is_in_at entries j n ≡ b
  in_here j b h = ap (in_so j) x_read ∙ h

  load_here : (b : Bool) → is_load x.event.action ≡ b → loads_at entries n ≡ b
  load_here b h = ap loads_so x_read ∙ h

  -- what shares nothing changes nothing
  module _ (none : slot_of x.event.action ≡ None) where
    pub none_newest : IsNewest o entries n 0
    none_newest = shares_nothing o entries n w (ap (λ (y : Entry). slot_of y.event.action) same ∙ none)

    pub none_kept : (j : ℕ) (writes loads : List ℕ) → AreRows o entries n j writes loads → AreRows o entries (n + 1) j writes loads
    none_kept j writes loads is = kept_same o entries n w j writes loads is (in_here j false (in_no_slot x.event.action j none))

  module _ (i : ℕ) (slot : slot_of x.event.action ≡ Some i) where
    -- the rows of all else stay
    pub tables_met : (writes loads new_writes new_loads : ℕ → List ℕ) → ((j : ℕ) → AreRows o entries n j (writes j) (loads j))
        → AreRows o entries (n + 1) i (new_writes i) (new_loads i)
        → ((j : ℕ) → j ≢ i → new_writes j ≡ writes j) → ((j : ℕ) → j ≢ i → new_loads j ≡ loads j) → (j : ℕ) → AreRows o entries (n + 1) j (new_writes j) (new_loads j)
    tables_met writes loads new_writes new_loads are at_i same_writes same_loads j = by (cases_eq j i)
      where
        by : (j ≡ i) ⊎ (j ≢ i) → AreRows o entries (n + 1) j (new_writes j) (new_loads j)
        by (inl e) = subst (λ k. AreRows o entries (n + 1) k (new_writes k) (new_loads k)) (sym e) at_i
        by (inr d) =
            subst (λ xs. AreRows o entries (n + 1) j xs (new_loads j)) (sym (same_writes j d))
            (subst (λ ys. AreRows o entries (n + 1) j (writes j) ys) (sym (same_loads j d))
            (kept_same o entries n w j (writes j) (loads j) (are j) (in_here j false (in_slot x.event.action i j slot ∙ ne_eqb j i d))))

    module _ (writes loads : List ℕ) (is : AreRows o entries n i writes loads) (count many : ℕ) (write : IsCut o entries n writes count)
        (load : IsCut o entries n loads many) where
      here_in : is_in_at entries i n ≡ true
      here_in = in_here i true (in_slot x.event.action i i slot ∙ eq-eqb i i refl)

      sharing : (y : ℕ) → y < n → shares_at entries n y ≡ (is_in_at entries i y && (not (loads_at entries n) || not (loads_at entries y)))
      sharing = shares_by_number o entries n w i (ap (λ (y : Entry). slot_of y.event.action) same ∙ slot)

      pub load_met : is_load x.event.action ≡ true → AreRows o entries (n + 1) i writes (take many loads ++ n ∷ [])
      load_met h = kept_load o entries n w i writes loads is here_in many load.few load.passed (load_here true h)

      pub write_met : is_load x.event.action ≡ false → AreRows o entries (n + 1) i (take count writes ++ n ∷ []) (take many loads)
      write_met h = kept_write o entries n w i writes loads is here_in many load.few load.passed count write.few write.passed (load_here false h)

      pub load_newest : is_load x.event.action ≡ true → IsNewest o entries n (newest_of writes count)
      load_newest h = newest_for_load o entries n w i writes loads is sharing count many write.few load.few write.passed load.passed write.last load.last (load_here true h)

      pub write_newest : is_load x.event.action ≡ false → (m : ℕ) → IsLarger (newest_of writes count) (newest_of loads many) m → IsNewest o entries n m
      write_newest h m larger = newest_for_write o entries n w i writes loads is sharing count many write.few load.few write.passed load.passed write.last load.last (load_here false h) m larger
