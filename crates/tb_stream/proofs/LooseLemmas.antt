-- Where no tasks exclude each other, what is kept by the order with exclusion is kept by the one without it.
use Rattle.std.proofs.Common.{◌≡◌, ◌≢◌, ◌<◌, ◌≤◌, ◌+◌, ◌-◌, ◌==◌, ◌∷◌, ℕ, zero, suc, List, [], false, ◌||◌, ◌&&◌, cond, length, take, map, get_or, sym, ap, ap₂, ◌∙◌, subst, arith, Option, Some, None, slice_get, Vec, Global, ◌⊎◌, inl, inr, ⊎_elim}
use Rattle.std.specs.Prelude.{nat_lt}
use Rattle.std.specs.Option.{MatchOption, IsSomeAnd}
use Rattle.std.proofs.lemmas.Bool.{cases_eq, or_parts}
use Rattle.std.proofs.lemmas.List.{length-map}
use Rattle.tb_model.specs.Names.{Name}
use Rattle.tb_model.specs.State.{items_in}
use Rattle.tb_races.specs.Orders.{Synchronised, WithExclusion}
use Rattle.tb_steps.specs.Entries.{Entry}
use Rattle.tb_steps.specs.Scans.{history_of}
use Rattle.tb_steps.proofs.ScanLemmas.{history_more}
use Rattle.tb_lanes.specs.declared.lane_bound.LaneBound.{LaneBound}
use Rattle.tb_lanes.specs.Bounds.{IsRising, bound_in}
use Rattle.tb_lanes.specs.Clocks.{AreLanes, AreRow, Lanes, end_at, lane, origin, origin_reaches, reaches, row_at, row_in, says, skip_at}
use Rattle.tb_lanes.specs.Kept as kept
use Rattle.tb_lanes.specs.Kept.{IsCovered}
use Rattle.tb_lanes.specs.Linking.{order_of}
use Rattle.tb_lanes.proofs.AfterLemmas.{at, at_is}
use Rattle.tb_stream.specs.declared.access.Access.{Access}
use Rattle.tb_stream.specs.declared.clocks.Clocks.{Clocks}
use Rattle.tb_stream.specs.declared.end.End.{End}
use Rattle.tb_stream.specs.declared.mark.Mark.{Mark}
use Rattle.tb_stream.specs.declared.touched.Touched.{Touched}
use Rattle.tb_stream.specs.Ends.{AreRows, AreStored, IsNoted, IsRowOf, Named, ends_of, row_of}
use Rattle.tb_stream.specs.Exclusion.{excludes_some, has_exclusive}
use Rattle.tb_stream.specs.Keeping.{AreAccesses, AreTouched, AreTouchedSo, places}
use Rattle.tb_stream.specs.Seen.{AreClocks, AreOfTasks, IsFull, IsMaker, IsNewest, Run, front, order}
use Rattle.tb_stream.proofs.ExclusionLemmas.{reaches_same, strict}

-- nor do those of its beginning
module _ (entries : List Entry) where
  pub none_before : (m p : ℕ) → m ≤ length entries → p ≤ m → excludes_some (history_of (take m entries)) ≡ false
      → excludes_some (history_of (take p entries)) ≡ false
  none_before m p w l h = by (cases_eq p m)
    where
      less : (k : ℕ) → k ≤ length entries → p < k → excludes_some (history_of (take k entries)) ≡ false → excludes_some (history_of (take p entries)) ≡ false
      less zero w l h = absurd (omega (arith, l))
      less (suc k) w l h =
          let inside : k < length entries = omega (arith, w) in
          let step : suc k ≡ k + 1 = omega arith in
          let more : history_of (take (suc k) entries) ≡ (at Synchronised entries k inside).event ∷ history_of (take k entries) =
          ap (λ j. history_of (take j entries)) step ∙ history_more entries k (at Synchronised entries k inside) inside (at_is Synchronised entries k inside) in
          let rest = (or_parts (has_exclusive (items_in (Some (at Synchronised entries k inside).event.action))) (excludes_some (history_of (take k entries))) (sym (ap excludes_some more) ∙ h)).1 in
          ⊎_elim (λ (e : p ≡ k). subst (λ j. excludes_some (history_of (take j entries)) ≡ false) (sym e) rest) (λ d. less k (omega (arith, w)) (omega (arith, l, d)) rest) (cases_eq p k)

      by : (p ≡ m) ⊎ (p ≢ m) → excludes_some (history_of (take p entries)) ≡ false
      by (inl e) = subst (λ j. excludes_some (history_of (take j entries)) ≡ false) (sym e) h
      by (inr d) = less m w (omega (arith, l, d)) h

module _ (r : Run) (loose : r.exclusion ≡ false) (n : ℕ) (within : n ≤ length r.entries) (none : excludes_some (front r n) ≡ false) where
  -- up to there both orders are one
  reach : (p q : ℕ) → p ≤ n → reaches (order r) r.entries p q ≡ reaches WithExclusion r.entries p q
  reach p q l = ap (λ b. reaches (order_of b) r.entries p q) loose ∙ reaches_same r.entries p q (none_before r.entries n p within l none)

  origin_same : (m q : ℕ) → m ≤ n → origin_reaches (order r) r.entries m q ≡ origin_reaches WithExclusion r.entries m q
  origin_same m q l = ap (λ b. cond (m == 0) false b) (reach (m - 1) q (omega (arith, l)))

  lanes_same : (lanes : Lanes) → AreLanes WithExclusion r.entries r.tasks n lanes → AreLanes (order r) r.entries r.tasks n lanes
  lanes_same lanes are = record {
    low = are.low;
    told = λ p l q k.
        let low : origin r.tasks p ≤ p = r.by_task.shaped.low p (omega (arith, l, within, r.by_task.numbers_listed)) in
        reach p q (omega (arith, l)) ∙ are.told p l q k
        ∙ ap (λ b. (lane lanes p == lane lanes q && nat_lt q p) || (says (row_at lanes p) (lane lanes q) q || b)) (sym (origin_same (origin r.tasks p) q (omega (arith, low, l))));
    own = are.own;
    going = are.going;
    few = are.few;
    newest = are.newest;
  }

  covered : (x : ℕ) (row : List ℕ) → ((j : ℕ) → j < length row → get_or row j 0 < n) → IsCovered WithExclusion r.entries x row
      → IsCovered (order r) r.entries x row
  covered x row low h = (h.0, h.1, h.2, reach (get_or row h.0 0) x (omega (arith, low h.0 h.1)) ∙ h.3)

  rows_covered : (i : ℕ) (writes loads : List ℕ) → kept.AreRows WithExclusion r.entries n i writes loads → kept.AreRows (order r) r.entries n i writes loads
  rows_covered i writes loads are = record {
    writes_in = are.writes_in;
    loads_in = are.loads_in;
    writes_left = λ x k s t. covered x writes are.writes_in.low (are.writes_left x k s t);
    loads_left = λ x k s t. ⊎_elim (λ a. inl (covered x writes are.writes_in.low a)) (λ b. inr (covered x loads are.loads_in.low b)) (are.loads_left x k s t);
  }

  -- ---- what is kept at a cell or at the output

  module _ (lanes : Lanes) where
    accesses : (row : List Access) → AreAccesses (strict r) n lanes row → AreAccesses r n lanes row
    accesses row are j a g = let of = are j a g in record { mark = of.mark; task = of.task; number = of.number }

    touched_same : (i : ℕ) (old new : Touched) → new.writes.items ≡ old.writes.items → new.loads.items ≡ old.loads.items
        → AreTouched (strict r) n lanes i old → AreTouched r n lanes i new
    touched_same i old new writes loads are = record {
      rows = subst (λ xs. kept.AreRows (order r) r.entries n i (places xs) (places new.loads.items)) (sym writes)
          (subst (λ xs. kept.AreRows (order r) r.entries n i (places old.writes.items) (places xs)) (sym loads) (rows_covered i (places old.writes.items) (places old.loads.items) are.rows));
      writes = subst (AreAccesses r n lanes) (sym writes) (accesses old.writes.items are.writes);
      loads = subst (AreAccesses r n lanes) (sym loads) (accesses old.loads.items are.loads);
    }

    pub touched_so : (i : ℕ) (old new : Option Touched)
        → MatchOption old (new ≡ None) (λ v. IsSomeAnd new (λ w. (w.writes.items ≡ v.writes.items) × (w.loads.items ≡ v.loads.items)))
        → AreTouchedSo (strict r) n lanes i old → AreTouchedSo r n lanes i new
    touched_so i None new m are = subst (AreTouchedSo r n lanes i) (sym m) (rows_covered i [] [] are)
    touched_so i (Some v) None m are = absurd m
    touched_so i (Some v) (Some w) m are = touched_same i v w m.0 m.1 are

    -- ---- marks, with the rows of bounds that stand for the old ones

    module _ (rows copied : List (Vec LaneBound Global))
        (same : map (λ (v : Vec LaneBound Global). v.items) copied ≡ map (λ (v : Vec LaneBound Global). v.items) rows) where
      row_same : (k : ℕ) → row_in copied k ≡ row_in rows k
      row_same k = ap (λ (xs : List (List LaneBound)). cond (k == 0) [] (get_or xs (k - 1) [])) same

      many : length copied ≡ length rows
      many = sym (length-map copied (λ (v : Vec LaneBound Global). v.items)) ∙ ap length same ∙ length-map rows (λ (v : Vec LaneBound Global). v.items)

      full_same : (m : Mark) → IsFull (strict r) n lanes rows m → IsFull r n lanes copied m
      full_same m is = record {
        mark = is.mark;
        within = omega (arith, is.within, many);
        rising = subst IsRising (sym (row_same m.row)) is.rising;
        bounds = ap bound_in (row_same m.row) ∙ is.bounds;
        task = is.task;
      }

      newest_same : (t : Name) (m : Option Mark) → IsNewest (strict r) n lanes rows t m → IsNewest r n lanes copied t m
      newest_same t None is = is
      newest_same t (Some m) is = (full_same m is.0, is.1, is.2)

      maker_same : (t : Name) (m : Option Mark) → IsMaker (strict r) n lanes rows t m → IsMaker r n lanes copied t m
      maker_same t None is = is
      maker_same t (Some m) is = (full_same m is.0, is.1)

      of_tasks : (P Q : Name → Option Mark → Type 0) → ((t : Name) (m : Option Mark) → P t m → Q t m) → (old new : List (Option Mark)) → new ≡ old
          → AreOfTasks (strict r) n P old → AreOfTasks r n Q new
      of_tasks P Q f old new e are = record {
        listed = ap length e ∙ are.listed;
        each = λ i t m h g. f t m (are.each i t m h (sym (ap (λ xs. slice_get xs i) e) ∙ g));
      }

      pub clocks_same : (old new : Clocks) → old.rows.items ≡ rows → new.rows.items ≡ copied → new.newest.items ≡ old.newest.items
          → new.origins.items ≡ old.origins.items → new.lasts.items ≡ old.lasts.items → AreClocks (strict r) n lanes old → AreClocks r n lanes new
      clocks_same old new old_rows new_rows newest origins lasts are = record {
        within = are.within;
        are = lanes_same lanes are.are;
        newest = of_tasks (IsNewest (strict r) n lanes old.rows.items) (IsNewest r n lanes new.rows.items)
            (λ t m h. subst (λ xs. IsNewest r n lanes xs t m) (sym new_rows) (newest_same t m (subst (λ xs. IsNewest (strict r) n lanes xs t m) old_rows h)))
            old.newest.items new.newest.items newest are.newest;
        origins = of_tasks (IsMaker (strict r) n lanes old.rows.items) (IsMaker r n lanes new.rows.items)
            (λ t m h. subst (λ xs. IsMaker r n lanes xs t m) (sym new_rows) (maker_same t m (subst (λ xs. IsMaker (strict r) n lanes xs t m) old_rows h)))
            old.origins.items new.origins.items origins are.origins;
        lasts_listed = ap length lasts ∙ are.lasts_listed;
        lasts = λ k l. ap (λ xs. get_or xs k 0) lasts ∙ are.lasts k l;
      }

      -- ---- rows of ends

      module _ (P : ℕ → Type 0) (low : (x : ℕ) → P x → x < n) where
        ends_same : (old new : Vec End Global) → new.items ≡ old.items → AreRow WithExclusion r.entries P (ends_of old)
            → AreRow (order r) r.entries P (ends_of new)
        ends_same old new e are = record {
          each = λ i l. subst P (sym (here i)) (are.each i (inside i l));
          all = λ x h. let f = are.all x h in (f.0, omega (arith, f.1, long), here f.0 ∙ f.2);
          tied = record {
            listed = ap (λ (xs : List End). length (map (λ (x : End). x.skip) xs)) e ∙ are.tied.listed ∙ sym long;
            low = λ i l. omega (arith, skip i, are.tied.low i (inside i l));
            ordered = λ i j l m. omega (arith, here i, here j, are.tied.ordered i j (inside i l) m);
            skipped = λ i j l m k.
                ap₂ (λ x y. reaches (order r) r.entries x y) (here i) (here j)
                ∙ reach (end_at (ends_of old) i) (end_at (ends_of old) j) (omega (arith, low (end_at (ends_of old) i) (are.each i (inside i l))))
                ∙ are.tied.skipped i j (inside i l) (omega (arith, skip i, m)) k;
          };
        }
          where
            here : (i : ℕ) → end_at (ends_of new) i ≡ end_at (ends_of old) i
            here i = ap (λ (xs : List End). get_or (map (λ (x : End). x.mark.at) xs) i 0) e

            skip : (i : ℕ) → skip_at (ends_of new) i ≡ skip_at (ends_of old) i
            skip i = ap (λ (xs : List End). get_or (map (λ (x : End). x.skip) xs) i 0) e

            long : length (ends_of new).places.items ≡ length (ends_of old).places.items
            long = ap (λ (xs : List End). length (map (λ (x : End). x.mark.at) xs)) e

            inside : (i : ℕ) → i < length (ends_of new).places.items → i < length (ends_of old).places.items
            inside i l = omega (arith, l, long)

        pub stored_same : (old new : Vec End Global) → new.items ≡ old.items → AreStored (strict r) n lanes rows P old → AreStored r n lanes copied P new
        stored_same old new e are = record {
          are = ends_same old new e are.are;
          full = λ i x g. full_same x.mark (are.full i x (sym (ap (λ xs. slice_get xs i) e) ∙ g));
        }

        row_so : (old new : Option (Vec End Global)) → MatchOption old (new ≡ None) (λ v. IsSomeAnd new (λ w. w.items ≡ v.items))
            → IsRowOf (strict r) n lanes rows P old → IsRowOf r n lanes copied P new
        row_so None new m are = subst (IsRowOf r n lanes copied P) (sym m) are
        row_so (Some v) None m are = absurd m
        row_so (Some v) (Some w) m are = stored_same v w m are

      pub rows_same : (old new : Named)
          → ((k : ℕ × ℕ × ℕ) → MatchOption (row_of old k) (row_of new k ≡ None) (λ v. IsSomeAnd (row_of new k) (λ w. w.items ≡ v.items)))
          → AreRows (strict r) n lanes rows (IsNoted r n) old → AreRows r n lanes copied (IsNoted r n) new
      rows_same old new m are k = row_so (IsNoted r n k) (λ x h. h.0.0) (row_of old k) (row_of new k) (m k) (are k)
