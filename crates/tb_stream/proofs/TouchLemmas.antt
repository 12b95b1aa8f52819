-- What is stored of what is shared, one step more.
use Rattle.std.proofs.Common.{◌≡◌, ◌≢◌, ◌==◌, ◌<◌, ◌≤◌, ◌+◌, ◌-◌, ℕ, zero, suc, List, [], ◌∷◌, ◌++◌, Bool, true, false, cond, length, take, refl, sym, ap, ◌∙◌, subst, arith, Option, Some, None, slice_get, Result, Ok, Err, IfOk, ◌⊎◌, inl, inr, ⊎_elim, eq-eqb, ne_eqb, get_or}
use Rattle.std.proofs.lemmas.Bool.{cases_eq}
use Rattle.std.proofs.lemmas.List.{length-map, map-append}
use Rattle.tb_model.specs.declared.action.Action.{Action}
use Rattle.tb_steps.specs.Entries.{Entry}
use Rattle.tb_lanes.specs.Clocks.{Lanes}
use Rattle.tb_lanes.specs.Kept.{AreRows, IsCut, IsLarger, IsNewest, is_load, newest_of, slot_of}
use Rattle.tb_lanes.proofs.AfterLemmas.{at, at_is, at_read}
use Rattle.tb_lanes.proofs.KeptLemmas.{load_met, load_newest, none_kept, none_newest, tables_met, write_met, write_newest}
use Rattle.tb_races.specs.Orders.{Synchronised}
use Rattle.tb_stream.specs.declared.access.Access.{Access}
use Rattle.tb_stream.specs.declared.clocks.Clocks.{Clocks}
use Rattle.tb_stream.specs.declared.mark.Mark.{Mark}
use Rattle.tb_stream.specs.declared.touched.Touched.{Touched}
use Rattle.tb_stream.specs.Keeping.{AreAccesses, AreKept, AreTouched, AreTouchedSo, IsAccess, IsFound, IsTold, Named, behind, last_in, places, touched_of}
use Rattle.tb_stream.specs.Seen.{IsAdded, IsEvent, IsMark, Run, order}
use Rattle.tb_stream.proofs.ListLemmas.{the_same}

-- ---- lists

map_first : (n : ℕ) (row : List Access) → places (take n row) ≡ take n (places row)
map_first zero row = refl
map_first (suc n) [] = refl
map_first (suc n) (a ∷ row) = ap (λ xs. a.mark.at ∷ xs) (map_first n row)

pub row_put : (n : ℕ) (row : List Access) (a : Access) → places (take n row ++ a ∷ []) ≡ take n (places row) ++ a.mark.at ∷ []
row_put n row a = map-append (λ (x : Access). x.mark.at) (take n row) (a ∷ []) ∙ ap (λ xs. xs ++ a.mark.at ∷ []) (map_first n row)

none_some : {A : Type 0} (x : A) → ◌≡◌ {A = Option A} None (Some x) → ⊥
none_some x e = cc

get_first : (n : ℕ) (row : List Access) (j : ℕ) (a : Access) → slice_get (take n row) j ≡ Some a → slice_get row j ≡ Some a
get_first zero row j a g = absurd (none_some a g)
get_first (suc n) [] j a g = g
get_first (suc n) (b ∷ row) zero a g = g
get_first (suc n) (b ∷ row) (suc j) a g = get_first n row j a g

get_put : (xs : List Access) (y : Access) (j : ℕ) (a : Access) → slice_get (xs ++ y ∷ []) j ≡ Some a → (slice_get xs j ≡ Some a) ⊎ (a ≡ y)
get_put [] y zero a g = inr (sym (the_same y a g))
get_put [] y (suc j) a g = absurd (none_some a g)
get_put (x ∷ xs) y zero a g = inl g
get_put (x ∷ xs) y (suc j) a g = get_put xs y j a g

last_some : (row : List Access) (n : ℕ) → n ≢ 0 → last_in row n ≡ slice_get row (n - 1)
last_some row n d = ap (λ b. cond b None (slice_get row (n - 1))) (ne_eqb n 0 d)

pub last_named : (row : List Access) (n : ℕ) → n ≤ length row → behind (last_in row n) ≡ newest_of (places row) n
last_named row n l = ⊎_elim none some (cases_eq n 0)
  where
    by : (row : List Access) (n : ℕ) → n < length row → behind (slice_get row n) ≡ suc (get_or (places row) n 0)
    by [] n l = absurd (omega (arith, l))
    by (a ∷ row) zero l = refl
    by (a ∷ row) (suc n) l = by row n (omega (arith, l))

    none : n ≡ 0 → behind (last_in row n) ≡ newest_of (places row) n
    none e = ap behind (ap (λ b. cond b None (slice_get row (n - 1))) (eq-eqb n 0 e)) ∙ sym (ap (λ b. cond b 0 (suc (get_or (places row) (n - 1) 0))) (eq-eqb n 0 e))

    some : n ≢ 0 → behind (last_in row n) ≡ newest_of (places row) n
    some d = ap behind (last_some row n d) ∙ by row (n - 1) (omega (arith, l, d)) ∙ sym (ap (λ b. cond b 0 (suc (get_or (places row) (n - 1) 0))) (ne_eqb n 0 d))

last_read : (row : List Access) (n : ℕ) (a : Access) → last_in row n ≡ Some a → slice_get row (n - 1) ≡ Some a
last_read row n a e = ⊎_elim (λ z. absurd (none_some a (sym (ap (λ b. cond b None (slice_get row (n - 1))) (eq-eqb n 0 z)) ∙ e))) (λ d. sym (last_some row n d) ∙ e) (cases_eq n 0)

-- ---- accesses

module _ (r : Run) (lanes next : Lanes) (n m : ℕ) (low : n ≤ m) (lane_kept : (p : ℕ) → p < n → next.lane p ≡ lanes.lane p) where
  pub access_on : (a : Access) → IsAccess r n lanes a → IsAccess r m next a
  access_on a i = record {
    mark = record { at = omega (arith, i.mark.at, low); lane = i.mark.lane ∙ sym (lane_kept a.mark.at i.mark.at) };
    task = i.task;
    number = i.number;
  }

  pub accesses_on : (row : List Access) → AreAccesses r n lanes row → AreAccesses r m next row
  accesses_on row are j a g = access_on a (are j a g)

pub marks_on : (r : Run) (lanes next : Lanes) (n : ℕ) → ((p : ℕ) → p < n → next.lane p ≡ lanes.lane p) → (row : List Access) → AreAccesses r n lanes row
    → (j : ℕ) (a : Access) → slice_get row j ≡ Some a → IsMark (n + 1) next a.mark
marks_on r lanes next n lane_kept row are j a g = (access_on r lanes next n (n + 1) (omega arith) lane_kept a (are j a g)).mark

pub added_inside : (r : Run) (n : ℕ) (lanes : Lanes) (clocks : Clocks) (m : Mark) → IsAdded r n lanes clocks m → n < length r.entries
added_inside r n lanes clocks m added = omega (arith, added.clocks_are.within)

module _ (r : Run) (m : ℕ) (lanes : Lanes) where
  pub accesses_first : (n : ℕ) (row : List Access) → AreAccesses r m lanes row → AreAccesses r m lanes (take n row)
  accesses_first n row are j a g = are j a (get_first n row j a g)

  pub accesses_put : (n : ℕ) (row : List Access) (b : Access) → AreAccesses r m lanes row → IsAccess r m lanes b → AreAccesses r m lanes (take n row ++ b ∷ [])
  accesses_put n row b are i j a g = ⊎_elim (λ h. are j a (get_first n row j a h)) (λ e. subst (IsAccess r m lanes) (sym e) i) (get_put (take n row) b j a g)

  pub last_access : (row : List Access) (n : ℕ) (a : Access) → AreAccesses r m lanes row → last_in row n ≡ Some a → IsAccess r m lanes a
  last_access row n a are e = are (n - 1) a (last_read row n a e)

-- ---- what has one number

module _ (r : Run) (n i : ℕ) (w : n < length r.entries) (lanes next : Lanes) (lane_kept : (p : ℕ) → p < n → next.lane p ≡ lanes.lane p) (load : Bool)
    (told : IsTold r n i load) (t : Touched) (are : AreTouched r n lanes i t)
    (writes loads : ℕ) (write : IsCut (order r) r.entries n (places t.writes.items) writes) (read : IsCut (order r) r.entries n (places t.loads.items) loads) where
  abbrev x : Entry
  x = at Synchronised r.entries n w

  here : x ≡ get_or r.entries n x
  here = at_is Synchronised r.entries n w

  slot : slot_of x.event.action ≡ Some i
  slot = told.slot x (at_read Synchronised r.entries n w)

  loading : is_load x.event.action ≡ load
  loading = told.loads x (at_read Synchronised r.entries n w)

  pub few_writes : writes ≤ length t.writes.items
  few_writes = omega (arith, write.few, length-map t.writes.items (λ (a : Access). a.mark.at))

  pub few_loads : loads ≤ length t.loads.items
  few_loads = omega (arith, read.few, length-map t.loads.items (λ (a : Access). a.mark.at))

  pub found_load : load ≡ true → IsFound r n lanes (last_in t.writes.items writes)
  found_load e = record {
    newest = subst (IsNewest (order r) r.entries n) (sym (last_named t.writes.items writes few_writes))
        (load_newest (order r) r.entries n w x here i slot (places t.writes.items) (places t.loads.items) are.rows writes loads write read (loading ∙ e));
    access = λ a g. last_access r n lanes t.writes.items writes a are.writes g;
  }

  pub found_write : load ≡ false → (o : Option Access) → IsLarger (behind (last_in t.writes.items writes)) (behind (last_in t.loads.items loads)) (behind o)
      → (o ≡ last_in t.writes.items writes) ⊎ (o ≡ last_in t.loads.items loads) → IsFound r n lanes o
  found_write e o larger either = record {
    newest = write_newest (order r) r.entries n w x here i slot (places t.writes.items) (places t.loads.items) are.rows writes loads write read (loading ∙ e) (behind o)
        (subst (λ m. IsLarger m (newest_of (places t.loads.items) loads) (behind o)) (last_named t.writes.items writes few_writes)
        (subst (λ m. IsLarger (behind (last_in t.writes.items writes)) m (behind o)) (last_named t.loads.items loads few_loads) larger));
    access = λ a g. ⊎_elim (λ s. last_access r n lanes t.writes.items writes a are.writes (sym s ∙ g)) (λ s. last_access r n lanes t.loads.items loads a are.loads (sym s ∙ g)) either;
  }

  module _ (a : Access) (of : IsAccess r (n + 1) next a) (is : a.mark.at ≡ n) (new : Touched) where
    on : (row : List Access) → AreAccesses r n lanes row → AreAccesses r (n + 1) next row
    on = accesses_on r lanes next n (n + 1) (omega arith) lane_kept

    put_is : (k : ℕ) (row : List Access) → places (take k row ++ a ∷ []) ≡ take k (places row) ++ n ∷ []
    put_is k row = row_put k row a ∙ ap (λ y. take k (places row) ++ y ∷ []) is

    pub kept_load : load ≡ true → new.writes.items ≡ t.writes.items → new.loads.items ≡ take loads t.loads.items ++ a ∷ [] → AreTouched r (n + 1) next i new
    kept_load e same more = record {
      rows = subst (λ xs. AreRows (order r) r.entries (n + 1) i xs (places new.loads.items)) (sym (ap places same))
          (subst (λ xs. AreRows (order r) r.entries (n + 1) i (places t.writes.items) xs) (sym (ap places more ∙ put_is loads t.loads.items))
          (load_met (order r) r.entries n w x here i slot (places t.writes.items) (places t.loads.items) are.rows writes loads write read (loading ∙ e)));
      writes = subst (AreAccesses r (n + 1) next) (sym same) (on t.writes.items are.writes);
      loads = subst (AreAccesses r (n + 1) next) (sym more) (accesses_put r (n + 1) next loads t.loads.items a (on t.loads.items are.loads) of);
    }

    pub kept_write : load ≡ false → new.writes.items ≡ take writes t.writes.items ++ a ∷ [] → new.loads.items ≡ take loads t.loads.items
        → AreTouched r (n + 1) next i new
    kept_write e more less = record {
      rows = subst (λ xs. AreRows (order r) r.entries (n + 1) i xs (places new.loads.items)) (sym (ap places more ∙ put_is writes t.writes.items))
          (subst (λ xs. AreRows (order r) r.entries (n + 1) i (take writes (places t.writes.items) ++ n ∷ []) xs) (sym (ap places less ∙ map_first loads t.loads.items))
          (write_met (order r) r.entries n w x here i slot (places t.writes.items) (places t.loads.items) are.rows writes loads write read (loading ∙ e)));
      writes = subst (AreAccesses r (n + 1) next) (sym more) (accesses_put r (n + 1) next writes t.writes.items a (on t.writes.items are.writes) of);
      loads = subst (AreAccesses r (n + 1) next) (sym less) (accesses_first r (n + 1) next loads t.loads.items (on t.loads.items are.loads));
    }

-- ---- all that is stored

pub if_ok_map : {A E : Type 0} (x : Result A E) (P Q : A → Type 0) → ((a : A) → P a → Q a) → IfOk x P → IfOk x Q
if_ok_map (Ok a) P Q f h = f a h
if_ok_map (Err e) P Q f h = tt

abbrev writes_of : Option Touched → List ℕ
writes_of None = []
writes_of (Some t) = places t.writes.items

abbrev loads_of : Option Touched → List ℕ
loads_of None = []
loads_of (Some t) = places t.loads.items

module _ (r : Run) (n : ℕ) (w : n < length r.entries) (lanes next : Lanes) (lane_kept : (p : ℕ) → p < n → next.lane p ≡ lanes.lane p) (a : Action)
    (event : IsEvent r n a) where
  abbrev y : Entry
  y = at Synchronised r.entries n w

  y_here : y ≡ get_or r.entries n y
  y_here = at_is Synchronised r.entries n w

  slot_here : slot_of y.event.action ≡ slot_of a
  slot_here = ap slot_of (sym (event y (at_read Synchronised r.entries n w)))

  pub known_is : (i : ℕ) (load : Bool) → slot_of a ≡ Some i → load ≡ is_load a → IsTold r n i load
  known_is i load s l = record { slot = λ v g. ap slot_of (sym (event v g)) ∙ s; loads = λ v g. ap is_load (sym (event v g)) ∙ sym l }

  rows_so : (m : ℕ) (ls : Lanes) (i : ℕ) (o : Option Touched) → AreTouchedSo r m ls i o → AreRows (order r) r.entries m i (writes_of o) (loads_of o)
  rows_so m ls i None k = k
  rows_so m ls i (Some t) k = k.rows

  so_more : (i : ℕ) (o : Option Touched) → AreTouchedSo r n lanes i o → AreRows (order r) r.entries (n + 1) i (writes_of o) (loads_of o)
      → AreTouchedSo r (n + 1) next i o
  so_more i None k rows = rows
  so_more i (Some t) k rows = record { rows = rows; writes = accesses_on r lanes next n (n + 1) (omega arith) lane_kept t.writes.items k.writes; loads = accesses_on r lanes next n (n + 1) (omega arith) lane_kept t.loads.items k.loads }

  -- what shares nothing
  module _ (none : slot_of a ≡ None) where
    pub found_none : IsFound r n lanes None
    found_none = record {
      newest = none_newest (order r) r.entries n w y y_here (slot_here ∙ none);
      access = λ b e. absurd (none_some b e);
    }

    pub kept_none : (named : Named) → AreKept r n lanes named → AreKept r (n + 1) next named
    kept_none named kept i =
        so_more i (touched_of named i) (kept i) (none_kept (order r) r.entries n w y y_here (slot_here ∙ none) i (writes_of (touched_of named i)) (loads_of (touched_of named i)) (rows_so n lanes i (touched_of named i) (kept i)))

  -- what shares something
  module _ (i : ℕ) (slot : slot_of a ≡ Some i) (old new : Named) (v : Touched)
      (writes : (u : ℕ) → touched_of new u ≡ cond (i == u) (Some v) (touched_of old u)) (kept : AreKept r n lanes old)
      (it : AreTouched r (n + 1) next i v) where
    here_is : touched_of new i ≡ Some v
    here_is = writes i ∙ ap (λ b. cond b (Some v) (touched_of old i)) (eq-eqb i i refl)

    other_is : (j : ℕ) → j ≢ i → touched_of new j ≡ touched_of old j
    other_is j d = writes j ∙ ap (λ b. cond b (Some v) (touched_of old j)) (ne_eqb i j (λ e. d (sym e)))

    rows_met : (j : ℕ) → AreRows (order r) r.entries (n + 1) j (writes_of (touched_of new j)) (loads_of (touched_of new j))
    rows_met =
        tables_met (order r) r.entries n w y y_here i (slot_here ∙ slot) (λ j. writes_of (touched_of old j)) (λ j. loads_of (touched_of old j)) (λ j. writes_of (touched_of new j)) (λ j. loads_of (touched_of new j))
        (λ j. rows_so n lanes j (touched_of old j) (kept j))
        (subst (λ o. AreRows (order r) r.entries (n + 1) i (writes_of o) (loads_of o)) (sym here_is) it.rows)
        (λ j d. ap writes_of (other_is j d)) (λ j d. ap loads_of (other_is j d))

    pub all_written : AreKept r (n + 1) next new
    all_written j = ⊎_elim
        (λ e. subst (λ k. AreTouchedSo r (n + 1) next k (touched_of new k)) (sym e) (subst (AreTouchedSo r (n + 1) next i) (sym here_is) it))
        (λ d. subst (AreTouchedSo r (n + 1) next j) (sym (other_is j d)) (so_more j (touched_of old j) (kept j) (subst (λ o. AreRows (order r) r.entries (n + 1) j (writes_of o) (loads_of o)) (other_is j d) (rows_met j))))
        (cases_eq j i)

-- nothing at an index
pub touched_none : (r : Run) (n : ℕ) (lanes : Lanes) (i : ℕ) (t : Touched) → t.writes.items ≡ [] → t.loads.items ≡ [] → AreRows (order r) r.entries n i [] []
    → AreTouched r n lanes i t
touched_none r n lanes i t writes loads rows = record {
  rows = subst (λ xs. AreRows (order r) r.entries n i (places xs) (places t.loads.items)) (sym writes) (subst (λ xs. AreRows (order r) r.entries n i [] (places xs)) (sym loads) rows);
  writes = λ j a g. absurd (none_some a (sym (ap (λ xs. slice_get xs j) writes) ∙ g));
  loads = λ j a g. absurd (none_some a (sym (ap (λ xs. slice_get xs j) loads) ∙ g));
}

-- where the map was written as it was
pub moved_writes : (i : ℕ) (old mid new : Named) (v : Touched) → mid ≡ old → ((u : ℕ) → touched_of new u ≡ cond (i == u) (Some v) (touched_of mid u))
    → (u : ℕ) → touched_of new u ≡ cond (i == u) (Some v) (touched_of old u)
moved_writes i old mid new v same writes u = writes u ∙ ap (λ (m : Named). cond (i == u) (Some v) (touched_of m u)) same
