-- The tables of clocks, one step more.
use Rattle.std.proofs.Common.{◌≡◌, ◌≢◌, ◌<◌, ◌≤◌, ◌-◌, ◌+◌, ◌==◌, ◌&&◌, ◌||◌, nat_lt, ℕ, List, [], ◌∷◌, ◌++◌, cond, length, map, get_or, sym, ap, ap₂, ◌∙◌, subst, arith, ◌⊎◌, inl, inr, eq-eqb, Vec, Global, IsTrue}
use Rattle.std.specs.Prelude.{slice_index_or}
use Rattle.std.proofs.lemmas.Bool.{cases_eq}
use Rattle.std.proofs.lemmas.List.{get_or_append_left, length-append, length-map, map-append}
use Rattle.std.proofs.Math.Seq.{get_or-append_seam}
use Rattle.tb_steps.specs.Entries.{Entry}
use Rattle.tb_races.specs.Orders.{Order}
use Rattle.tb_lanes.specs.declared.tasks.Tasks.{Tasks}
use Rattle.tb_lanes.specs.declared.clocks.Clocks.{Clocks}
use Rattle.tb_lanes.specs.declared.lane_bound.LaneBound.{LaneBound}
use Rattle.tb_lanes.specs.Bounds.{IsRising, bound_in}
use mathlib.Core.Path.{fun_ext}
use Rattle.tb_lanes.specs.Clocks.{AreClocks, AreLanes, Lanes, IsSound, lanes_of, row_of_step, IsClock, IsLane, IsLastOf, IsLow, IsOneMore, IsStanding, both_at, is_end_at, is_told, kept_in, lane, of_one, origin, origin_reaches, row_in, row_at, says}
use Rattle.tb_lanes.proofs.ClockLemmas.{zero_eqb}
use Rattle.tb_lanes.proofs.KeptLemmas.{kept_read}

-- the row that was added
pub row_pushed : (rows new : List (Vec LaneBound Global)) (v : Vec LaneBound Global) (n : ℕ) → new ≡ rows ++ v ∷ [] → n ≡ length new → row_in new n ≡ v.items
row_pushed rows new v n e len =
    let many = ap length e ∙ length-append rows (v ∷ []) in
    let some : n ≢ 0 = λ z. omega (arith, z, len, many) in
    let last : n - 1 ≡ length rows = omega (arith, len, many) in
    ap (λ b. cond b [] (kept_in new (n - 1))) (zero_eqb n some)
    ∙ ap₂ kept_in e last
    ∙ sym (kept_read (rows ++ v ∷ []) (length rows) v (omega (arith, length-append rows (v ∷ []))) (sym (get_or-append_seam rows v [] v)))

-- the rows that were there stay
pub row_kept : (rows new : List (Vec LaneBound Global)) (v : Vec LaneBound Global) (n : ℕ) → new ≡ rows ++ v ∷ [] → n ≤ length rows → row_in new n ≡ row_in rows n
row_kept rows new v n e low = by (cases_eq n 0)
  where
    items : Vec LaneBound Global → List LaneBound
    items x = x.items

    by : (n ≡ 0) ⊎ (n ≢ 0) → row_in new n ≡ row_in rows n
    by (inl z) = ap (λ b. cond b [] (kept_in new (n - 1))) (eq-eqb n 0 z) ∙ sym (ap (λ b. cond b [] (kept_in rows (n - 1))) (eq-eqb n 0 z))
    by (inr d) =
        ap (λ b. cond b [] (kept_in new (n - 1))) (zero_eqb n d)
        ∙ ap (λ (xs : List (Vec LaneBound Global)). kept_in xs (n - 1)) e
        ∙ ap (λ (xs : List (List LaneBound)). get_or xs (n - 1) []) (map-append (λ (x : Vec LaneBound Global). x.items) rows (v ∷ []))
        ∙ get_or_append_left (map (λ (x : Vec LaneBound Global). x.items) rows) (v.items ∷ []) [] (n - 1) (omega (arith, low, d, length-map rows (λ (x : Vec LaneBound Global). x.items)))
        ∙ sym (ap (λ b. cond b [] (kept_in rows (n - 1))) (zero_eqb n d))

-- none yet
pub clocks_none : (o : Order) (entries : List Entry) (tasks : Tasks) (clocks : Clocks) → clocks.of.items ≡ [] → clocks.lanes.items ≡ [] → AreClocks o entries tasks 0 clocks
clocks_none o entries tasks clocks a b = record {
  listed = ap length a;
  laned = ap length b;
  within = λ p l. absurd (omega (arith, l));
  rising = λ p l. absurd (omega (arith, l));
  lanes = record {
    low = λ p l. absurd (omega (arith, l));
    told = λ p l. absurd (omega (arith, l));
    own = λ p q l. absurd (omega (arith, l));
    going = λ p l. absurd (omega (arith, l));
    few = λ p l. absurd (omega (arith, l));
    newest = λ p l. absurd (omega (arith, l));
  };
}

-- bounds that are equal say as much
pub sound_same : (o : Order) (entries : List Entry) (tasks : Tasks) (clocks : Lanes) (row next : ℕ → ℕ) (k p : ℕ) → ((j : ℕ) → row j ≡ next j) → IsSound o entries tasks clocks row k p → IsSound o entries tasks clocks next k p
sound_same o entries tasks clocks row next k p same = subst (λ r. IsSound o entries tasks clocks r k p) (fun_ext same)

-- each of the first n, and that at n
pub each : (n : ℕ) (P : ℕ → Type 0) → ((p : ℕ) → p < n → P p) → P n → (p : ℕ) → p < n + 1 → P p
each n P old here p l = by (cases_eq p n)
  where
    by : (p ≡ n) ⊎ (p ≢ n) → P p
    by (inl e) = subst P (sym e) here
    by (inr d) = old p (omega (arith, l, d))

-- ---- one step more, as it is stored

module _ (old new : Clocks) (row k n : ℕ) (one : IsOneMore old row k n new) (listed : length old.of.items ≡ n) (laned : length old.lanes.items ≡ n) where
  pub of_here : slice_index_or new.of.items n 0 ≡ row
  of_here = ap₂ (λ (xs : List ℕ) (m : ℕ). get_or xs m 0) one.of (sym listed) ∙ get_or-append_seam old.of.items row [] 0

  pub of_kept : (p : ℕ) → p < n → slice_index_or new.of.items p 0 ≡ slice_index_or old.of.items p 0
  of_kept p l = ap (λ (xs : List ℕ). get_or xs p 0) one.of ∙ get_or_append_left old.of.items (row ∷ []) 0 p (omega (arith, l, listed))

  pub lane_here : lane (lanes_of new) n ≡ k
  lane_here = ap₂ (λ (xs : List ℕ) (m : ℕ). get_or xs m 0) one.lanes (sym laned) ∙ get_or-append_seam old.lanes.items k [] 0

  pub lane_kept : (p : ℕ) → p < n → lane (lanes_of new) p ≡ lane (lanes_of old) p
  lane_kept p l = ap (λ (xs : List ℕ). get_or xs p 0) one.lanes ∙ get_or_append_left old.lanes.items (k ∷ []) 0 p (omega (arith, l, laned))

  pub row_here : row_of_step new n ≡ row_in old.rows.items row
  row_here = ap₂ row_in one.rows of_here

  pub row_same : (p : ℕ) → p < n → row_of_step new p ≡ row_of_step old p
  row_same p l = ap₂ row_in one.rows (of_kept p l)

module _ (o : Order) (entries : List Entry) (tasks : Tasks) (n : ℕ) where
  -- ---- one row more, where nothing goes by it yet

  -- the clocks with these rows
  module _ (old : Clocks) (rows : Vec (Vec LaneBound Global) Global) (v : Vec LaneBound Global) (e : rows.items ≡ old.rows.items ++ v ∷ []) (are : AreClocks o entries tasks n old) where
    abbrev with_row : Clocks
    with_row = record { of = old.of; rows = rows; lanes = old.lanes; lasts = old.lasts }

    kept : (p : ℕ) → p < n → row_of_step with_row p ≡ row_of_step old p
    kept p l = row_kept old.rows.items rows.items v (slice_index_or old.of.items p 0) e (are.within p l)

    pub clocks_kept : AreClocks o entries tasks n with_row
    clocks_kept = record {
      listed = are.listed;
      laned = are.laned;
      within = λ p l. omega (arith, are.within p l, ap length e, length-append old.rows.items (v ∷ []));
      rising = λ p l. subst IsRising (sym (kept p l)) (are.rising p l);
      lanes = record {
        low = λ p l. subst (λ row. IsLow (bound_in row) p) (sym (kept p l)) (are.lanes.low p l);
        told = λ p l. subst (λ row. IsClock o entries tasks (lanes_of with_row) (bound_in row) (lane (lanes_of with_row) p) p) (sym (kept p l)) (are.lanes.told p l);
        own = are.lanes.own;
        going = are.lanes.going;
        few = are.lanes.few;
        newest = are.lanes.newest;
      };
    }

    -- a step has the row that was added
    pub stands_by : (number k : ℕ) → number ≡ length rows.items → IsRising v.items → IsClock o entries tasks (lanes_of old) (bound_in v.items) k n → IsLow (bound_in v.items) n → IsLane entries (lanes_of old) k n → IsStanding o entries tasks with_row number k n
    stands_by number k len up clock small place =
        let row = row_pushed old.rows.items rows.items v number e len in record {
          within = omega (arith, len);
          rising = subst IsRising (sym row) up;
          clock = subst (λ r. IsClock o entries tasks (lanes_of with_row) (bound_in r) k n) (sym row) clock;
          low = subst (λ r. IsLow (bound_in r) n) (sym row) small;
          lane = record { few = place.few; own = place.own; follows = place.follows };
        }

  -- ---- one step more

  module _ (old new : Lanes) (row : ℕ → ℕ) (k : ℕ) (lane_here : lane new n ≡ k) (lane_kept : (p : ℕ) → p < n → lane new p ≡ lane old p) (row_here : row_at new n ≡ row) (row_same : (p : ℕ) → p < n → row_at new p ≡ row_at old p)
      (clock : IsClock o entries tasks old row k n) (small : IsLow row n) (place : IsLane entries old k n) (are : AreLanes o entries tasks n old) where
    -- a clock goes by the lanes of what is in front alone
    clock_same : (r s : ℕ → ℕ) (i j p : ℕ) → r ≡ s → i ≡ j → p ≤ n → IsClock o entries tasks old s j p → IsClock o entries tasks new r i p
    clock_same r s i j p e f l h q m =
        h q m ∙ sym (ap (λ a. (j == a && nat_lt q p) || (says s a q || origin_reaches o entries (origin tasks p) q)) (lane_kept q (omega (arith, m, l))))
        ∙ sym (ap₂ (λ (t : ℕ → ℕ) (a : ℕ). is_told o entries tasks new t a p q) e f)

    abbrev Going : ℕ → Type 0
    Going b = IsLastOf new (n + 1) b ⊎ (((c : ℕ) × (b < c) × (c < n + 1) × IsTrue (both_at of_one entries c b)) ⊎ IsTrue (is_end_at entries b))

    last_still : (b : ℕ) → b < n → IsLastOf old n b → lane old b ≢ k → IsLastOf new (n + 1) b
    last_still b l last other q m h e = by (cases_eq q n)
      where
        by : (q ≡ n) ⊎ (q ≢ n) → ⊥
        by (inl s) = other (sym (lane_kept b l) ∙ sym e ∙ ap (lane new) s ∙ lane_here)
        by (inr d) =
            let i : q < n = omega (arith, h, d) in
            last q m i (sym (lane_kept q i) ∙ e ∙ lane_kept b l)

    going_on : (b : ℕ) → b < n → Going b
    going_on b l = by (are.going b l)
      where
        follow : IsLastOf old n b → IsTrue (both_at of_one entries n b) ⊎ IsTrue (is_end_at entries b) → Going b
        follow last (inl mine) = inr (inl (n, l, omega arith, mine))
        follow last (inr over) = inr (inr over)

        at_last : IsLastOf old n b → (lane old b ≡ k) ⊎ (lane old b ≢ k) → Going b
        at_last last (inl e) = follow last (place.follows b l e last)
        at_last last (inr d) = inl (last_still b l last d)

        by : IsLastOf old n b ⊎ (((c : ℕ) × (b < c) × (c < n) × IsTrue (both_at of_one entries c b)) ⊎ IsTrue (is_end_at entries b)) → Going b
        by (inl last) = at_last last (cases_eq (lane old b) k)
        by (inr (inl h)) = inr (inl (h.0, h.1, omega (arith, h.2), h.3))
        by (inr (inr over)) = inr (inr over)

    -- the newest of its lane is the new step, and those of the other lanes are as they were
    module _ (within : k < new.count) (more : old.count ≤ new.count) (last : new.last k ≡ n) (others : (j : ℕ) → j ≢ k → j < old.count → new.last j ≡ old.last j) where
      late : (q : ℕ) → q < n → (lane old q ≡ k) ⊎ (lane old q ≢ k) → q ≤ new.last (lane new q)
      late q l (inl e) = omega (arith, ap new.last (lane_kept q l ∙ e), last, l)
      late q l (inr d) = omega (arith, ap new.last (lane_kept q l), others (lane old q) d (are.few q l), are.newest q l)

      pub lanes_more : AreLanes o entries tasks (n + 1) new
      lanes_more = record {
        low = each n (λ p. IsLow (row_at new p) p) (λ p l. subst (λ r. IsLow r p) (sym (row_same p l)) (are.low p l)) (subst (λ r. IsLow r n) (sym row_here) small);
        told = each n (λ p. IsClock o entries tasks new (row_at new p) (lane new p) p)
            (λ p l. clock_same (row_at new p) (row_at old p) (lane new p) (lane old p) p (row_same p l) (lane_kept p l) (omega (arith, l)) (are.told p l))
            (clock_same (row_at new n) row (lane new n) k n row_here lane_here (omega arith) clock);
        own = λ p q l m h. each n (λ p. (q : ℕ) → q < p → IsTrue (both_at of_one entries p q) → lane new p ≡ lane new q)
            (λ p l q m h. lane_kept p l ∙ are.own p q l m h ∙ sym (lane_kept q (omega (arith, l, m))))
            (λ q m h. lane_here ∙ place.own q m h ∙ sym (lane_kept q m)) p l q m h;
        going = each n Going going_on (inl (λ q m h e. omega (arith, m, h)));
        few = each n (λ q. lane new q < new.count) (λ q l. omega (arith, lane_kept q l, are.few q l, more)) (omega (arith, lane_here, within));
        newest = each n (λ q. q ≤ new.last (lane new q)) (λ q l. late q l (cases_eq (lane old q) k)) (omega (arith, ap new.last lane_here, last));
      }

  module _ (old new : Clocks) (row k : ℕ) (one : IsOneMore old row k n new) (stands : IsStanding o entries tasks old row k n) (are : AreClocks o entries tasks n old) where
    pub clocks_more : AreClocks o entries tasks (n + 1) new
    clocks_more = record {
      listed = ap length one.of ∙ length-append old.of.items (row ∷ []) ∙ ap (λ m. m + 1) are.listed;
      laned = ap length one.lanes ∙ length-append old.lanes.items (k ∷ []) ∙ ap (λ m. m + 1) are.laned;
      within = each n (λ p. slice_index_or new.of.items p 0 ≤ length new.rows.items) (λ p l. omega (arith, of_kept old new row k n one are.listed are.laned p l, are.within p l, ap length one.rows)) (omega (arith, (of_here old new row k n one are.listed are.laned), stands.within, ap length one.rows));
      rising = each n (λ p. IsRising (row_of_step new p)) (λ p l. subst IsRising (sym (row_same old new row k n one are.listed are.laned p l)) (are.rising p l)) (subst IsRising (sym (row_here old new row k n one are.listed are.laned)) stands.rising);
      lanes = lanes_more (lanes_of old) (lanes_of new) (bound_in (row_in old.rows.items row)) k (lane_here old new row k n one are.listed are.laned) (lane_kept old new row k n one are.listed are.laned) (ap bound_in (row_here old new row k n one are.listed are.laned)) (λ p l. ap bound_in (row_same old new row k n one are.listed are.laned p l)) stands.clock stands.low stands.lane are.lanes
          one.within one.more one.last one.others;
    }

-- ---- one number more

pub numbers_more : (P : ℕ → ℕ → Type 0) (old new : List ℕ) (k n : ℕ) → length old ≡ n → new ≡ old ++ k ∷ [] → ((p : ℕ) → p < n → P p (slice_index_or old p 0)) → P n k → (p : ℕ) → p < n + 1 → P p (slice_index_or new p 0)
numbers_more P old new k n len e each here p l = by (cases_eq p n)
  where
    by : (p ≡ n) ⊎ (p ≢ n) → P p (slice_index_or new p 0)
    by (inl s) =
        subst (λ m. P m (slice_index_or new m 0)) (sym s)
        (subst (P n) (sym (ap₂ (λ (xs : List ℕ) (m : ℕ). get_or xs m 0) e (sym len) ∙ get_or-append_seam old k [] 0)) here)
    by (inr d) =
        let m : p < n = omega (arith, l, d) in
        subst (P p) (sym (ap (λ (xs : List ℕ). get_or xs p 0) e ∙ get_or_append_left old (k ∷ []) 0 p (omega (arith, m, len)))) (each p m)
