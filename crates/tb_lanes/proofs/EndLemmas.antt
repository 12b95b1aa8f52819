-- The ends of a history, and what a walk along them passes over.
use Rattle.std.proofs.Common.{◌≡◌, ◌≢◌, ◌==◌, ◌<◌, ◌≤◌, ◌+◌, ℕ, List, [], ◌∷◌, Bool, true, length, get_or, refl, sym, ap, ap₂, ◌∙◌, subst, arith, ◌⊎◌, inl, inr, ⊎_elim, eqb-true}
use Rattle.std.proofs.lemmas.Bool.{cases_eq, cases_lt, cases_order, or_cases}
use Rattle.std.proofs.lemmas.List.{get_or_append_left, length-append}
use Rattle.std.proofs.lemmas.Option.{slice_get_read}
use Rattle.std.proofs.Math.Seq.{get_or-append_seam}
use Rattle.tb_model.specs.Facts.{is_end}
use Rattle.tb_steps.specs.Entries.{Entry}
use Rattle.tb_races.specs.Orders.{Order}
use Rattle.tb_lanes.specs.declared.tasks.Tasks.{Tasks}
use Rattle.tb_lanes.specs.declared.ends.Ends.{Ends}
use Rattle.tb_lanes.specs.Clocks.{AreRow, AreTied, IsEnd, IsEndMore, IsSound, Lanes, end_at, ends_so, is_after, is_end_at, is_told, reaches, skip_at}
use Rattle.tb_lanes.specs.Rows.{IsFit, IsRow}
use Rattle.tb_lanes.proofs.AfterLemmas.{reached, reaches_so, reach_on}

-- ---- one end more

-- a row without ends
pub tied_none : (o : Order) (entries : List Entry) (ends : Ends) → ends.places.items ≡ [] → ends.skips.items ≡ [] → AreTied o entries ends
tied_none o entries ends a b = record {
  listed = ap length b ∙ sym (ap length a);
  low = λ i l. absurd (omega (arith, l, ap length a));
  ordered = λ i j l. absurd (omega (arith, l, ap length a));
  skipped = λ i j l. absurd (omega (arith, l, ap length a));
}

pub row_none : (o : Order) (entries : List Entry) (P : ℕ → Type 0) (ends : Ends) → ends.places.items ≡ [] → ends.skips.items ≡ [] → ((x : ℕ) → P x → ⊥) → AreRow o entries P ends
row_none o entries P ends a b none = record {
  each = λ i l. absurd (omega (arith, l, ap length a));
  all = λ x h. absurd (none x h);
  tied = tied_none o entries ends a b;
}

-- a row of the same ends, meant in other words
pub row_same : (o : Order) (entries : List Entry) (P Q : ℕ → Type 0) (ends : Ends) → ((x : ℕ) → P x → Q x) → ((x : ℕ) → Q x → P x) → AreRow o entries P ends → AreRow o entries Q ends
row_same o entries P Q ends there back are = record {
  each = λ i l. there (end_at ends i) (are.each i l);
  all = λ x h. are.all x (back x h);
  tied = are.tied;
}

-- a row of ends in front of a step, as it is walked along
pub row_walked : (o : Order) (entries : List Entry) (P : ℕ → Type 0) (n : ℕ) (ends : Ends) → ((x : ℕ) → P x → IsEnd entries n x) → AreRow o entries P ends → IsRow o entries n ends
row_walked o entries P n ends low are = record {
  each = λ i l. low (end_at ends i) (are.each i l);
  tied = are.tied;
}

module _ (n : ℕ) (old : Ends) (listed : length old.skips.items ≡ length old.places.items) (low : (i : ℕ) → i < length old.places.items → skip_at old i ≤ i) where
  module _ (from : ℕ) (new : Ends) (one : IsEndMore old n from new) (few : from ≤ length old.places.items) where
    abbrev count : ℕ
    count = length old.places.items

    many : length new.places.items ≡ count + 1
    many = ap length one.places ∙ length-append old.places.items (n ∷ [])

    last : end_at new count ≡ n
    last = ap (λ (xs : List ℕ). get_or xs count 0) one.places ∙ get_or-append_seam old.places.items n [] 0

    kept : (i : ℕ) → i < count → end_at new i ≡ end_at old i
    kept i l = ap (λ (xs : List ℕ). get_or xs i 0) one.places ∙ get_or_append_left old.places.items (n ∷ []) 0 i l

    skip_last : skip_at new count ≡ from
    skip_last = ap₂ (λ (xs : List ℕ) (m : ℕ). get_or xs m 0) one.skips (sym listed) ∙ get_or-append_seam old.skips.items from [] 0

    skip_kept : (i : ℕ) → i < count → skip_at new i ≡ skip_at old i
    skip_kept i l = ap (λ (xs : List ℕ). get_or xs i 0) one.skips ∙ get_or_append_left old.skips.items (from ∷ []) 0 i (omega (arith, l, listed))

    -- each of the old ones, and the new one
    each_end : (P : ℕ → Type 0) → ((i : ℕ) → i < count → P i) → P count → (i : ℕ) → i < length new.places.items → P i
    each_end P before here i l = by (cases_eq i count)
      where
        by : (i ≡ count) ⊎ (i ≢ count) → P i
        by (inl e) = subst P (sym e) here
        by (inr d) = before i (omega (arith, l, d, many))

    listed_more : length new.skips.items ≡ length new.places.items
    listed_more = ap length one.skips ∙ length-append old.skips.items (from ∷ []) ∙ ap (λ m. m + 1) listed ∙ sym many

    low_more : (i : ℕ) → i < length new.places.items → skip_at new i ≤ i
    low_more = each_end (λ i. skip_at new i ≤ i) (λ i l. omega (arith, skip_kept i l, low i l)) (omega (arith, skip_last, few))

    -- it can take the end once more
    pub fit_more : ((i : ℕ) → i < count → end_at old i ≤ n) → IsFit n new
    fit_more small = record {
      low = each_end (λ i. end_at new i ≤ n) (λ i l. omega (arith, kept i l, small i l)) (omega (arith, last));
      listed = listed_more;
      skips = low_more;
    }

    ordered_more : ((i j : ℕ) → i < count → j < i → end_at old j ≤ end_at old i) → ((i : ℕ) → i < count → end_at old i ≤ n) → (i j : ℕ) → i < length new.places.items → j < i → end_at new j ≤ end_at new i
    ordered_more ordered newest i j l m = each_end (λ i. (j : ℕ) → j < i → end_at new j ≤ end_at new i)
        (λ i l j m. omega (arith, kept i l, kept j (omega (arith, m, l)), ordered i j l m))
        (λ j m. omega (arith, last, kept j m, newest j m)) i l j m

    module _ (newest : (i : ℕ) → i < length old.places.items → end_at old i ≤ n) (o : Order) (entries : List Entry) (tied : AreTied o entries old) (reached : (j : ℕ) → from ≤ j → j < length old.places.items → reaches o entries n (end_at old j) ≡ true) where
      pub tied_more : AreTied o entries new
      tied_more = record {
        listed = listed_more;
        low = low_more;
        ordered = ordered_more tied.ordered newest;
        skipped = λ i j l. each_end (λ i. (j : ℕ) → skip_at new i ≤ j → j < i → reaches o entries (end_at new i) (end_at new j) ≡ true)
            (λ i l j m k. ap₂ (reaches o entries) (kept i l) (kept j (omega (arith, k, l))) ∙ tied.skipped i j l (omega (arith, m, skip_kept i l)) k)
            (λ j m k. ap₂ (reaches o entries) last (kept j k) ∙ reached j (omega (arith, m, skip_last)) k) i l j;
      }

      pub row_more : (P : ℕ → Type 0) → AreRow o entries P old → AreRow o entries (λ x. P x ⊎ (x ≡ n)) new
      row_more P are = record {
        each = each_end (λ i. P (end_at new i) ⊎ (end_at new i ≡ n)) (λ i l. inl (subst P (sym (kept i l)) (are.each i l))) (inr last);
        all = λ x h. by x h;
        tied = tied_more;
      }
        where
          by : (x : ℕ) → P x ⊎ (x ≡ n) → (i : ℕ) × (i < length new.places.items) × (end_at new i ≡ x)
          by x (inl h) = let f = are.all x h in (f.0, omega (arith, f.1, many), kept f.0 f.1 ∙ f.2)
          by x (inr e) = (count, omega (arith, many), last ∙ sym e)

-- what comes after an end comes after what that skips
pub passed_more : (o : Order) (entries : List Entry) (n : ℕ) → n < length entries → (ends : Ends) → AreTied o entries ends → ((i : ℕ) → i < length ends.places.items → end_at ends i ≤ n) → (i : ℕ) → i < length ends.places.items → reaches o entries n (end_at ends i) ≡ true
    → ((j : ℕ) → i < j → j < length ends.places.items → reaches o entries n (end_at ends j) ≡ true) → (j : ℕ) → skip_at ends i ≤ j → j < length ends.places.items → reaches o entries n (end_at ends j) ≡ true
passed_more o entries n w ends are low i l top rest j m h = by (cases_order i j)
  where
    by : (i ≡ j) ⊎ ((i < j) ⊎ (j < i)) → reaches o entries n (end_at ends j) ≡ true
    by (inl e) = subst (λ y. reaches o entries n (end_at ends y) ≡ true) e top
    by (inr (inl a)) = rest j a h
    by (inr (inr a)) =
        let x : end_at ends i < length entries = omega (arith, low i l, w) in
        let y : end_at ends j < length entries = omega (arith, low j h, w) in
        reaches_so o entries n (end_at ends j)
        (reach_on o entries n (end_at ends i) (end_at ends j) (reached o entries n (end_at ends i) w x top)
        (reached o entries (end_at ends i) (end_at ends j) x y (are.skipped i j l m a)))

-- whether the step is an end, as it is read
pub end_here : (entries : List Entry) (n : ℕ) (x : Entry) → n < length entries → x ≡ get_or entries n x → (b : Bool) → b ≡ is_end x.event.action → is_end_at entries n ≡ b
end_here entries n x w here b h = ap ends_so (slice_get_read entries (length entries) n x refl w here) ∙ sym h

-- of whatever an end comes after, which a row has, the row says too
module _ (o : Order) (entries : List Entry) (tasks : Tasks) (clocks : Lanes) (row : ℕ → ℕ) (k p : ℕ) (so : IsSound o entries tasks clocks row k p) (ends : Ends) (are : IsRow o entries p ends) where
  abbrev Told : ℕ → Type 0
  Told q = is_told o entries tasks clocks row k p q ≡ true

  pub skip_told : (i : ℕ) → i < length ends.places.items → Told (end_at ends i) → (j : ℕ) → skip_at ends i ≤ j → j ≤ i → Told (end_at ends j)
  skip_told i l t j m h = by (cases_eq j i)
    where
      by : (j ≡ i) ⊎ (j ≢ i) → Told (end_at ends j)
      by (inl e) = subst (λ y. Told (end_at ends y)) (sym e) t
      by (inr d) =
          ⊎_elim (λ e. subst Told (eqb-true (end_at ends i) (end_at ends j) e) t)
          (λ a. so.closed (end_at ends i) (end_at ends j) (are.each i l).0 (are.each j (omega (arith, h, l))).0 t a)
          (or_cases (end_at ends i == end_at ends j) (is_after o entries (end_at ends i) (end_at ends j)) (are.tied.skipped i j l m (omega (arith, h, d))))

  -- so all that were looked at are listed, where those that were skipped are
  pub seen_more : (i : ℕ) → i < length ends.places.items → Told (end_at ends i) → (P : ℕ → Type 0) → ((j : ℕ) → i < j → j < length ends.places.items → P j → Told (end_at ends j)) → (j : ℕ) → skip_at ends i ≤ j → j < length ends.places.items → P j → Told (end_at ends j)
  seen_more i l t P rest j m h q = ⊎_elim (λ a. rest j a h q) (λ a. skip_told i l t j m a) (cases_lt i j)
