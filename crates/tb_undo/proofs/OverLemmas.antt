-- Which children of a task are over: with each, all on which it depends.
use Rattle.std.proofs.Common.{◌≡◌, ◌≢◌, ◌<◌, ◌≤◌, ◌-◌, ◌==◌, ◌||◌, ℕ, zero, suc, List, [], ◌∷◌, length, Bool, true, false, not, Option, Some, None, refl, sym, ap, ◌∙◌, subst, arith, nat_lt, ltb-true, eqb-true, eq-eqb, ne_eqb, Result, Ok, Err, OkIff, ◌⊎◌, inl, inr}
use Rattle.std.specs.List.{list_any}
use Rattle.std.specs.Result.{result_unwrap_or}
use Rattle.std.proofs.lemmas.Bool.{and_parts, or_right, both_ways, false≢true, cases_lt}
use Rattle.tb_model.specs.declared.item.Item.{Item}
use Rattle.tb_model.specs.declared.action.Action.TheVariants.{Start}
use Rattle.tb_model.specs.Names.{Name, child}
use Rattle.tb_model.specs.Items.{is_before, some_meet, has_no_items}
use Rattle.tb_model.specs.Facts.{History, own, is_of, is_end, HasEnded, before, ends}
use Rattle.tb_model.specs.Legal.{Cells, Legal}
use Rattle.tb_model.proofs.TestLemmas.{same_refl}
use Rattle.tb_model.proofs.FactsLemmas.{not_started}
use Rattle.tb_model.proofs.NeedsLemmas.{acted_started}
use Rattle.tb_model.proofs.RulesLemmas.{rules, started_where}
use Rattle.tb_model.proofs.SettledLemmas.{ended_later}
use Rattle.tb_depend.specs.Relations.{items_at, is_covered, spawned_items}
use Rattle.tb_depend.specs.Nearness.{IsClosed, AreOverFor}
use Rattle.tb_depend.proofs.RelationsLemmas.{depends_spawned}
use Rattle.tb_excl.specs.Holders.{IsLeastNumber}
use Rattle.tb_wait.specs.Kin.{Tasks as Waits, Kin, kin, IsUnendedChild, IsNextUnended}
use Rattle.tb_wait.specs.Histories.{AreKin}
use Rattle.tb_undo.specs.Obstacles.{is_kin_over, is_child_over, IsUnendedWhere}
use Rattle.tb_undo.proofs.UndeferredLemmas.{in_table, in_history}
use Rattle.tb_model.proofs.SiblingsLemmas.{before_at}
use Rattle.tb_undo.proofs.ObstacleLemmas.{before_generated, unended_from, ended_not}

pub none_counted : (items : List Item) → has_no_items items ≡ (length items == 0)
none_counted [] = refl
none_counted (i ∷ items) = sym (ne_eqb (length (i ∷ items)) 0 (λ z. omega (arith, z)))

module _ (tasks : Waits) (t : Name) where
  pub unended_where : (n : ℕ) → is_child_over tasks t n ≡ false → IsUnendedChild tasks t (child t n)
  unended_where zero e = absurd (false≢true (sym e))
  unended_where (suc k) e = (same_refl t, at (kin tasks (child t (suc k))) refl e)
    where
      at : (o : Option Kin) → kin tasks (child t (suc k)) ≡ o → is_kin_over o ≡ false → (q : Kin) × (kin tasks (child t (suc k)) ≡ Some q) × (q.over ≡ false)
      at None f h = absurd (false≢true (sym h))
      at (Some q) f h = (q, f, h)

  pub unended_not_over : (n : ℕ) → 0 < n → IsUnendedChild tasks t (child t n) → is_child_over tasks t n ≡ false
  unended_not_over zero h u = absurd (omega (arith, h))
  unended_not_over (suc k) h u = ap is_kin_over u.1.1 ∙ u.1.2

  -- a child of which it is known whether it is unended
  pub known_over : (n : ℕ) → 0 < n → (b : Bool) → (b ≡ true → IsUnendedChild tasks t (child t n)) → (b ≡ false → IsUnendedChild tasks t (child t n) → ⊥) → not b ≡ is_child_over tasks t n
  known_over n h true there gone = sym (unended_not_over n h (there refl))
  known_over n h false there gone = by (is_child_over tasks t n) refl
    where
      by : (b : Bool) → is_child_over tasks t n ≡ b → true ≡ is_child_over tasks t n
      by true e = sym e
      by false e = absurd (gone refl (unended_where n e))

  -- where all are over on which a further child with these items would depend, a `taskwait` with them waits for none
  pub none_covered : (siblings : List (List Item)) (items : List Item) → has_no_items items ≡ false → AreOverFor siblings (is_child_over tasks t) items → IsLeastNumber (IsUnendedWhere tasks t (is_covered siblings items)) None
  none_covered siblings items some all = record {
    found = λ m e. cc;
    least = λ m u. absurd (both_ways (is_child_over tasks t m) (unended_not_over m u.from_one u.unended)
        (all m (sym (ap (λ b. b || some_meet is_before items (items_at siblings m)) some) ∙ u.passes)));
  }

  -- the next unended child says whether this one is over
  pub over_by_next : (n low : ℕ) (o : Option ℕ) → IsNextUnended tasks t low o → low < n → ((m : ℕ) → o ≡ Some m → n ≤ m) → ((m : ℕ) → o ≡ Some m → m ≢ n) → is_child_over tasks t n ≡ true
  over_by_next n low o next above within other = at (is_child_over tasks t n) refl
    where
      at : (b : Bool) → is_child_over tasks t n ≡ b → b ≡ true
      at true e = refl
      at false e =
          let it = next.least n above (unended_where n e) in
          let far = within it.0 it.1 in
          let same : it.0 ≡ n = omega (arith, far, it.2) in
          absurd (other it.0 it.1 same)

  -- where there is no next one, all after are over
  pub told_none : (n low : ℕ) (o : Option ℕ) → IsNextUnended tasks t low o → o ≡ None → low ≤ n - 1 → true ≡ is_child_over tasks t n
  told_none zero low o next e h = refl
  told_none (suc k) low o next e h = sym (over_by_next (suc k) low o next (omega (arith, h)) (λ m f. none m f) (λ m f. absurd (none m f)))
    where
      none : {A : Type 0} (m : ℕ) → o ≡ Some m → A
      none m f = let clash : None ≡ Some m = sym e ∙ f in cc

  -- else those in front of the next one are
  pub told_some : (n low m : ℕ) (o : Option ℕ) → IsNextUnended tasks t low o → o ≡ Some m → low ≤ n - 1 → (low ≡ n - 1) ⊎ (low ≡ 4294967295) → m < 4294967296 → not (m == n) ≡ is_child_over tasks t n
  told_some n low m o next e h is fits = at (m == n) refl
    where
      after : low < m
      after = (next.found m e).0

      same : (j : ℕ) → o ≡ Some j → j ≡ m
      same j f = let q : Some m ≡ Some j = sym e ∙ f in cc

      reached : n ≤ m
      reached = elim is [
        | inl q ↦ omega (arith, q, after)
        | inr q ↦ absurd (omega (arith, q, after, fits))
      ]

      behind : (n2 : ℕ) → n2 ≡ n → (m == n) ≡ false → true ≡ is_child_over tasks t n2
      behind zero q f = refl
      behind (suc k) q f =
          let above : low < suc k = omega (arith, q, h) in
          sym (over_by_next (suc k) low o next above (λ j g. omega (arith, same j g, reached, q)) (λ j g c. both_ways (m == n) f (eq-eqb m n (sym (same j g) ∙ c ∙ q))))

      at : (b : Bool) → (m == n) ≡ b → not (m == n) ≡ is_child_over tasks t n
      at true f =
          let here : m ≡ n = eqb-true m n f in
          ap not f ∙ sym (unended_not_over n (omega (arith, after, here)) (subst (λ j. IsUnendedChild tasks t (child t j)) here (next.found m e).1))
      at false f = ap not f ∙ behind n refl f

-- the ordinal, as far as 32 bits reach
pub clamped : {E : Type 0} (r : Result ℕ E) (v low : ℕ) → OkIff r (v < 4294967296) v → low ≡ result_unwrap_or r 4294967295 → (low ≤ v) × ((low ≡ v) ⊎ (low ≡ 4294967295))
clamped (Ok x) v low k e = let same : low ≡ v = e ∙ k.1 in (omega (arith, same), inl same)
clamped (Err x) v low k e = elim (cases_lt v 4294967296) [
  | inl h ↦ absurd (k h)
  | inr h ↦ (omega (arith, e, h), inr e)
]

module _ (cells : Cells) (H : History) (tasks : Waits) (t : Name) (legal : Legal cells H) (are : AreKin H tasks) where
  -- a child that has ended started after the ends of those before it
  ended_behind : (m n : ℕ) → before H (m ∷ t) (n ∷ t) ≡ true → HasEnded H (n ∷ t) → HasEnded H (m ∷ t)
  ended_behind m n b e =
      let acted : own (n ∷ t) H ≢ [] = λ none. not_started (n ∷ t) H (ends (n ∷ t)) (λ v s. (and_parts (is_of (n ∷ t) v) (is_end v.action) s).0) none e in
      let at = started_where (n ∷ t) H (acted_started cells H (n ∷ t) legal acted) in
      let ended = (rules cells H legal).behind (n ∷ t) (m ∷ t) at.0 at.1 b in
      subst (λ K. HasEnded K (m ∷ t)) (sym at.1.split) (ended_later (m ∷ t) at.1.later (record { task = n ∷ t; action = Start } ∷ at.0) (or_right _ _ ended))

  pub over_closed : IsClosed (spawned_items (own t H)) (is_child_over tasks t)
  over_closed n m over dep = at (is_child_over tasks t m) refl
    where
      b : before H (m ∷ t) (n ∷ t) ≡ true
      b = before_at cells H t m n legal ∙ sym (depends_spawned (own t H) m n) ∙ dep

      above : m < n
      above = ltb-true m n (and_parts (nat_lt m n) (some_meet is_before (items_at (spawned_items (own t H)) n) (items_at (spawned_items (own t H)) m)) dep).0

      has_ended : (x : Bool) → list_any (ends (n ∷ t)) H ≡ x → HasEnded H (n ∷ t)
      has_ended true e = e
      has_ended false e =
          let u = in_table cells H tasks t legal are n (unended_from H (n ∷ t) (before_generated cells H tasks t legal are n m b) e) in
          absurd (both_ways (is_child_over tasks t n) (unended_not_over tasks t n (omega (arith, above)) u) over)

      at : (x : Bool) → is_child_over tasks t m ≡ x → x ≡ true
      at true e = refl
      at false e =
          let u = in_history cells H tasks t legal are m (unended_where tasks t m e) in
          absurd (both_ways (list_any (ends (m ∷ t)) H) (ended_not H (m ∷ t) u) (ended_behind m n b (has_ended (list_any (ends (n ∷ t)) H) refl)))
