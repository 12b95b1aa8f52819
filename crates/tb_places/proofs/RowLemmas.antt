-- How rows change where an event is added at the end, and where the last is taken off.
use Rattle.std.proofs.Common.{◌≡◌, ◌≢◌, ℕ, List, [], ◌∷◌, ◌++◌, Bool, true, false, Option, Some, None, length, refl, sym, ap, ◌∙◌, subst, rules, tests, eqb}
use Rattle.tb_model.specs.declared.event.Event.{Event}
use Rattle.tb_places.specs.declared.rows.Rows.{Rows}
use Rattle.tb_places.specs.Rows.{row_of, is_in_row, is_of_row, AreRows}
use Rattle.tb_places.specs.Where.{places_where}
use Rattle.tb_places.proofs.WhereLemmas.{places_push_yes, places_push_no}

module _ (number : Event → Option ℕ) (es : List Event) (e : Event) where
  none_in : number e ≡ None → (k : ℕ) → is_of_row number k e ≡ false
  none_in h k = ap (is_in_row k) h

  pub its_row : (n : ℕ) → number e ≡ Some n → is_of_row number n e ≡ true
  its_row n h = ap (is_in_row n) h ∙ search (rules, tests)

  other_row : (n k : ℕ) → number e ≡ Some n → k ≢ n → is_of_row number k e ≡ false
  other_row n k h apart = ap (is_in_row k) h ∙ search (rules, tests)

  -- an event without a row
  pub rows_pushed_none : (r : Rows) → number e ≡ None → AreRows number es r → AreRows number (es ++ e ∷ []) r
  rows_pushed_none r h rows k = rows k ∙ sym (places_push_no (is_of_row number k) es e (none_in h k))

  pub rows_popped_none : (r : Rows) → number e ≡ None → AreRows number (es ++ e ∷ []) r → AreRows number es r
  rows_popped_none r h rows k = rows k ∙ places_push_no (is_of_row number k) es e (none_in h k)

  -- an event of the nth row
  module _ (old new : Rows) (n : ℕ) (h : number e ≡ Some n) (others : (k : ℕ) → k ≢ n → row_of new k ≡ row_of old k) where
    by_row : (P : ℕ → Type 0) → P n → ((k : ℕ) → k ≢ n → P k) → (k : ℕ) → P k
    by_row P here there k = by (eqb k n) refl
      where
        by : (b : Bool) → eqb k n ≡ b → P k
        by true t = subst P (search (rules, tests)) here
        by false f = there k (search (rules, tests))

    pub rows_pushed : (place : ℕ) → place ≡ length es → row_of new n ≡ row_of old n ++ place ∷ [] → AreRows number es old → AreRows number (es ++ e ∷ []) new
    rows_pushed place is row rows =
        by_row (λ k. row_of new k ≡ places_where (is_of_row number k) (es ++ e ∷ []))
        (row ∙ ap (λ l. l ++ place ∷ []) (rows n) ∙ ap (λ k. places_where (is_of_row number n) es ++ k ∷ []) is ∙ sym (places_push_yes (is_of_row number n) es e (its_row n h)))
        (λ k apart. others k apart ∙ rows k ∙ sym (places_push_no (is_of_row number k) es e (other_row n k h apart)))

    pub rows_popped : ((ps : List ℕ) (p : ℕ) → row_of old n ≡ ps ++ p ∷ [] → row_of new n ≡ ps) → AreRows number (es ++ e ∷ []) old → AreRows number es new
    rows_popped row rows =
        by_row (λ k. row_of new k ≡ places_where (is_of_row number k) es)
        (row _ (length es) (rows n ∙ places_push_yes (is_of_row number n) es e (its_row n h)))
        (λ k apart. others k apart ∙ rows k ∙ places_push_no (is_of_row number k) es e (other_row n k h apart))
