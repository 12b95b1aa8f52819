-- Where some events go, the indexes of the others are lowered.
use Rattle.std.proofs.Common.{◌≡◌, ◌<◌, ◌≤◌, ◌+◌, ◌-◌, ◌==◌, ℕ, suc, List, [], ◌∷◌, Bool, true, false, Option, cond, ltb, drop, refl, sym, ap, ◌∙◌, subst, arith, rules, tests, if◌then◌else◌}
use Rattle.std.proofs.lemmas.Bool.{lt-ltb}
use Rattle.std.proofs.lemmas.Bool.Decides.{nat_tests}
use Rattle.tb_model.specs.declared.event.Event.{Event}
use Rattle.std.specs.List.{AllByRecursion}
use Rattle.tb_model.specs.Names.{Name}
use Rattle.tb_places.specs.declared.places.Places.{Places}
use Rattle.tb_places.specs.declared.rows.Rows.{Rows}
use Rattle.tb_places.specs.Places.{event_mark, event_number, IsNamed, IsIndexOf}
use Rattle.tb_places.specs.Rows.{row_of, is_of_row, AreRows}
use Rattle.tb_places.specs.Where.{places_from, places_where}
use Rattle.tb_places.specs.Renumbering.{RiseFrom, below, goes_at, left_from, lowered}
use Rattle.tb_places.proofs.WhereLemmas.{places_cons}
use Rattle.tb_places.proofs.NextLemmas.{above, lower}

-- ---- how many are in front

pub not_ltb : (g x : ℕ) → x ≤ g → ltb g x ≡ false
not_ltb g x h = grind (arith, nat_tests)

below_one : (g : ℕ) (gs : List ℕ) (x : ℕ) → g < x → below (g ∷ gs) x ≡ 1 + below gs x
below_one g gs x h = ap (λ b. cond b (1 + below gs x) 0) (lt-ltb g x h)

below_none : (gs : List ℕ) (x : ℕ) → RiseFrom x gs → below gs x ≡ 0
below_none [] x h = refl
below_none (g ∷ gs) x h = ap (λ b. cond b (1 + below gs x) 0) (not_ltb g x h.0)

-- ---- an index after the first that goes, which is at the index n

-- the indexes, where so many went in front of all these that go
abbrev lowered_by : ℕ → List ℕ → List ℕ → List ℕ
lowered_by k gs [] = []
lowered_by k gs (x ∷ xs) = if goes_at x (drop (below gs x) gs) then lowered_by k gs xs else (x - (k + below gs x)) ∷ lowered_by k gs xs

-- one more went in front
by_one_more : (k g : ℕ) (gs xs : List ℕ) → RiseFrom (suc g) xs → lowered_by k (g ∷ gs) xs ≡ lowered_by (suc k) gs xs
by_one_more k g gs [] h = refl
by_one_more k g gs (x ∷ xs) h =
    ap (λ m. if goes_at x (drop m (g ∷ gs)) then lowered_by k (g ∷ gs) xs else (x - (k + m)) ∷ lowered_by k (g ∷ gs) xs) (below_one g gs x (omega (arith, h.0)))
    ∙ ap (λ d. if goes_at x d then lowered_by k (g ∷ gs) xs else (x - (k + (1 + below gs x))) ∷ lowered_by k (g ∷ gs) xs) (one_on (below gs x))
    ∙ ap (λ l. if goes_at x (drop (below gs x) gs) then l else (x - (k + (1 + below gs x))) ∷ l) (by_one_more k g gs xs (lower (suc g) (suc x) xs (omega (arith, h.0)) h.1))
    ∙ ap (λ m. if goes_at x (drop (below gs x) gs) then lowered_by (suc k) gs xs else (x - m) ∷ lowered_by (suc k) gs xs) (omega arith)
  where
    one_on : (n : ℕ) → drop (1 + n) (g ∷ gs) ≡ drop n gs
    one_on n = let e : 1 + n ≡ suc n = omega arith in ap (λ m. drop m (g ∷ gs)) e

-- the first that goes has no index among the others
without_first : (k g : ℕ) (gs xs : List ℕ) → lowered_by k (g ∷ gs) (g ∷ xs) ≡ lowered_by k (g ∷ gs) xs
without_first k g gs xs =
    ap (λ m. if goes_at g (drop m (g ∷ gs)) then lowered_by k (g ∷ gs) xs else (g - (k + m)) ∷ lowered_by k (g ∷ gs) xs) (below_first g)
    ∙ ap (λ b. if b then lowered_by k (g ∷ gs) xs else (g - (k + 0)) ∷ lowered_by k (g ∷ gs) xs) (itself g)
  where
    below_first : (g : ℕ) → below (g ∷ gs) g ≡ 0
    below_first g = ap (λ b. cond b (1 + below gs g) 0) (not_ltb g g (omega arith))

    itself : (g : ℕ) → (g == g) ≡ true
    itself g = search (rules, tests)

-- one in front of all that go stays
with_front : (k x m : ℕ) (gs xs : List ℕ) → RiseFrom (suc x) gs → m + k ≡ x → lowered_by k gs (x ∷ xs) ≡ m ∷ lowered_by k gs xs
with_front k x m gs xs h is =
    ap (λ j. if goes_at x (drop j gs) then lowered_by k gs xs else (x - (k + j)) ∷ lowered_by k gs xs) (below_none gs x (lower x (suc x) gs (omega arith) h))
    ∙ ap (λ b. if b then lowered_by k gs xs else (x - (k + 0)) ∷ lowered_by k gs xs) (stays gs x h)
    ∙ ap (λ j. j ∷ lowered_by k gs xs) (omega (arith, is))
  where
    stays : (gs : List ℕ) (x : ℕ) → RiseFrom (suc x) gs → goes_at x gs ≡ false
    stays [] x h = refl
    stays (g ∷ gs) x h = apart g x h.0
      where
        apart : (g x : ℕ) → suc x ≤ g → (g == x) ≡ false
        apart g x h = grind (arith, nat_tests)

-- ---- the indexes of the events that stay

module _ (p : Event → Bool) where
  cond_gone : (b : Bool) (k g : ℕ) (gs xs : List ℕ) → lowered_by k (g ∷ gs) (cond b (g ∷ xs) xs) ≡ lowered_by k (g ∷ gs) xs
  cond_gone true k g gs xs = without_first k g gs xs
  cond_gone false k g gs xs = refl

  cond_kept : (b : Bool) (k x m : ℕ) (gs xs ys : List ℕ) → RiseFrom (suc x) gs → m + k ≡ x → ys ≡ lowered_by k gs xs → cond b (m ∷ ys) ys ≡ lowered_by k gs (cond b (x ∷ xs) xs)
  cond_kept true k x m gs xs ys h is same = ap (λ l. m ∷ l) same ∙ sym (with_front k x m gs xs h is)
  cond_kept false k x m gs xs ys h is same = same

  kept : (n k m : ℕ) (gs : List ℕ) (e : Event) (es : List Event) → m + k ≡ n → RiseFrom (suc n) gs → places_from (m + 1) p (left_from (n + 1) gs es) ≡ lowered_by k gs (places_from (n + 1) p es)
      → places_from m p (e ∷ left_from (n + 1) gs es) ≡ lowered_by k gs (places_from n p (e ∷ es))
  kept n k m gs e es is rise rest =
      places_cons m p e (left_from (n + 1) gs es)
      ∙ cond_kept (p e) k n m gs (places_from (n + 1) p es) (places_from (m + 1) p (left_from (n + 1) gs es)) rise is rest
      ∙ ap (lowered_by k gs) (sym (places_cons n p e es))

  gone : (n k m : ℕ) (gs : List ℕ) (e : Event) (es : List Event) → places_from m p (left_from (n + 1) gs es) ≡ lowered_by (suc k) gs (places_from (n + 1) p es)
      → places_from m p (left_from (n + 1) gs es) ≡ lowered_by k (n ∷ gs) (places_from n p (e ∷ es))
  gone n k m gs e es rest =
      rest
      ∙ sym (by_one_more k n gs (places_from (n + 1) p es) (lower (suc n) (n + 1) (places_from (n + 1) p es) (omega arith) (above (n + 1) p es)))
      ∙ sym (cond_gone (p e) k n gs (places_from (n + 1) p es))
      ∙ ap (lowered_by k (n ∷ gs)) (sym (places_cons n p e es))

  -- where k went in front of the index n, m is what it is now
  gaps_from : (n k m : ℕ) (gs : List ℕ) (es : List Event) → m + k ≡ n → RiseFrom n gs → places_from m p (left_from n gs es) ≡ lowered_by k gs (places_from n p es)
  gaps_from n k m gs [] is rise = refl
  gaps_from n k m [] (e ∷ es) is rise = kept n k m [] e es is tt (gaps_from (n + 1) k (m + 1) [] es (omega (arith, is)) tt)
  gaps_from n k m (g ∷ gs) (e ∷ es) is rise =
      by (g == n) refl (gaps_from (n + 1) (suc k) m gs es (omega (arith, is))) (gaps_from (n + 1) k (m + 1) (g ∷ gs) es (omega (arith, is)))
    where
      rest : Bool → List Event
      rest b = if b then left_from (n + 1) gs es else e ∷ left_from (n + 1) (g ∷ gs) es

      by : (b : Bool) → (g == n) ≡ b → (RiseFrom (n + 1) gs → places_from m p (left_from (n + 1) gs es) ≡ lowered_by (suc k) gs (places_from (n + 1) p es))
          → (RiseFrom (n + 1) (g ∷ gs) → places_from (m + 1) p (left_from (n + 1) (g ∷ gs) es) ≡ lowered_by k (g ∷ gs) (places_from (n + 1) p es))
          → places_from m p (left_from n (g ∷ gs) (e ∷ es)) ≡ lowered_by k (g ∷ gs) (places_from n p (e ∷ es))
      by true t then_gone then_kept =
          let same : g ≡ n = search (rules, tests) in
          ap (λ b. places_from m p (rest b)) t
          ∙ subst (λ x. places_from m p (left_from (n + 1) gs es) ≡ lowered_by k (x ∷ gs) (places_from n p (e ∷ es))) (sym same)
          (gone n k m gs e es (then_gone (lower (n + 1) (suc g) gs (omega (arith, same)) rise.1)))
      by false f then_gone then_kept =
          let past : suc n ≤ g = grind (arith, nat_tests) in
          ap (λ b. places_from m p (rest b)) f ∙ kept n k m (g ∷ gs) e es is (past, rise.1) (then_kept (omega (arith, past), rise.1))

by_none : (gs xs : List ℕ) → lowered_by 0 gs xs ≡ lowered gs xs
by_none gs [] = refl
by_none gs (x ∷ xs) =
    ap (λ l. if goes_at x (drop (below gs x) gs) then l else (x - (0 + below gs x)) ∷ l) (by_none gs xs)
    ∙ ap (λ m. if goes_at x (drop (below gs x) gs) then lowered gs xs else (x - m) ∷ lowered gs xs) (omega arith)

pub places_left : (p : Event → Bool) (gs : List ℕ) (es : List Event) → RiseFrom 0 gs → places_where p (left_from 0 gs es) ≡ lowered gs (places_where p es)
places_left p gs es rise = gaps_from p 0 0 0 gs es refl rise ∙ by_none gs (places_where p es)

-- ---- the rows

pub rows_rise : (number : Event → Option ℕ) (es : List Event) (r : Rows) → AreRows number es r → (k : ℕ) → RiseFrom 0 (row_of r k)
rows_rise number es r rows k = subst (RiseFrom 0) (sym (rows k)) (above 0 (is_of_row number k) es)

named_left : (P : Event → Type 0) (at : ℕ) (gs : List ℕ) (es : List Event) → AllByRecursion P es → AllByRecursion P (left_from at gs es)
named_left P at gs [] all = tt
named_left P at gs (e ∷ es) all = by (goes_at at gs) (named_left P (at + 1) (drop 1 gs) es all.1) (named_left P (at + 1) gs es all.1)
  where
    by : (b : Bool) → AllByRecursion P (left_from (at + 1) (drop 1 gs) es) → AllByRecursion P (left_from (at + 1) gs es) → AllByRecursion P (if b then left_from (at + 1) (drop 1 gs) es else e ∷ left_from (at + 1) gs es)
    by true gone kept = gone
    by false gone kept = (all.0, kept)

module _ (names : List Name) (es : List Event) (old new : Places) (gs : List ℕ) (rise : RiseFrom 0 gs) where
  rows_closed : (number : Event → Option ℕ) (before after : Rows) → AreRows number es before → ((k : ℕ) → row_of after k ≡ lowered gs (row_of before k)) → AreRows number (left_from 0 gs es) after
  rows_closed number before after rows closed k = closed k ∙ ap (lowered gs) (rows k) ∙ sym (places_left (is_of_row number k) gs es rise)

  pub index_closed : IsIndexOf names es old → ((k : ℕ) → row_of new.own k ≡ lowered gs (row_of old.own k)) → ((k : ℕ) → row_of new.marks k ≡ lowered gs (row_of old.marks k)) → IsIndexOf names (left_from 0 gs es) new
  index_closed index own marks = record {
    named = named_left (IsNamed names) 0 gs es index.named;
    own = rows_closed (event_number names) old.own new.own index.own own;
    marks = rows_closed event_mark old.marks new.marks index.marks marks;
  }
