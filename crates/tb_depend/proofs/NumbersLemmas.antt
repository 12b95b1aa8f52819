-- The ordinals that pass a test.
use Rattle.std.proofs.Common.{◌≡◌, ◌<◌, ◌≤◌, ℕ, zero, suc, List, [], ◌∷◌, ◌++◌, Bool, true, false, cond, length, refl, ap, ap₂, sym, ◌∙◌, arith, append-nil}
use Rattle.std.specs.Bool.{⊤}
use Rattle.std.proofs.Common.{◌⊎◌, inl, inr, subst}
use Rattle.std.specs.Prelude.{Contains, IsTrue, ◌↔◌}
use Rattle.std.proofs.lemmas.List.Elements.{Contains-append_left, Contains-append_right, Contains-append_cases}
use Rattle.std.proofs.lemmas.Bool.{cases_lt}
use Rattle.std.proofs.lemmas.List.{length-append}
use Rattle.tb_depend.specs.Numbers.{numbers_where, AreRising}

-- all are at most k
abbrev AreWithin : ℕ → List ℕ → Type 0
AreWithin k [] = ⊤
AreWithin k (n ∷ ns) = (n ≤ k) × AreWithin k ns

within_more : (k : ℕ) (ns : List ℕ) → AreWithin k ns → AreWithin (suc k) ns
within_more k [] w = tt
within_more k (n ∷ ns) w = (omega (arith, w.0), within_more k ns w.1)

within_push : (k : ℕ) (ns : List ℕ) → AreWithin k ns → AreWithin (suc k) (ns ++ suc k ∷ [])
within_push k [] w = (omega arith, tt)
within_push k (n ∷ ns) w = (omega (arith, w.0), within_push k ns w.1)

rising_push : (low k : ℕ) (ns : List ℕ) → low ≤ k → AreRising low ns → AreWithin k ns → AreRising low (ns ++ suc k ∷ [])
rising_push low k [] l r w = (omega arith, tt)
rising_push low k (n ∷ ns) l r w = (r.0, rising_push n k ns w.0 r.1 w.1)

within_where : (test : ℕ → Bool) (k : ℕ) → AreWithin k (numbers_where test k)
within_where test zero = tt
within_where test (suc k) = at (test (suc k)) (numbers_where test k) (within_where test k)
  where
    at : (b : Bool) (ns : List ℕ) → AreWithin k ns → AreWithin (suc k) (ns ++ cond b (suc k ∷ []) [])
    at true ns w = within_push k ns w
    at false ns w = rw (append-nil ns) (within_more k ns w)

pub rising_where : (test : ℕ → Bool) (k : ℕ) → AreRising 0 (numbers_where test k)
rising_where test zero = tt
rising_where test (suc k) = at (test (suc k)) (numbers_where test k) (rising_where test k) (within_where test k)
  where
    at : (b : Bool) (ns : List ℕ) → AreRising 0 ns → AreWithin k ns → AreRising 0 (ns ++ cond b (suc k ∷ []) [])
    at true ns r w = rising_push 0 k ns (omega arith) r w
    at false ns r w = rw (append-nil ns) r

-- there are at most k
pub length_where : (test : ℕ → Bool) (k : ℕ) → length (numbers_where test k) ≤ k
length_where test zero = omega arith
length_where test (suc k) = at (test (suc k)) (numbers_where test k) (length_where test k)
  where
    at : (b : Bool) (ns : List ℕ) → length ns ≤ k → length (ns ++ cond b (suc k ∷ []) []) ≤ suc k
    at true ns h = omega (arith, length-append ns (suc k ∷ []))
    at false ns h = rw (append-nil ns) (omega arith)

-- after the last ordinal that passes
pub where_past : (test : ℕ → Bool) (k n : ℕ) → k ≤ n → ((m : ℕ) → k < m → m ≤ n → test m ≡ false) → numbers_where test k ≡ numbers_where test n
where_past test k zero h none = let e : k ≡ zero = omega arith in ap (numbers_where test) e
where_past test k (suc n) h none = at (cases_lt n k) (λ l. where_past test k n l (λ m a b. none m a (omega arith)))
  where
    at : (n < k) ⊎ (k ≤ n) → (k ≤ n → numbers_where test k ≡ numbers_where test n) → numbers_where test k ≡ numbers_where test (suc n)
    at (inl l) rest = let e : k ≡ suc n = omega arith in ap (numbers_where test) e
    at (inr l) rest =
        rest l ∙ sym (append-nil (numbers_where test n))
        ∙ ap (λ b. numbers_where test n ++ cond b (suc n ∷ []) []) (sym (none (suc n) (omega arith) (omega arith)))

-- tests that agree up to k
pub where_same : (f g : ℕ → Bool) (k : ℕ) → ((m : ℕ) → m ≤ k → f m ≡ g m) → numbers_where f k ≡ numbers_where g k
where_same f g zero h = refl
where_same f g (suc k) h =
    ap₂ (λ ns b. ns ++ cond b (suc k ∷ []) []) (where_same f g k (λ m w. h m (omega arith))) (h (suc k) (omega arith))

-- ---- which ordinals are there

only : (n m : ℕ) → Contains (n ∷ []) m → n ≡ m
only n m (zero, h, e) = e
only n m (suc k, h, e) = absurd (omega arith)

none_there : (m : ℕ) → Contains {X = ℕ} [] m → ⊥
none_there m (k, h, e) = absurd (omega arith)

listed_then : (test : ℕ → Bool) (k m : ℕ) → Contains (numbers_where test k) m → (1 ≤ m) × (m ≤ k) × IsTrue (test m)
listed_then test zero m h = absurd (none_there m h)
listed_then test (suc k) m h = at (test (suc k)) refl (λ c. listed_then test k m c) (Contains-append_cases (numbers_where test k) _ m h)
  where
    at : (b : Bool) → test (suc k) ≡ b → (Contains (numbers_where test k) m → (1 ≤ m) × (m ≤ k) × IsTrue (test m))
        → Contains (numbers_where test k) m ⊎ Contains (cond (test (suc k)) (suc k ∷ []) []) m → (1 ≤ m) × (m ≤ suc k) × IsTrue (test m)
    at b e rest (inl c) = let r = rest c in (r.0, omega (arith, r.1), r.2)
    at true e rest (inr c) =
        let n = only (suc k) m (subst (λ b. Contains (cond b (suc k ∷ []) []) m) e c) in
        (omega (arith, n), omega (arith, n), ap test (sym n) ∙ e)
    at false e rest (inr c) = absurd (none_there m (subst (λ b. Contains (cond b (suc k ∷ []) []) m) e c))

listed_from : (test : ℕ → Bool) (k m : ℕ) → 1 ≤ m → m ≤ k → IsTrue (test m) → Contains (numbers_where test k) m
listed_from test zero m low high t = absurd (omega arith)
listed_from test (suc k) m low high t = at (cases_lt k m) (λ h. listed_from test k m low h t)
  where
    at : (k < m) ⊎ (m ≤ k) → (m ≤ k → Contains (numbers_where test k) m) → Contains (numbers_where test (suc k)) m
    at (inr l) rest = Contains-append_left (numbers_where test k) _ m (rest l)
    at (inl l) rest =
        let e : m ≡ suc k = omega arith in
        Contains-append_right (numbers_where test k) (cond (test (suc k)) (suc k ∷ []) []) m
        (subst (λ b. Contains (cond b (suc k ∷ []) []) m) (sym (ap test (sym e) ∙ t)) (zero, omega arith, sym e))

-- an ordinal is listed where it is in range and passes
pub listed : (test : ℕ → Bool) (k m : ℕ) → Contains (numbers_where test k) m ↔ ((1 ≤ m) × (m ≤ k) × IsTrue (test m))
listed test k m = (listed_then test k m, λ r. listed_from test k m r.0 r.1 r.2)
