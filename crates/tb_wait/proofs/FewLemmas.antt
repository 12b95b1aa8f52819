-- A word as a set of ordinals, and a set in two parts.
use Rattle.std.proofs.Common.{◌≡◌, ◌≢◌, ℕ, zero, suc, ◌+◌, ◌-◌, ◌/◌, ◌^◌, ◌<◌, ◌≤◌, List, [], ◌∷◌, ◌++◌, Bool, true, false, cond, ◌||◌, ◌&&◌, ◌%◌, ◌==◌, nat_lt, nat_eq, Option, Some, None, refl, sym, ap, ◌∙◌, subst, arith, inl, inr, eqb-true, eq-eqb, w64, shr-shr}
use Rattle.std.proofs.lemmas.Nat.{shr_le}
use Rattle.std.specs.Int.{bit_at, trailing_zeros}
use Rattle.std.proofs.lemmas.Bool.{cases_eq, false≢true}
use Rattle.std.proofs.lemmas.Bool.Decides.{nat_tests}
use Rattle.std.proofs.lemmas.Nat.Bits.{bit_at-zero, bit_at-trailing_zeros, bit_at_above}
use Rattle.tb_wait.specs.Numbers.{has, is_empty, IsPut, IsNextAbove, AreFrom}
use Rattle.tb_wait.specs.Few.{held, held_below}

-- ---- a word

held_beyond : (word k n : ℕ) → k ≤ n → has (held_below word k) n ≡ false
unfolding held_below
held_beyond word zero n l = refl
held_beyond word (suc k) n l = at (held_beyond word k n (omega (arith, l))) (bit_at word k == 1)
  where
    at : has (held_below word k) n ≡ false → (b : Bool) → has (cond b (k ∷ []) [] ++ held_below word k) n ≡ false
    at h true = let no : (k == n) ≡ false = grind (arith, nat_tests) in ap (λ b. b || has (held_below word k) n) no ∙ h
    at h false = h

held_at : (word k n : ℕ) → n < k → has (held_below word k) n ≡ (bit_at word n == 1)
unfolding held_below
held_at word zero n l = absurd (omega (arith, l))
held_at word (suc k) n l = at (λ i. held_at word k n i) (bit_at word k == 1) refl
  where
    last : k ≡ n → (b : Bool) → (bit_at word k == 1) ≡ b → has (cond b (k ∷ []) [] ++ held_below word k) n ≡ (bit_at word n == 1)
    last e true t = ap (λ b. b || has (held_below word k) n) (eq-eqb k n e) ∙ sym t ∙ ap (λ j. bit_at word j == 1) e
    last e false t = held_beyond word k n (omega (arith, e)) ∙ sym t ∙ ap (λ j. bit_at word j == 1) e

    other : k ≢ n → has (held_below word k) n ≡ (bit_at word n == 1) → (b : Bool) → has (cond b (k ∷ []) [] ++ held_below word k) n ≡ (bit_at word n == 1)
    other d h true = let no : (k == n) ≡ false = grind (arith, nat_tests) in ap (λ b. b || has (held_below word k) n) no ∙ h
    other d h false = h

    at : (n < k → has (held_below word k) n ≡ (bit_at word n == 1)) → (b : Bool) → (bit_at word k == 1) ≡ b → has (cond b (k ∷ []) [] ++ held_below word k) n ≡ (bit_at word n == 1)
    at f b t =
        elim (cases_eq k n) [
          | inl e ↦ last e b t
          | inr d ↦ other d (f (omega (arith, l, d))) b
        ]

none_held : (k : ℕ) → held_below 0 k ≡ []
unfolding held_below
none_held zero = refl
none_held (suc k) = at (none_held k) (bit_at 0 k == 1) refl
  where
    at : held_below 0 k ≡ [] → (b : Bool) → (bit_at 0 k == 1) ≡ b → cond b (k ∷ []) [] ++ held_below 0 k ≡ []
    at h true t = absurd (omega (arith, bit_at-zero k, eqb-true (bit_at 0 k) 1 t))
    at h false t = h

-- an ordinal below 64 is held where its bit is set, and no other ordinal is
pub has_held : (word n : ℕ) → n < 64 → has (held word) n ≡ (bit_at word n == 1)
unfolding held
has_held word n l = held_at word 64 n l

pub held_few : (word n : ℕ) → 64 ≤ n → has (held word) n ≡ false
unfolding held
held_few word n l = held_beyond word 64 n l

pub held_none : held 0 ≡ []
unfolding held
held_none = none_held 64

held_within : (word n : ℕ) → has (held word) n ≡ true → n < 64
held_within word n h = at (nat_lt n 64) refl
  where
    at : (b : Bool) → nat_lt n 64 ≡ b → n < 64
    at true t = grind (arith, nat_tests)
    at false t = let l : 64 ≤ n = grind (arith, nat_tests) in absurd (false≢true (sym (held_few word n l) ∙ h))

held_bit : (word n : ℕ) → has (held word) n ≡ true → bit_at word n ≡ 1
held_bit word n h = eqb-true (bit_at word n) 1 (sym (has_held word n (held_within word n h)) ∙ h)

bit_held : (word n : ℕ) → n < 64 → bit_at word n ≡ 1 → has (held word) n ≡ true
bit_held word n l b = has_held word n l ∙ eq-eqb (bit_at word n) 1 b

not_none : (xs : List ℕ) (n : ℕ) → has xs n ≡ true → is_empty xs ≡ false
not_none [] n h = absurd (false≢true h)
not_none (x ∷ xs) n h = refl

pub held_empty : (word : ℕ) → word < 2 ^ 64 → nat_eq word 0 ≡ is_empty (held word)
held_empty word fits =
    elim (cases_eq word 0) [
      | inl e ↦ eq-eqb word 0 e ∙ sym (ap is_empty (ap held e ∙ held_none))
      | inr d ↦
          let t = bit_at-trailing_zeros w64 word (omega (arith, d)) fits in
          let no : nat_eq word 0 ≡ false = grind (arith, nat_tests) in
          no ∙ sym (not_none (held word) (trailing_zeros w64 word) (bit_held word (trailing_zeros w64 word) t.0 t.1))
    ]

pub held_put : (old new n : ℕ) (there : Bool) → n < 64 → (bit_at new n == 1) ≡ there → ((i : ℕ) → i < 64 → i ≢ n → bit_at new i ≡ bit_at old i) → IsPut (held old) n there (held new)
held_put old new n there l here others m = at (nat_lt m 64) refl (n == m) refl
  where
    at : (b : Bool) → nat_lt m 64 ≡ b → (c : Bool) → (n == m) ≡ c → has (held new) m ≡ cond c there (has (held old) m)
    at true t true e = ap (has (held new)) (sym (eqb-true n m e)) ∙ has_held new n l ∙ here
    at true t false e =
        let few : m < 64 = grind (arith, nat_tests) in
        has_held new m few ∙ ap (λ x. x == 1) (others m few (λ q. false≢true (sym e ∙ eq-eqb n m (sym q)))) ∙ sym (has_held old m few)
    at false t true e = let more : 64 ≤ m = grind (arith, nat_tests) in absurd (omega (arith, eqb-true n m e))
    at false t false e = let more : 64 ≤ m = grind (arith, nat_tests) in held_few new m more ∙ sym (held_few old m more)

-- the bits above an ordinal are at the beginning of the word that is moved down by one more
module _ (word low : ℕ) (fits : word < 2 ^ 64) where
  abbrev left : ℕ
  left = word / 2 ^ (low + 1)

  left_bit : (i : ℕ) → bit_at left i ≡ bit_at word (low + 1 + i)
  left_bit i = ap (λ x. x % 2) (shr-shr word (low + 1) i)

  above_bit : (n : ℕ) → low < n → has (held word) n ≡ true → bit_at left (n - low - 1) ≡ 1
  above_bit n a h = left_bit (n - low - 1) ∙ ap (bit_at word) (omega (arith, a)) ∙ held_bit word n h

  pub held_next : 0 < left → IsNextAbove (held word) low (Some (low + 1 + trailing_zeros w64 left))
  held_next some =
      let t = bit_at-trailing_zeros w64 left some (omega (arith, fits, shr_le word (low + 1))) in
      let here = sym (left_bit (trailing_zeros w64 left)) ∙ t.1 in
      let few = within (low + 1 + trailing_zeros w64 left) here in
      record {
        found = λ n s. (omega (arith, is s), subst (λ m. has (held word) m ≡ true) (is s) (bit_held word (low + 1 + trailing_zeros w64 left) few here));
        least = λ n a h. (low + 1 + trailing_zeros w64 left, refl, least t.2 n a h (nat_lt n (low + 1 + trailing_zeros w64 left)) refl);
      }
    where
      is : {n : ℕ} → Some (low + 1 + trailing_zeros w64 left) ≡ Some n → low + 1 + trailing_zeros w64 left ≡ n
      is s = cc

      within : (n : ℕ) → bit_at word n ≡ 1 → n < 64
      within n b = at (nat_lt n 64) refl
        where
          at : (c : Bool) → nat_lt n 64 ≡ c → n < 64
          at true e = grind (arith, nat_tests)
          at false e = let more : 64 ≤ n = grind (arith, nat_tests) in absurd (omega (arith, b, bit_at_above word 64 n fits more))

      least : ((i : ℕ) → i < trailing_zeros w64 left → bit_at left i ≡ 0) → (n : ℕ) → low < n → has (held word) n ≡ true → (b : Bool) → nat_lt n (low + 1 + trailing_zeros w64 left) ≡ b → low + 1 + trailing_zeros w64 left ≤ n
      least f n a h false e = grind (arith, nat_tests)
      least f n a h true e =
          let less : n < low + 1 + trailing_zeros w64 left = grind (arith, nat_tests) in
          absurd (omega (arith, above_bit n a h, f (n - low - 1) (omega (arith, a, less))))

  pub held_last : left ≡ 0 → IsNextAbove (held word) low None
  held_last none = record {
    found = λ n s. cc;
    least = λ n a h. absurd (omega (arith, sym (above_bit n a h) ∙ ap (λ x. bit_at x (n - low - 1)) none ∙ bit_at-zero (n - low - 1)));
  }

pub held_far : (word low : ℕ) → 63 ≤ low → IsNextAbove (held word) low None
held_far word low far = record {
  found = λ n s. cc;
  least = λ n a h. absurd (omega (arith, far, a, held_within word n h));
}

-- ---- two parts

pub has_both : (xs ys : List ℕ) (n : ℕ) → has (xs ++ ys) n ≡ (has xs n || has ys n)
has_both [] ys n = refl
has_both (x ∷ xs) ys n = ap (λ b. (x == n) || b) (has_both xs ys n) ∙ turn (x == n) (has xs n) (has ys n)
  where
    turn : (a b c : Bool) → (a || (b || c)) ≡ ((a || b) || c)
    turn true b c = refl
    turn false b c = refl

module _ (word : ℕ) (many : List ℕ) (from : AreFrom 64 many) where
  pub has_few : (n : ℕ) → n < 64 → has (held word) n ≡ has (held word ++ many) n
  has_few n l = sym (has_both (held word) many n ∙ ap (λ b. has (held word) n || b) (from n l) ∙ turn (has (held word) n))
    where
      turn : (b : Bool) → (b || false) ≡ b
      turn true = refl
      turn false = refl

  pub has_many : (n : ℕ) → 64 ≤ n → has many n ≡ has (held word ++ many) n
  has_many n l = sym (has_both (held word) many n ∙ ap (λ b. b || has many n) (held_few word n l))

  pub put_few : (new n : ℕ) (there : Bool) → n < 64 → IsPut (held word) n there (held new) → IsPut (held word ++ many) n there (held new ++ many)
  put_few new n there l put m = has_both (held new) many m ∙ ap (λ b. b || has many m) (put m) ∙ at (n == m) refl
    where
      turn : (b : Bool) → (b || false) ≡ b
      turn true = refl
      turn false = refl

      at : (b : Bool) → (n == m) ≡ b → (cond b there (has (held word) m) || has many m) ≡ cond b there (has (held word ++ many) m)
      at true e = ap (λ b. there || b) (from m (omega (arith, l, eqb-true n m e))) ∙ turn there
      at false e = sym (has_both (held word) many m)

  pub put_many : (new : List ℕ) (n : ℕ) (there : Bool) → 64 ≤ n → IsPut many n there new → IsPut (held word ++ many) n there (held word ++ new)
  put_many new n there l put m = has_both (held word) new m ∙ ap (λ b. has (held word) m || b) (put m) ∙ at (n == m) refl
    where
      at : (b : Bool) → (n == m) ≡ b → (has (held word) m || cond b there (has many m)) ≡ cond b there (has (held word ++ many) m)
      at true e = ap (λ b. b || there) (held_few word m (omega (arith, l, eqb-true n m e)))
      at false e = sym (has_both (held word) many m)

  pub put_from : (new : List ℕ) (n : ℕ) (there : Bool) → 64 ≤ n → IsPut many n there new → AreFrom 64 new
  put_from new n there l put m few = put m ∙ at (n == m) refl
    where
      at : (b : Bool) → (n == m) ≡ b → cond b there (has many m) ≡ false
      at true e = absurd (omega (arith, l, few, eqb-true n m e))
      at false e = from m few

  pub next_few : (low n : ℕ) → IsNextAbove (held word) low (Some n) → IsNextAbove (held word ++ many) low (Some n)
  next_few low n next = record {
    found = λ m s. let f = next.found m s in (f.0, has_both (held word) many m ∙ ap (λ b. b || has many m) f.1);
    least = λ m a h. (n, refl, at m a h (has (held word) m) refl);
  }
    where
      small : n < 64
      small = held_within word n (next.found n refl).1

      at : (m : ℕ) → low < m → has (held word ++ many) m ≡ true → (b : Bool) → has (held word) m ≡ b → n ≤ m
      at m a h true e = let l = next.least m a e in omega (arith, l.2, is l.1)
        where
          is : {k : ℕ} → Some n ≡ Some k → n ≡ k
          is s = cc
      at m a h false e = late (nat_lt m 64) refl
        where
          late : (b : Bool) → nat_lt m 64 ≡ b → n ≤ m
          late true t = let l : m < 64 = grind (arith, nat_tests) in absurd (false≢true (sym e ∙ has_few m l ∙ h))
          late false t = let l : 64 ≤ m = grind (arith, nat_tests) in omega (arith, l, small)

  pub next_many : (low : ℕ) (o : Option ℕ) → IsNextAbove (held word) low None → IsNextAbove many low o → IsNextAbove (held word ++ many) low o
  next_many low o none next = record {
    found = λ n s. let f = next.found n s in (f.0, has_both (held word) many n ∙ ap (λ b. has (held word) n || b) f.1 ∙ turn (has (held word) n));
    least = λ n a h. next.least n a (at n a h (has (held word) n) refl);
  }
    where
      turn : (b : Bool) → (b || true) ≡ true
      turn true = refl
      turn false = refl

      no : {n : ℕ} → None ≡ Some n → ⊥
      no s = cc

      at : (n : ℕ) → low < n → has (held word ++ many) n ≡ true → (b : Bool) → has (held word) n ≡ b → has many n ≡ true
      at n a h true e = absurd (no (none.least n a e).1)
      at n a h false e = ap (λ b. b || has many n) (sym e) ∙ sym (has_both (held word) many n) ∙ h

pub both_empty : (xs ys : List ℕ) → (is_empty xs && is_empty ys) ≡ is_empty (xs ++ ys)
both_empty [] ys = refl
both_empty (x ∷ xs) ys = refl
