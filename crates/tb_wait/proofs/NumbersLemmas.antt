-- A rising list of ordinals as a set.
use Rattle.std.proofs.Common.{◌≡◌, ℕ, zero, suc, ◌+◌, ◌<◌, ◌≤◌, List, [], ◌∷◌, ◌++◌, drop, Bool, true, false, cond, ◌||◌, ◌==◌, nat_lt, Option, Some, None, length, get_or, refl, sym, ap, ◌∙◌, subst, arith, ⊎_elim, eqb-true, eq-eqb, nat_eq, Result, Ok, Err, OnErr, OnOk, IsOk, IsSome, OnSome}
use Rattle.std.specs.List.{insert, remove}
use Rattle.std.proofs.lemmas.Bool.{false≢true, or_cases, or_left, or_right}
use Rattle.std.specs.Cmp.{both_ways}
use Rattle.std.proofs.lemmas.Bool.Decides.{nat_tests}
use Rattle.tb_wait.specs.Numbers.{has, Rises, IsPut, IsNextAbove, below}

-- ---- the search

pub below_len : (n : ℕ) (xs : List ℕ) → below n xs ≤ length xs
below_len n [] = omega arith
below_len n (x ∷ xs) = at (nat_lt x n) (below_len n xs)
  where
    at : (b : Bool) → below n xs ≤ length xs → cond b (suc (below n xs)) 0 ≤ length (x ∷ xs)
    at true h = omega (arith, h)
    at false h = omega arith

-- what is in the list is above its beginning
above_low : (low : ℕ) (xs : List ℕ) (high k d : ℕ) → Rises low xs high → k < length xs → low < get_or xs k d
above_low low [] high k d r l = absurd (omega (arith, l))
above_low low (x ∷ xs) high zero d r l = r.0
above_low low (x ∷ xs) high (suc k) d r l = omega (arith, r.0, above_low x xs high k d r.1 (omega (arith, l)))

pub search_up : (low : ℕ) (xs : List ℕ) (high n k d : ℕ) → Rises low xs high → k < length xs → get_or xs k d < n → k < below n xs
search_up low [] high n k d r l h = absurd (omega (arith, l))
search_up low (x ∷ xs) high n zero d r l h = at (nat_lt x n) refl
  where
    at : (b : Bool) → nat_lt x n ≡ b → zero < cond b (suc (below n xs)) 0
    at true e = omega arith
    at false e = absurd (grind (arith, nat_tests))
search_up low (x ∷ xs) high n (suc k) d r l h = at (search_up x xs high n k d r.1 (omega (arith, l)) h) (nat_lt x n) refl
  where
    at : k < below n xs → (b : Bool) → nat_lt x n ≡ b → suc k < cond b (suc (below n xs)) 0
    at i true e = omega (arith, i)
    at i false e = let a = above_low x xs high k d r.1 (omega (arith, l)) in absurd (grind (arith, nat_tests))

pub search_down : (low : ℕ) (xs : List ℕ) (high n k d : ℕ) → Rises low xs high → k < length xs → n ≤ get_or xs k d → below n xs ≤ k
search_down low [] high n k d r l h = absurd (omega (arith, l))
search_down low (x ∷ xs) high n zero d r l h = at (nat_lt x n) refl
  where
    at : (b : Bool) → nat_lt x n ≡ b → cond b (suc (below n xs)) 0 ≤ zero
    at true e = absurd (grind (arith, nat_tests))
    at false e = omega arith
search_down low (x ∷ xs) high n (suc k) d r l h = at (search_down x xs high n k d r.1 (omega (arith, l)) h) (nat_lt x n)
  where
    at : below n xs ≤ k → (b : Bool) → cond b (suc (below n xs)) 0 ≤ suc k
    at i true = omega (arith, i)
    at i false = omega arith

-- ---- what is there

has_at : (xs : List ℕ) (k d n : ℕ) → k < length xs → get_or xs k d ≡ n → has xs n ≡ true
has_at [] k d n l e = absurd (omega (arith, l))
has_at (x ∷ xs) zero d n l e = or_left (x == n) (has xs n) (eq-eqb x n e)
has_at (x ∷ xs) (suc k) d n l e = or_right (x == n) (has xs n) (has_at xs k d n (omega (arith, l)) e)

-- an ordinal below the first isn't there
none_low : (low : ℕ) (xs : List ℕ) (high n : ℕ) → Rises low xs high → n ≤ low → has xs n ≡ false
none_low low [] high n r l = refl
none_low low (x ∷ xs) high n r l =
    let first : (x == n) ≡ false = grind (arith, nat_tests, r.0) in
    ap (λ b. b || has xs n) first ∙ none_low x xs high n r.1 (omega (arith, r.0))

-- where an ordinal would be: it is there just where it is there
there : (low : ℕ) (xs : List ℕ) (high n d : ℕ) → Rises low xs high → has xs n ≡ true → (below n xs < length xs) × (get_or xs (below n xs) d ≡ n)
there low [] high n d r h = absurd (false≢true h)
there low (x ∷ xs) high n d r h = at (λ g. there x xs high n d r.1 g) (nat_lt x n) refl
  where
    at : (has xs n ≡ true → (below n xs < length xs) × (get_or xs (below n xs) d ≡ n)) → (b : Bool) → nat_lt x n ≡ b
        → (cond b (suc (below n xs)) 0 < length (x ∷ xs)) × (get_or (x ∷ xs) (cond b (suc (below n xs)) 0) d ≡ n)
    at rest true e =
        let no : (x == n) ≡ false = grind (arith, nat_tests) in
        let g = rest (sym (ap (λ b. b || has xs n) no) ∙ h) in
        (omega (arith, g.0), g.1)
    at rest false e = (omega arith, ⊎_elim (λ y. eqb-true x n y) (λ y. absurd (late (nat_lt n x) refl y)) (or_cases (x == n) (has xs n) h))
      where
        late : (b : Bool) → nat_lt n x ≡ b → has xs n ≡ true → ⊥
        late true f y = false≢true (sym (none_low x xs high n r.1 (grind (arith, nat_tests))) ∙ y)
        late false f y = false≢true (sym (none_low x xs high n r.1 (grind (arith, nat_tests))) ∙ y)

-- ---- putting in and taking out

abbrev put : ℕ → List ℕ → List ℕ
put n [] = n ∷ []
put n (x ∷ xs) = cond (nat_lt x n) (x ∷ put n xs) (n ∷ x ∷ xs)

abbrev cut : ℕ → List ℕ → List ℕ
cut n [] = []
cut n (x ∷ xs) = cond (nat_lt x n) (x ∷ cut n xs) xs

insert_is_put : (n : ℕ) (xs : List ℕ) → insert xs (below n xs) n ≡ put n xs
insert_is_put n [] = refl
insert_is_put n (x ∷ xs) = at (insert_is_put n xs) (nat_lt x n)
  where
    at : insert xs (below n xs) n ≡ put n xs → (b : Bool) → insert (x ∷ xs) (cond b (suc (below n xs)) 0) n ≡ cond b (x ∷ put n xs) (n ∷ x ∷ xs)
    at h true = ap (λ l. x ∷ l) h
    at h false = refl

remove_is_cut : (n : ℕ) (xs : List ℕ) → remove xs (below n xs) ≡ cut n xs
remove_is_cut n [] = refl
remove_is_cut n (x ∷ xs) = at (remove_is_cut n xs) (nat_lt x n)
  where
    at : remove xs (below n xs) ≡ cut n xs → (b : Bool) → remove (x ∷ xs) (cond b (suc (below n xs)) 0) ≡ cond b (x ∷ cut n xs) xs
    at h true = ap (λ l. x ∷ l) h
    at h false = refl

-- at the end, and from the beginning
pub put_last : (xs : List ℕ) (n at : ℕ) → at ≡ length xs → xs ++ n ∷ [] ≡ insert xs at n
put_last xs n at e = last xs ∙ ap (λ k. insert xs k n) (sym e)
  where
    last : (ys : List ℕ) → ys ++ n ∷ [] ≡ insert ys (length ys) n
    last [] = refl
    last (y ∷ ys) = ap (λ l. y ∷ l) (last ys)

pub cut_first : (xs : List ℕ) (at : ℕ) → at ≡ 0 → drop 1 xs ≡ remove xs at
cut_first xs at e = first xs ∙ ap (remove xs) (sym e)
  where
    first : (ys : List ℕ) → drop 1 ys ≡ remove ys 0
    first [] = refl
    first (y ∷ ys) = refl

put_has : (n : ℕ) (xs : List ℕ) → IsPut xs n true (put n xs)
put_has n [] m = turn (n == m)
  where
    turn : (b : Bool) → (b || false) ≡ cond b true false
    turn true = refl
    turn false = refl
put_has n (x ∷ xs) m = at (put_has n xs m) (nat_lt x n)
  where
    turn : (a b c : Bool) → (a || cond b true c) ≡ cond b true (a || c)
    turn true true c = refl
    turn true false c = refl
    turn false b c = refl

    front : (a b : Bool) → (a || b) ≡ cond a true b
    front true b = refl
    front false b = refl

    at : has (put n xs) m ≡ cond (n == m) true (has xs m) → (b : Bool) → has (cond b (x ∷ put n xs) (n ∷ x ∷ xs)) m ≡ cond (n == m) true (has (x ∷ xs) m)
    at h true = ap (λ b. (x == m) || b) h ∙ turn (x == m) (n == m) (has xs m)
    at h false = front (n == m) (has (x ∷ xs) m)

put_rises : (low n : ℕ) (xs : List ℕ) (high : ℕ) → Rises low xs high → low < n → n ≤ high → has xs n ≡ false → Rises low (put n xs) high
put_rises low n [] high r a b h = (a, b)
put_rises low n (x ∷ xs) high r a b h = at (λ c g. put_rises x n xs high r.1 c b g) (nat_lt x n) refl
  where
    rest : (p q : Bool) → (p || q) ≡ false → (p ≡ false) × (q ≡ false)
    rest true q e = cc
    rest false q e = (refl, e)

    at : (x < n → has xs n ≡ false → Rises x (put n xs) high) → (b : Bool) → nat_lt x n ≡ b → Rises low (cond b (x ∷ put n xs) (n ∷ x ∷ xs)) high
    at f true e = (r.0, f (grind (arith, nat_tests)) (rest (x == n) (has xs n) h).1)
    at f false e = let no = (rest (x == n) (has xs n) h).0 in (a, (grind (arith, nat_tests), r.1))

cut_has : (low n : ℕ) (xs : List ℕ) (high : ℕ) → Rises low xs high → has xs n ≡ true → IsPut xs n false (cut n xs)
cut_has low n [] high r h m = absurd (false≢true h)
cut_has low n (x ∷ xs) high r h m = at (λ g. cut_has x n xs high r.1 g m) (nat_lt x n) refl
  where
    turn : (a b c : Bool) → (a ≡ true → b ≡ true → ⊥) → (a || cond b false c) ≡ cond b false (a || c)
    turn true true c f = absurd (f refl refl)
    turn true false c f = refl
    turn false b c f = refl

    skip : (a b c : Bool) → a ≡ b → (b ≡ true → c ≡ false) → c ≡ cond b false (a || c)
    skip a true c e f = f refl
    skip true false c e f = cc
    skip false false c e f = refl

    at : (has xs n ≡ true → has (cut n xs) m ≡ cond (n == m) false (has xs m)) → (b : Bool) → nat_lt x n ≡ b → has (cond b (x ∷ cut n xs) xs) m ≡ cond (n == m) false (has (x ∷ xs) m)
    at f true e =
        let no : (x == n) ≡ false = grind (arith, nat_tests) in
        ap (λ b. (x == m) || b) (f (sym (ap (λ b. b || has xs n) no) ∙ h))
        ∙ turn (x == m) (n == m) (has xs m) (λ p q. false≢true (sym no ∙ eq-eqb x n (eqb-true x m p ∙ sym (eqb-true n m q))))
    at f false e =
        let g = there low (x ∷ xs) high n 0 r h in
        let zero_at : below n (x ∷ xs) ≡ 0 = ap (λ b. cond b (suc (below n xs)) 0) e in
        let same : x ≡ n = subst (λ k. get_or (x ∷ xs) k 0 ≡ n) zero_at g.1 in
        skip (x == m) (n == m) (has xs m) (ap (λ y. y == m) same)
        (λ q. none_low x xs high m r.1 (omega (arith, eqb-true n m q)))

weaker : (low x : ℕ) (xs : List ℕ) (high : ℕ) → low ≤ x → Rises x xs high → Rises low xs high
weaker low x [] high l r = omega (arith, r)
weaker low x (y ∷ xs) high l r = (omega (arith, r.0), r.1)

cut_rises : (low n : ℕ) (xs : List ℕ) (high : ℕ) → Rises low xs high → Rises low (cut n xs) high
cut_rises low n [] high r = r
cut_rises low n (x ∷ xs) high r = at (cut_rises x n xs high r.1) (nat_lt x n)
  where
    at : Rises x (cut n xs) high → (b : Bool) → Rises low (cond b (x ∷ cut n xs) xs) high
    at h true = (r.0, h)
    at h false = weaker low x xs high (omega (arith, r.0)) r.1

-- ---- in the words of the code

pub rises_len : (low : ℕ) (xs : List ℕ) (high : ℕ) → Rises low xs high → low + length xs ≤ high
rises_len low [] high r = omega (arith, r)
rises_len low (x ∷ xs) high r = omega (arith, r.0, rises_len x xs high r.1)

pub raised : (low : ℕ) (xs : List ℕ) (high more : ℕ) → high ≤ more → Rises low xs high → Rises low xs more
raised low [] high more l r = omega (arith, r)
raised low (x ∷ xs) high more l r = (r.0, raised x xs high more l r.1)

pub insert_rises : (xs : List ℕ) (n high : ℕ) → Rises 0 xs high → 0 < n → n ≤ high → has xs n ≡ false → Rises 0 (insert xs (below n xs) n) high
insert_rises xs n high r a b h = subst (λ l. Rises 0 l high) (sym (insert_is_put n xs)) (put_rises 0 n xs high r a b h)

pub insert_fits : (xs : List ℕ) (n high : ℕ) → Rises 0 xs high → 0 < n → n ≤ high → has xs n ≡ false → length xs < high
insert_fits xs n high r a b h =
    let len : length (put n xs) ≡ suc (length xs) = put_len n xs in
    let le = rises_len 0 (put n xs) high (put_rises 0 n xs high r a b h) in
    omega arith
  where
    put_len : (n : ℕ) (xs : List ℕ) → length (put n xs) ≡ suc (length xs)
    put_len n [] = refl
    put_len n (x ∷ xs) = at (put_len n xs) (nat_lt x n)
      where
        at : length (put n xs) ≡ suc (length xs) → (b : Bool) → length (cond b (x ∷ put n xs) (n ∷ x ∷ xs)) ≡ suc (length (x ∷ xs))
        at h true = ap suc h
        at h false = refl

pub insert_puts : (xs : List ℕ) (n : ℕ) → IsPut xs n true (insert xs (below n xs) n)
insert_puts xs n = subst (IsPut xs n true) (sym (insert_is_put n xs)) (put_has n xs)

pub remove_rises : (xs : List ℕ) (n high : ℕ) → Rises 0 xs high → Rises 0 (remove xs (below n xs)) high
remove_rises xs n high r = subst (λ l. Rises 0 l high) (sym (remove_is_cut n xs)) (cut_rises 0 n xs high r)

pub remove_puts : (xs : List ℕ) (n high : ℕ) → Rises 0 xs high → has xs n ≡ true → IsPut xs n false (remove xs (below n xs))
remove_puts xs n high r h = subst (IsPut xs n false) (sym (remove_is_cut n xs)) (cut_has 0 n xs high r h)

-- nothing changes where it is as given already
pub put_same : (xs : List ℕ) (n : ℕ) (b : Bool) → has xs n ≡ b → IsPut xs n b xs
put_same xs n b e m = at (n == m) refl
  where
    at : (c : Bool) → (n == m) ≡ c → has xs m ≡ cond c b (has xs m)
    at true q = ap (has xs) (sym (eqb-true n m q)) ∙ e
    at false q = refl

pub has_test : (xs : List ℕ) (high k v n : ℕ) → Rises 0 xs high → k ≡ below n xs → k < length xs → v ≡ get_or xs k 0 → nat_eq v n ≡ has xs n
has_test xs high k v n r b l e = at (has xs n) refl
  where
    at : (t : Bool) → has xs n ≡ t → nat_eq v n ≡ has xs n
    at true h =
        let g = (there 0 xs high n 0 r h).1 in
        eq-eqb v n (e ∙ ap (λ j. get_or xs j 0) b ∙ g) ∙ sym h
    at false h = both_ways (nat_eq v n) (has xs n) (λ y. has_at xs k 0 n l (sym e ∙ eqb-true v n y)) (λ y. absurd (false≢true (sym h ∙ y)))

pub has_behind : (xs : List ℕ) (high k n len : ℕ) → Rises 0 xs high → k ≡ below n xs → len ≡ length xs → len ≤ k → nat_lt k len ≡ has xs n
has_behind xs high k n len r b e l = at (has xs n) refl
  where
    at : (t : Bool) → has xs n ≡ t → nat_lt k len ≡ has xs n
    at true h = let g = (there 0 xs high n 0 r h).0 in absurd (omega arith)
    at false h = grind (arith, nat_tests)

pub next_found : (xs : List ℕ) (high k v low : ℕ) → Rises 0 xs high → k ≡ below (low + 1) xs → k < length xs → v ≡ get_or xs k 0 → IsNextAbove xs low (Some v)
next_found xs high k v low r b l e = record {
  found = λ n s. (above n s, has_at xs k 0 n l (sym e ∙ some s));
  least = λ n a h. (v, refl, least n a h);
}
  where
    some : {n : ℕ} → Some v ≡ Some n → v ≡ n
    some s = cc

    big : low < v
    big = at (nat_lt low v) refl
      where
        at : (t : Bool) → nat_lt low v ≡ t → low < v
        at true q = grind (arith, nat_tests)
        at false q =
            let small : v ≤ low = grind (arith, nat_tests) in
            let up = search_up 0 xs high (low + 1) k 0 r l (omega (arith, e)) in absurd (omega arith)

    above : (n : ℕ) → Some v ≡ Some n → low < n
    above n s = subst (λ m. low < m) (some s) big

    least : (n : ℕ) → low < n → has xs n ≡ true → v ≤ n
    least n a h = at (nat_lt n v) refl
      where
        g : (below n xs < length xs) × (get_or xs (below n xs) 0 ≡ n)
        g = there 0 xs high n 0 r h

        at : (t : Bool) → nat_lt n v ≡ t → v ≤ n
        at false q = grind (arith, nat_tests)
        at true q =
            let small : n < v = grind (arith, nat_tests) in
            let one = search_down 0 xs high (low + 1) (below n xs) 0 r g.0 (omega (arith, g.1, a)) in
            let two = search_up 0 xs high v (below n xs) 0 r g.0 (omega (arith, g.1)) in
            let three = search_down 0 xs high v k 0 r l (omega (arith, e)) in
            absurd (omega arith)

pub next_none : (xs : List ℕ) (high k low : ℕ) → Rises 0 xs high → k ≡ below (low + 1) xs → length xs ≤ k → IsNextAbove xs low None
next_none xs high k low r b l = record {
  found = λ n s. cc;
  least = λ n a h.
      let g = there 0 xs high n 0 r h in
      let one = search_down 0 xs high (low + 1) (below n xs) 0 r g.0 (omega (arith, g.1, a)) in
      absurd (omega (arith, g.0));
}

pub added : (xs ys : List ℕ) (n k : ℕ) → k ≡ below n xs → ys ≡ insert xs k n → IsPut xs n true ys
added xs ys n k b e = subst (IsPut xs n true) (sym (e ∙ ap (λ j. insert xs j n) b)) (insert_puts xs n)

pub added_rises : (xs ys : List ℕ) (n high k : ℕ) → Rises 0 xs high → 0 < n → n ≤ high → has xs n ≡ false → k ≡ below n xs → ys ≡ insert xs k n → Rises 0 ys high
added_rises xs ys n high k r a l h b e = subst (λ zs. Rises 0 zs high) (sym (e ∙ ap (λ j. insert xs j n) b)) (insert_rises xs n high r a l h)

pub removed : (xs ys : List ℕ) (n high k : ℕ) → Rises 0 xs high → has xs n ≡ true → k ≡ below n xs → ys ≡ remove xs k → IsPut xs n false ys
removed xs ys n high k r h b e = subst (IsPut xs n false) (sym (e ∙ ap (remove xs) b)) (remove_puts xs n high r h)

pub removed_rises : (xs ys : List ℕ) (n high k : ℕ) → Rises 0 xs high → k ≡ below n xs → ys ≡ remove xs k → Rises 0 ys high
removed_rises xs ys n high k r b e = subst (λ zs. Rises 0 zs high) (sym (e ∙ ap (remove xs) b)) (remove_rises xs n high r)

pub has_within : (xs : List ℕ) (n high k : ℕ) → Rises 0 xs high → has xs n ≡ true → k ≡ below n xs → k < length xs
has_within xs n high k r h b = let g = (there 0 xs high n 0 r h).0 in omega arith

-- what fails only where it is full doesn't fail where it isn't
pub not_full : {X E : Type 0} (r : Result X E) (capacity len : ℕ) → OnErr r (capacity ≤ len) → len < capacity → IsOk r
not_full (Ok x) capacity len f l = refl
not_full (Err e) capacity len f l = absurd (omega (arith, f, l))

pub at_ok : {X E P : Type 0} (r : Result X E) (x : X) → r ≡ Ok x → OnOk r P → P
at_ok (Ok y) x e f = f
at_ok (Err y) x e f = cc

pub at_some : {X P : Type 0} (o : Option X) → IsSome o → OnSome o P → P
at_some (Some y) e f = f
at_some None e f = cc
