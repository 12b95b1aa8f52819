-- Slots of several rows, each of which rises and has only slots that its own row owns, are
-- distinct.
use Rattle.std.proofs.Common.{ℕ, ◌+◌, ◌<◌, ◌≤◌, ◌≡◌, ◌≢◌, suc, List, [], ◌∷◌, ◌++◌, Bool, true, false, cond, nat_eq, nat_lt, length, get_or, refl, ap, sym, subst, ◌∙◌, arith}
use Rattle.std.proofs.lemmas.Bool.Decides.{nat_tests}
use Rattle.tb_work.proofs.Numbered.{Rises}

abbrev pub hit : ℕ → ℕ → ℕ
hit q p = cond (nat_eq p q) 1 0

abbrev pub hits : ℕ → List ℕ → ℕ
hits q [] = 0
hits q (p ∷ ps) = hit q p + hits q ps

pub hits-append : (q : ℕ) (xs ys : List ℕ) → hits q (xs ++ ys) ≡ hits q xs + hits q ys
hits-append q [] ys = omega arith
hits-append q (x ∷ xs) ys = omega (arith, hits-append q xs ys)

pub hit_none : (q p : ℕ) → p ≢ q → hit q p ≡ 0
hit_none q p ne = grind (arith, nat_tests)

pub hit_same : (q : ℕ) → hit q q ≡ 1
hit_same q = grind (arith, nat_tests)

pub hit_bound : (q p : ℕ) → hit q p ≤ 1
hit_bound q p = bound (nat_eq p q)
  where
    bound : (b : Bool) → cond b 1 0 ≤ 1
    bound true = omega arith
    bound false = omega arith

-- none below the first
pub above : (q n : ℕ) (ps : List ℕ) → Rises n ps → q ≤ n → hits q ps ≡ 0
above q n [] up le = refl
above q n (p ∷ ps) up le =
    let ne : p ≢ q = λ e. absurd (omega (arith, e, le, up.0)) in
    omega (arith, hit_none q p ne, above q p ps up.1 (omega (arith, le, up.0)))

pub at_most_one : (q n : ℕ) (ps : List ℕ) → Rises n ps → hits q ps ≤ 1
at_most_one q n [] up = omega arith
at_most_one q n (p ∷ ps) up = by (nat_eq p q) refl (at_most_one q p ps up.1)
  where
    by : (b : Bool) → nat_eq p q ≡ b → hits q ps ≤ 1 → hit q p + hits q ps ≤ 1
    by true is rest =
        let same : p ≡ q = grind (arith, nat_tests) in
        omega (arith, hit_bound q p, above q p ps up.1 (omega (arith, same)))
    by false is rest =
        let none : hit q p ≡ 0 = ap (λ b. cond b 1 0) is in
        omega (arith, none, rest)

-- all slots of the row are owned by n
abbrev pub Owned : (ℕ → ℕ) → ℕ → List ℕ → Type 0
Owned own n [] = Unit {0}
Owned own n (p ∷ ps) = (own p ≡ n) × Owned own n ps

pub not_owned : (own : ℕ → ℕ) (q n : ℕ) (ps : List ℕ) → Owned own n ps → own q ≢ n → hits q ps ≡ 0
not_owned own q n [] o ne = refl
not_owned own q n (p ∷ ps) o ne =
    let apart : p ≢ q = λ e. ne (ap own (sym e) ∙ o.0) in
    omega (arith, hit_none q p apart, not_owned own q n ps o.1 ne)

-- rows by their owners, one after the other
abbrev pub concat : List (ℕ × List ℕ) → List ℕ
concat [] = []
concat (r ∷ rs) = r.1 ++ concat rs

-- none of the rows is of this owner
abbrev pub Apart : ℕ → List (ℕ × List ℕ) → Type 0
Apart n [] = Unit {0}
Apart n (r ∷ rs) = (r.0 ≢ n) × Apart n rs

-- rows of owners of which no two are one
abbrev pub Good : (ℕ → ℕ) → List (ℕ × List ℕ) → Type 0
Good own [] = Unit {0}
Good own (r ∷ rs) = Rises 0 r.1 × Owned own r.0 r.1 × Apart r.0 rs × Good own rs

pub not_theirs : (own : ℕ → ℕ) (q : ℕ) (rs : List (ℕ × List ℕ)) → Good own rs → Apart (own q) rs → hits q (concat rs) ≡ 0
not_theirs own q [] good apart = refl
not_theirs own q (r ∷ rs) good apart =
    let ne : own q ≢ r.0 = λ e. apart.0 (sym e) in
    omega (arith, hits-append q r.1 (concat rs), not_owned own q r.0 r.1 good.1 ne, not_theirs own q rs good.3 apart.1)

pub once : (own : ℕ → ℕ) (q : ℕ) (rs : List (ℕ × List ℕ)) → Good own rs → hits q (concat rs) ≤ 1
once own q [] good = omega arith
once own q (r ∷ rs) good = by (nat_eq (own q) r.0) refl (once own q rs good.3)
  where
    by : (b : Bool) → nat_eq (own q) r.0 ≡ b → hits q (concat rs) ≤ 1 → hits q (r.1 ++ concat rs) ≤ 1
    by true is rest =
        let same : own q ≡ r.0 = grind (arith, nat_tests) in
        omega (arith, hits-append q r.1 (concat rs), at_most_one q 0 r.1 good.0, not_theirs own q rs good.3 (subst (λ n. Apart n rs) (sym same) good.2))
    by false is rest =
        let ne : own q ≢ r.0 = λ e. absurd (grind (arith, nat_tests)) in
        omega (arith, hits-append q r.1 (concat rs), not_owned own q r.0 r.1 good.1 ne, rest)

-- what does not fall, and has nothing twice, rises
pub strict : (n : ℕ) (ps : List ℕ) → ((k : ℕ) (d : ℕ) → suc k < length ps → nat_lt (get_or ps (suc k) d) (get_or ps k d) ≡ false)
    → ((q : ℕ) → hits q ps ≤ 1) → (0 < length ps → n < get_or ps 0 0) → Rises n ps
strict n [] low one first = tt
strict n (p ∷ []) low one first = (first (omega arith), tt)
strict n (p ∷ x ∷ ps) low one first =
    let le : nat_lt x p ≡ false = low 0 0 (omega arith) in
    let ne : x ≢ p = λ e. absurd (omega (arith, one p, hit_same p, ap (hit p) e)) in
    let lt : p < x = let r : p ≤ x = grind (arith, nat_tests) in omega (arith, r, ne) in
    (first (omega arith), strict p (x ∷ ps) (λ k d l. low (suc k) d (omega (arith, l))) (λ q. omega (arith, one q)) (λ _. lt))
