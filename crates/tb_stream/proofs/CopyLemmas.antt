-- A copy element by element, and what is found in it by a key.
use Rattle.std.proofs.Common.{◌≡◌, ◌∷◌, List, [], Vec, Global, map, refl, ap₂, ℕ, nat_eq, ◌&&◌, Bool, None}
use Rattle.std.specs.List.{AllZip}
use Rattle.std.specs.Option.{MatchOption, IsSomeAnd}
use Rattle.std.specs.Map.{lookup}
use Rattle.std.proofs.lemmas.Map.Entries.{lookup_clone}

-- where each element is its source's equal
pub zipped : {A : Type 0} (R : A → A → Type 0) → ((x y : A) → R x y → y ≡ x) → (xs ys : List A) → AllZip R xs ys → ys ≡ xs
zipped R same [] [] h = refl
zipped R same [] (y ∷ ys) h = absurd h
zipped R same (x ∷ xs) [] h = absurd h
zipped R same (x ∷ xs) (y ∷ ys) h = ap₂ (λ z zs. z ∷ zs) (same x y h.0) (zipped R same xs ys h.1)

-- rows of rows
pub zipped_rows : {A : Type 0} (R : Vec A Global → Vec A Global → Type 0) → ((v w : Vec A Global) → R v w → w.items ≡ v.items)
    → (xs ys : List (Vec A Global)) → AllZip R xs ys → map (λ (v : Vec A Global). v.items) ys ≡ map (λ (v : Vec A Global). v.items) xs
zipped_rows R same [] [] h = refl
zipped_rows R same [] (y ∷ ys) h = absurd h
zipped_rows R same (x ∷ xs) [] h = absurd h
zipped_rows R same (x ∷ xs) (y ∷ ys) h = ap₂ (λ z zs. z ∷ zs) (same x y h.0) (zipped_rows R same xs ys h.1)

pairs_so : {A : Type 0} (R S : A → A → Type 0) (xs ys : List A) → AllZip R xs ys → ((x y : A) → R x y → S x y) → AllZip S xs ys
pairs_so R S [] [] h f = tt
pairs_so R S [] (y ∷ ys) h f = absurd h
pairs_so R S (x ∷ xs) [] h f = absurd h
pairs_so R S (x ∷ xs) (y ∷ ys) h f = (f x y h.0, pairs_so R S xs ys h.1 f)

-- what is found by a key in a copy is like what is found in its source
pub found_copied : {K X : Type 0} (R : K × X → K × X → Type 0) (E : X → X → Type 0) (test : K → Bool) (es fs : List (K × X)) → AllZip R es fs
    → ((p q : K × X) → R p q → (test q.0 ≡ test p.0) × E p.1 q.1)
    → MatchOption (lookup test es) (lookup test fs ≡ None) (λ v. IsSomeAnd (lookup test fs) (E v))
found_copied R E test es fs h f = lookup_clone (λ x y. test y ≡ test x) E test (λ x y e. e) es fs (pairs_so R (λ p q. (test q.0 ≡ test p.0) × E p.1 q.1) es fs h f)

-- a test by a key doesn't tell equal keys apart
pub key_same : (k x y : ℕ × ℕ × ℕ) → (y.0 ≡ x.0) × (y.1 ≡ x.1) × (y.2 ≡ x.2)
    → ((nat_eq k.0 y.0 && nat_eq k.1 y.1) && nat_eq k.2 y.2) ≡ ((nat_eq k.0 x.0 && nat_eq k.1 x.1) && nat_eq k.2 x.2)
key_same k x y e = ap₂ (λ a b. a && nat_eq k.2 b) (ap₂ (λ a b. nat_eq k.0 a && nat_eq k.1 b) e.0 e.1) e.2
