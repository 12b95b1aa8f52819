-- Lists by index.
use Rattle.std.proofs.Common.{◌≡◌, ◌∙◌, ℕ, zero, suc, ◌<◌, List, [], ◌∷◌, length, map, drop, reverse, slice_get, Some, arith, ap, get_or, slice_index_or, ◌++◌, ◌+◌, subst, length-append}
use Rattle.std.proofs.lemmas.List.{reverse-append}

-- an index of a list that another one shows
pub get_map : {A B : Type 0} (f : A → B) (xs : List A) (at : ℕ) (x : A) → slice_get xs at ≡ Some x → slice_get (map f xs) at ≡ Some (f x)
get_map f [] at x e = absurd cc
get_map f (y ∷ xs) zero x e = let same : y ≡ x = cc in ap (λ z. Some (f z)) same
get_map f (y ∷ xs) (suc at) x e = get_map f xs at x e

pub get_or_some : {A : Type 0} (xs : List A) (at : ℕ) (x : A) → at < length xs → get_or xs at x ≡ x → slice_get xs at ≡ Some x
get_or_some [] at x within e = absurd (omega arith)
get_or_some (y ∷ xs) zero x within e = ap Some e
get_or_some (y ∷ xs) (suc at) x within e = get_or_some xs at x (omega arith) e

-- what holds of each index holds with one more at the end
pub get_or_push : {A B : Type 0} (f : A → B) (d : B) (xs : List A) (x : A) (P : ℕ → B → Type 0) →
    ((n : ℕ) → n < length xs → P n (slice_index_or (map f xs) n d)) → P (length xs) (f x) →
    (n : ℕ) → n < suc (length xs) → P n (slice_index_or (map f (xs ++ x ∷ [])) n d)
get_or_push f d [] x P before last zero within = last
get_or_push f d [] x P before last (suc n) within = absurd (omega arith)
get_or_push f d (y ∷ xs) x P before last zero within = before zero (omega arith)
get_or_push f d (y ∷ xs) x P before last (suc n) within =
    get_or_push f d xs x (λ k. P (suc k)) (λ k below. before (suc k) (omega arith)) last n (omega arith)

pub get_push : {A : Type 0} (xs : List A) (x : A) (P : ℕ → A → Type 0) →
    ((n : ℕ) (y : A) → slice_get xs n ≡ Some y → P n y) → P (length xs) x →
    (n : ℕ) (y : A) → slice_get (xs ++ x ∷ []) n ≡ Some y → P n y
get_push [] x P before last zero y e = let same : x ≡ y = cc in subst (P zero) same last
get_push [] x P before last (suc n) y e = absurd cc
get_push (z ∷ xs) x P before last zero y e = before zero y e
get_push (z ∷ xs) x P before last (suc n) y e = get_push xs x (λ k. P (suc k)) (λ k w. before (suc k) w) last n y e

pub get_or_of_get : {A : Type 0} (xs : List A) (at : ℕ) (d x : A) → slice_get xs at ≡ Some x → slice_index_or xs at d ≡ x
get_or_of_get [] at d x e = absurd cc
get_or_of_get (y ∷ xs) zero d x e = cc
get_or_of_get (y ∷ xs) (suc at) d x e = get_or_of_get xs at d x e

pub pushed_length : {A : Type 0} (xs more : List A) (x : A) (n : ℕ) → length xs ≡ n → more ≡ xs ++ x ∷ [] → length more ≡ n + 1
pushed_length xs more x n count pushed = omega (arith, ap length pushed, length-append xs (x ∷ []))

-- the first element of what is left of a list
pub drop_next : {A : Type 0} (xs more : List A) (at : ℕ) (x : A) → drop at xs ≡ x ∷ more → (slice_get xs at ≡ Some x) × (drop (suc at) xs ≡ more)
drop_next [] more zero x e = absurd cc
drop_next [] more (suc at) x e = absurd cc
drop_next (y ∷ xs) more zero x e = (cc, cc)
drop_next (y ∷ xs) more (suc at) x e = drop_next xs more at x e

-- what is left of a list, turned round, and its last element
pub turned_last : {A : Type 0} (xs left rest : List A) (at : ℕ) (x : A) → drop at xs ≡ reverse left → left ≡ rest ++ x ∷ [] → (slice_get xs at ≡ Some x) × (drop (at + 1) xs ≡ reverse rest)
turned_last xs left rest at x e last =
    let turned : reverse left ≡ x ∷ reverse rest = ap reverse last ∙ reverse-append rest (x ∷ []) in
    let next = drop_next xs (reverse rest) at x (e ∙ turned) in
    let behind : suc at ≡ at + 1 = omega arith in
    (next.0, subst (λ n. drop n xs ≡ reverse rest) behind next.1)
