-- A name that is at an index of a list of distinct names is found there.
use Rattle.std.proofs.Common.{◌≡◌, ◌+◌, ◌<◌, ◌++◌, ◌||◌, ℕ, zero, suc, Bool, true, false, not, cond, List, [], ◌∷◌, Option, Some, None, length, slice_get, refl, sym, ap, ◌∙◌, subst, arith, unwrap_or, nat_lt, lt-ltb}
use Rattle.std.specs.List.{position, position_or_len, list_any, IsDistinct, AllByRecursion}
use Rattle.std.proofs.lemmas.Option.{slice_get_within, slice_get-get_or, get_or_from_slice_get}
use Rattle.std.proofs.lemmas.List.Folds.{list_any_at}
use Rattle.std.proofs.lemmas.Bool.{false_from_ne_true, false≢true, le-ltb}
use Rattle.tb_model.specs.Names.{Name, same_name}
use Rattle.tb_model.proofs.TestLemmas.{same_true, same_refl}
use Rattle.tb_wait.specs.Names.{IsFirstPlace}
use Rattle.tb_wait.specs.Rows.{key, IsPlaceOf}

apart_at : (n t : Name) (names : List Name) (i : ℕ) → AllByRecursion (λ y. same_name n y ≡ false) names → slice_get names i ≡ Some t → same_name n t ≡ false
apart_at n t [] i h e = absurd (cc)
apart_at n t (x ∷ names) zero h e = subst (λ y. same_name n y ≡ false) (ap (λ o. unwrap_or o x) e) h.0
apart_at n t (x ∷ names) (suc i) h e = apart_at n t names i h.1 e

first_at : (t : Name) (names : List Name) (i : ℕ) → IsDistinct same_name names → slice_get names i ≡ Some t → position_or_len (same_name t) names ≡ i
unfolding IsDistinct
first_at t [] i d e = absurd (cc)
first_at t (x ∷ names) zero d e =
    let same : x ≡ t = ap (λ o. unwrap_or o x) e in
    ap (λ b. cond (not b) (1 + position_or_len (same_name t) names) 0) (subst (λ y. same_name t y ≡ true) (sym same) (same_refl t))
first_at t (x ∷ names) (suc i) d e =
    let apart = apart_at x t names i d.0 e in
    let other : same_name t x ≡ false = false_from_ne_true (same_name t x) (λ h. false≢true (sym apart ∙ subst (λ y. same_name x y ≡ true) (sym (same_true t x h)) (same_refl x))) in
    ap (λ b. cond (not b) (1 + position_or_len (same_name t) names) 0) other ∙ ap (λ n. 1 + n) (first_at t names i d.1 e) ∙ omega arith

-- the index of the name
position_at : (t : Name) (names : List Name) (i : ℕ) → IsDistinct same_name names → slice_get names i ≡ Some t → position (same_name t) names ≡ Some i
position_at t names i d e =
    let within = slice_get_within names i t e in
    ap (λ n. cond (nat_lt n (length names)) (Some n) None) (first_at t names i d e) ∙ ap (λ b. cond b (Some i) None) (lt-ltb i (length names) within)

-- a name at an index is there
any_at : (t : Name) (names : List Name) (i : ℕ) → slice_get names i ≡ Some t → list_any (same_name t) names ≡ true
any_at t names i e =
    list_any_at (same_name t) names i t (slice_get_within names i t e)
    (subst (λ y. same_name t y ≡ true) (sym (get_or_from_slice_get names i t t e)) (same_refl t))

-- ---- one more name

or_false : (a b : Bool) → (a || b) ≡ false → (a ≡ false) × (b ≡ false)
or_false true b h = cc
or_false false b h = (refl, h)

all_push : (x t : Name) (names : List Name) → AllByRecursion (λ y. same_name x y ≡ false) names → same_name x t ≡ false → AllByRecursion (λ y. same_name x y ≡ false) (names ++ t ∷ [])
all_push x t [] a e = (e, tt)
all_push x t (y ∷ names) a e = (a.0, all_push x t names a.1 e)

-- the names stay distinct where one is added that isn't there
pub distinct_push : (t : Name) (names : List Name) → IsDistinct same_name names → list_any (same_name t) names ≡ false → IsDistinct same_name (names ++ t ∷ [])
unfolding IsDistinct
distinct_push t [] d h = (tt, tt)
distinct_push t (x ∷ names) d h =
    let o = or_false (same_name t x) (list_any (same_name t) names) h in
    let other : same_name x t ≡ false = false_from_ne_true (same_name x t) (λ s. false≢true (sym o.0 ∙ subst (λ y. same_name t y ≡ true) (sym (same_true x t s)) (same_refl t))) in
    (all_push x t names d.0 other, distinct_push t names d.1 o.1)

-- one name alone is distinct
pub distinct_one : (names : List Name) (t : Name) → names ≡ t ∷ [] → IsDistinct same_name names
unfolding IsDistinct
distinct_one names t e = subst (IsDistinct same_name) (sym e) (tt, tt)

-- ---- the index that the tree leads to

none_at : (t : Name) (names : List Name) → ((i : ℕ) → i < length names → key names i ≡ t → ⊥) → list_any (same_name t) names ≡ false
none_at t [] n = refl
none_at t (x ∷ names) n = at (none_at t names (λ i w e. n (suc i) (omega (arith, w)) e)) (same_name t x) refl
  where
    at : list_any (same_name t) names ≡ false → (b : Bool) → same_name t x ≡ b → (b || list_any (same_name t) names) ≡ false
    at rest false e = rest
    at rest true e = absurd (n 0 (omega arith) (sym (same_true t x e)))

none_len : (t : Name) (names : List Name) → list_any (same_name t) names ≡ false → position_or_len (same_name t) names ≡ length names
none_len t [] h = refl
none_len t (x ∷ names) h =
    let o = or_false (same_name t x) (list_any (same_name t) names) h in
    ap (λ b. cond (not b) (1 + position_or_len (same_name t) names) 0) o.0 ∙ ap (λ n. 1 + n) (none_len t names o.1) ∙ omega arith

none_position : (t : Name) (names : List Name) → list_any (same_name t) names ≡ false → position (same_name t) names ≡ None
none_position t names h =
    ap (λ n. cond (nat_lt n (length names)) (Some n) None) (none_len t names h) ∙ ap (λ b. cond b (Some (length names)) None) (le-ltb (length names) (length names) (omega arith))

-- a name that is at an index is found there
pub here_found : (t : Name) (names : List Name) (i : ℕ) → IsDistinct same_name names → slice_get names i ≡ Some t → IsFirstPlace names t (Some i)
here_found t names i d e = record { index = sym (position_at t names i d e); found = sym (any_at t names i e); within = slice_get_within names i t e }

-- a name whose index the tree says is found there
pub place_found : (t : Name) (names : List Name) (o : Option ℕ) → IsDistinct same_name names → IsPlaceOf names t o → IsFirstPlace names t o
place_found t names None d p =
    let absent = none_at t names (λ i. p.absent refl i []) in
    record { index = sym (none_position t names absent); found = sym absent; within = tt }
place_found t names (Some i) d p = let it = p.found i refl in here_found t names i d (slice_get-get_or names i [] it.0 ∙ ap Some it.1)
