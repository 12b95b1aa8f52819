-- Which child is where in the list of all items.
use Rattle.std.proofs.Common.{◌≡◌, ◌<◌, ◌≤◌, ◌+◌, ◌-◌, ℕ, zero, suc, List, [], ◌∷◌, Bool, true, false, ◌&&◌, ◌||◌, cond, length, take, drop, slice_get, get_or, Some, refl, sym, ap, ap₂, ◌∙◌, subst, inl, inr, arith, nat_lt, le-ltb, lt-ltb, ltb-true}
use Rattle.std.specs.Prelude.{IsTrue}
use Rattle.std.specs.List.{list_any, slice_range}
use Rattle.std.proofs.lemmas.Bool.{cases_lt, and_parts, or_cases, or_right}
use Rattle.std.proofs.lemmas.List.{length-take, get_or_default}
use Rattle.std.proofs.lemmas.Option.{slice_get_within}
use Rattle.tb_model.specs.declared.item.Item.{Item}
use Rattle.tb_model.specs.Items.{is_before, meets, some_meet}
use Rattle.tb_depend.specs.Relations.{items_at, depends}
use Rattle.tb_depend.specs.Layout.{rows_from, AreEnds, start_at, IsRow}
use Rattle.tb_depend.specs.Nearness.{IsClosed, AreOver, AreOverFor, child_at, AreItemsClosed, AreItemsOver}
use Rattle.tb_depend.proofs.LayoutLemmas.{row_at, row_outside}

-- ---- the child at an index

-- after the start
above : (start : ℕ) (ends : List ℕ) (len j d : ℕ) → AreEnds start ends len → j < length ends → start ≤ get_or ends j d
above start [] len j d a h = absurd (omega arith)
above start (e ∷ ends) len zero d a h = a.0
above start (e ∷ ends) len (suc j) d a h = let r = above e ends len j d a.1 (omega arith) in omega (arith, a.0, r)

pub ends_order : (start : ℕ) (ends : List ℕ) (len : ℕ) → AreEnds start ends len → (i j d : ℕ) → i ≤ j → j < length ends → get_or ends i d ≤ get_or ends j d
ends_order start [] len a i j d h l = absurd (omega arith)
ends_order start (e ∷ ends) len a zero zero d h l = omega arith
ends_order start (e ∷ ends) len a zero (suc j) d h l = above e ends len j d a.1 (omega arith)
ends_order start (e ∷ ends) len a (suc i) zero d h l = absurd (omega arith)
ends_order start (e ∷ ends) len a (suc i) (suc j) d h l = ends_order e ends len a.1 i j d (omega arith) (omega arith)

-- the ends in front of the child's don't pass the index
pub child_found : (ends : List ℕ) (k r : ℕ) → r ≤ length ends → ((i d : ℕ) → i < r → get_or ends i d ≤ k) → ((i d : ℕ) → r ≤ i → i < length ends → k < get_or ends i d) → child_at ends k ≡ suc r
child_found [] k r l low high = ap suc (omega (arith, l))
child_found (e ∷ ends) k zero l low high = ap (λ b. cond b 1 (suc (child_at ends k))) (lt-ltb k e (high 0 0 (omega arith) (omega arith)))
child_found (e ∷ ends) k (suc r) l low high =
    ap (λ b. cond b 1 (suc (child_at ends k))) (le-ltb k e (low 0 0 (omega arith)))
    ∙ ap suc (child_found ends k r (omega arith) (λ i d h. low (suc i) d (omega arith)) (λ i d h t. high (suc i) d (omega arith) (omega arith)))

-- an item is the child's where the end in front of it doesn't pass the index, and its own does
pub found_between : (start : ℕ) (ends : List ℕ) (len k r : ℕ) → AreEnds start ends len → r < length ends → 0 < r → get_or ends (r - 1) 0 ≤ k → k < get_or ends r 0 → child_at ends k ≡ suc r
found_between start ends len k r a l some low high =
    child_found ends k r (omega (arith, l))
    (λ i d h.
    let rises = ends_order start ends len a i (r - 1) 0 (omega (arith, h)) (omega (arith, l, some)) in
    subst (λ e. e ≤ k) (get_or_default ends i 0 d (omega (arith, h, l))) (omega (arith, rises, low)))
    (λ i d h t.
    let rises = ends_order start ends len a r i 0 h t in
    subst (λ e. k < e) (get_or_default ends i 0 d t) (omega (arith, rises, high)))

start_shifted : (start e : ℕ) (ends : List ℕ) (r : ℕ) → start_at start (e ∷ ends) (suc r) ≡ start_at e ends r
start_shifted start e ends zero = refl
start_shifted start e ends (suc r) = refl

start_above : (start : ℕ) (ends : List ℕ) (len r : ℕ) → AreEnds start ends len → r ≤ length ends → start ≤ start_at start ends r
start_above start ends len zero a h = omega arith
start_above start ends len (suc r) a h = above start ends len r 0 a (omega arith)

-- the child that has the index
pub in_row : (start : ℕ) (ends : List ℕ) (len k : ℕ) → AreEnds start ends len → start ≤ k → k < len →
    (r : ℕ) × (child_at ends k ≡ suc r) × (r < length ends) × (start_at start ends r ≤ k) × (k < get_or ends r 0)
in_row start [] len k a h l = absurd (omega (arith, a))
in_row start (e ∷ ends) len k a h l = elim (cases_lt k e) [
  | inl q ↦ (0, ap (λ b. cond b 1 (suc (child_at ends k))) (lt-ltb k e q), omega arith, h, q)
  | inr q ↦
      let rest = in_row e ends len k a.1 q l in (
        suc rest.0,
        ap (λ b. cond b 1 (suc (child_at ends k))) (le-ltb k e q) ∙ ap suc rest.1,
        omega (arith, rest.2),
        subst (λ s. s ≤ k) (sym (start_shifted start e ends rest.0)) rest.3,
        rest.4,
      )
]

pub of_row : (start : ℕ) (ends : List ℕ) (len k r : ℕ) → AreEnds start ends len → r < length ends → start_at start ends r ≤ k → k < get_or ends r 0 → child_at ends k ≡ suc r
of_row start [] len k r a l h t = absurd (omega arith)
of_row start (e ∷ ends) len k zero a l h t = ap (λ b. cond b 1 (suc (child_at ends k))) (lt-ltb k e t)
of_row start (e ∷ ends) len k (suc r) a l h t =
    let s : start_at e ends r ≤ k = subst (λ s. s ≤ k) (start_shifted start e ends r) h in
    let low = start_above e ends len r a.1 (omega arith) in
    ap (λ b. cond b 1 (suc (child_at ends k))) (le-ltb k e (omega (arith, s, low))) ∙ ap suc (of_row e ends len k r a.1 (omega arith) s t)

from_one : (ends : List ℕ) (k : ℕ) → 1 ≤ child_at ends k
from_one [] k = omega arith
from_one (e ∷ ends) k = at (nat_lt k e)
  where
    at : (b : Bool) → 1 ≤ cond b 1 (suc (child_at ends k))
    at true = omega arith
    at false = omega arith

pub child_order : (ends : List ℕ) (p q : ℕ) → p ≤ q → child_at ends p ≤ child_at ends q
child_order [] p q h = omega arith
child_order (e ∷ ends) p q h = elim (cases_lt p e) [
  | inl l ↦
      let first : child_at (e ∷ ends) p ≡ 1 = ap (λ b. cond b 1 (suc (child_at ends p))) (lt-ltb p e l) in
      omega (arith, first, from_one (e ∷ ends) q)
  | inr l ↦
      let later : child_at (e ∷ ends) p ≡ suc (child_at ends p) = ap (λ b. cond b 1 (suc (child_at ends p))) (le-ltb p e l) in
      let far : child_at (e ∷ ends) q ≡ suc (child_at ends q) = ap (λ b. cond b 1 (suc (child_at ends q))) (le-ltb q e (omega (arith, l, h))) in
      let rest = child_order ends p q h in
      omega (arith, later, far, rest)
]

-- ---- ranges and tests

get_take : {A : Type 0} (xs : List A) (n j : ℕ) → j < n → slice_get (take n xs) j ≡ slice_get xs j
get_take xs zero j h = absurd (omega arith)
get_take [] (suc n) j h = refl
get_take (x ∷ xs) (suc n) zero h = refl
get_take (x ∷ xs) (suc n) (suc j) h = get_take xs n j (omega arith)

get_drop : {A : Type 0} (xs : List A) (a j : ℕ) → slice_get (drop a xs) j ≡ slice_get xs (a + j)
get_drop xs zero j = let e : j ≡ 0 + j = omega arith in ap (slice_get xs) e
get_drop [] (suc a) j = refl
get_drop (x ∷ xs) (suc a) j = let e : suc (a + j) ≡ suc a + j = omega arith in get_drop xs a j ∙ ap (slice_get (x ∷ xs)) e

get_range : {A : Type 0} (xs : List A) (a b j : ℕ) → j < b - a → slice_get (slice_range xs a b) j ≡ slice_get xs (a + j)
get_range xs a b j h = get_take (drop a xs) (b - a) j h ∙ get_drop xs a j

pub any_at : {A : Type 0} (f : A → Bool) (xs : List A) (j : ℕ) (x : A) → slice_get xs j ≡ Some x → f x ≡ true → list_any f xs ≡ true
any_at f [] j x e t = cc
any_at f (y ∷ xs) zero x e t = at (f y) (ap f (some_same e) ∙ t)
  where
    some_same : Some y ≡ Some x → y ≡ x
    some_same g = cc

    at : (b : Bool) → b ≡ true → (b || list_any f xs) ≡ true
    at true g = refl
    at false g = cc
any_at f (y ∷ xs) (suc j) x e t = or_right (f y) (list_any f xs) (any_at f xs j x e t)

pub any_where : {A : Type 0} (f : A → Bool) (xs : List A) → list_any f xs ≡ true → (j : ℕ) × (x : A) × (slice_get xs j ≡ Some x) × (f x ≡ true)
any_where f [] e = cc
any_where f (y ∷ xs) e = elim (or_cases (f y) (list_any f xs) e) [
  | inl h ↦ (0, y, refl, h)
  | inr h ↦ let r = any_where f xs h in (suc r.0, r.1, r.2, r.3)
]

pub nothing : (j : ℕ) (x : Item) → slice_get [] j ≡ Some x → ⊥
nothing j x f = cc

-- ---- the items of a child, by their indexes

module _ (ends : List ℕ) (items : List Item) (a : AreEnds 0 ends (length items)) where
  abbrev pub rows : List (List Item)
  rows = rows_from 0 ends items

  item_of : (k : ℕ) (x : Item) → slice_get items k ≡ Some x → (j : ℕ) × (slice_get (items_at rows (child_at ends k)) j ≡ Some x)
  item_of k x e =
      let q = in_row 0 ends (length items) k a (omega arith) (slice_get_within items k x e) in
      let j = k - start_at 0 ends q.0 in
      let within : j < get_or ends q.0 0 - start_at 0 ends q.0 = omega (arith, q.3, q.4) in
      let back : start_at 0 ends q.0 + j ≡ k = omega (arith, q.3) in (
        j,
        ap (λ m. slice_get (items_at rows m) j) q.1 ∙ ap (λ r. slice_get r j) (row_at 0 ends items q.0 q.2)
            ∙ get_range items (start_at 0 ends q.0) (get_or ends q.0 0) j within ∙ ap (slice_get items) back ∙ e,
      )

  pub place_of : (m j : ℕ) (x : Item) → slice_get (items_at rows m) j ≡ Some x →
      (k : ℕ) × (slice_get items k ≡ Some x) × (child_at ends k ≡ m) × (0 < m) × (m ≤ length ends) × (start_at 0 ends (m - 1) ≤ k) × (k < get_or ends (m - 1) 0)
  place_of zero j x e = cc
  place_of (suc r) j x e = elim (cases_lt r (length ends)) [
    | inl l ↦
        let from = start_at 0 ends r in
        let to = get_or ends r 0 in
        let f : slice_get (slice_range items from to) j ≡ Some x = sym (ap (λ q. slice_get q j) (row_at 0 ends items r l)) ∙ e in
        let w = slice_get_within (slice_range items from to) j x f in
        let short = length-take (to - from) (drop from items) in
        let few : j < to - from = omega (arith, w, short) in
        let g = sym (get_range items from to j few) ∙ f in
        let k = from + j in
        let high : k < to = omega (arith, few) in
        let low : from ≤ k = omega arith in
        let same : suc r - 1 ≡ r = omega arith in
        (k, g, of_row 0 ends (length items) k r a l low high, omega arith, l, subst (λ s. start_at 0 ends s ≤ k) (sym same) low, subst (λ s. k < get_or ends s 0) (sym same) high)
    | inr l ↦
        let none : items_at rows (suc r) ≡ [] = row_outside 0 ends items (suc r) (omega (arith, l)) in
        absurd (nothing j x (ap (λ q. slice_get q j) (sym none) ∙ e))
  ]

  -- a child with one item depends on that of another in front of it
  pub related : (p k : ℕ) (new old : Item) → slice_get items p ≡ Some new → slice_get items k ≡ Some old → child_at ends k < child_at ends p → IsTrue (meets is_before new old) → IsTrue (depends rows (child_at ends p) (child_at ends k))
  related p k new old e f l t =
      let i = item_of p new e in
      let j = item_of k old f in
      let some : some_meet is_before (items_at rows (child_at ends p)) (items_at rows (child_at ends k)) ≡ true =
      any_at (λ x. list_any (meets is_before x) (items_at rows (child_at ends k))) (items_at rows (child_at ends p)) i.0 new i.1
      (any_at (meets is_before new) (items_at rows (child_at ends k)) j.0 old j.1 t) in
      ap₂ (λ b c. b && c) (lt-ltb (child_at ends k) (child_at ends p) l) some

  pub items_closed : (over : ℕ → Bool) → IsClosed rows over → AreItemsClosed items (λ k. over (child_at ends k))
  items_closed over closed p k new old h e f t o = elim (cases_lt (child_at ends k) (child_at ends p)) [
    | inl l ↦ closed (child_at ends p) (child_at ends k) o (related p k new old e f l t)
    | inr l ↦
        let order = child_order ends k p (omega (arith, h)) in
        let same : child_at ends p ≡ child_at ends k = omega (arith, l, order) in
        subst (λ m. IsTrue (over m)) same o
  ]

  -- a further child
  module _ (over : ℕ → Bool) (own : List Item) where
    pub some_not_for : (j : ℕ) (new : Item) → slice_get own j ≡ Some new → (AreItemsOver items (λ k. over (child_at ends k)) new (length items) → ⊥) → AreOverFor rows over own → ⊥
    some_not_for j new e not all = not (λ k old h f t.
        let i = item_of k old f in
        all (child_at ends k) (any_at (λ x. list_any (meets is_before x) (items_at rows (child_at ends k))) own j new e (any_at (meets is_before new) (items_at rows (child_at ends k)) i.0 old i.1 t)))

    pub all_are_for : ((j : ℕ) (new : Item) → slice_get own j ≡ Some new → AreItemsOver items (λ k. over (child_at ends k)) new (length items)) → AreOverFor rows over own
    all_are_for each m some =
        let x = any_where (λ i. list_any (meets is_before i) (items_at rows m)) own some in
        let y = any_where (meets is_before x.1) (items_at rows m) x.3 in
        let q = place_of m y.0 y.1 y.2 in
        subst (λ c. IsTrue (over c)) q.2 (each x.0 x.1 x.2 q.0 y.1 (slice_get_within items q.0 y.1 q.1) q.1 y.3)

  module _ (over : ℕ → Bool) (n from to : ℕ) (row : IsRow ends (length items) n from to) where
    pub in_front : (k i : ℕ) (old : Item) → slice_get items k ≡ Some old → from ≤ i → i < to → k < from → (child_at ends i ≡ n) × (child_at ends k < n)
    in_front k i old e low high front = elim row.there [
      | inl q ↦
          let s : n ≡ suc (n - 1) = omega (arith, q.0) in
          let here : child_at ends i ≡ n = of_row 0 ends (length items) i (n - 1) a (omega (arith, q.0, q.1)) (subst (λ f. f ≤ i) q.2 low) (subst (λ f. i < f) q.3 high) ∙ sym s in
          let order = child_order ends k i (omega (arith, front, low)) in
          let its = in_row 0 ends (length items) k a (omega arith) (slice_get_within items k old e) in
          elim (cases_lt (child_at ends k) n) [
            | inl l ↦ (here, l)
            | inr l ↦
                let r : its.0 ≡ n - 1 = omega (arith, l, order, here, its.1) in
                let g : start_at 0 ends (n - 1) ≤ k = subst (λ m. start_at 0 ends m ≤ k) r its.3 in
                absurd (omega (arith, g, q.2, front))
          ]
      | inr q ↦ absurd (omega (arith, q.2, high))
    ]

    pub some_not : (i : ℕ) (new : Item) → slice_get items i ≡ Some new → from ≤ i → i < to → (AreItemsOver items (λ k. over (child_at ends k)) new from → ⊥) → AreOver rows over n → ⊥
    some_not i new e low high not all = not (λ k old h f t.
        let at = in_front k i old f low high h in
        all (child_at ends k) (subst (λ m. IsTrue (depends rows m (child_at ends k))) at.0 (related i k new old e f (omega (arith, at.0, at.1)) t)))

    pub all_are : ((i : ℕ) (new : Item) → from ≤ i → i < to → slice_get items i ≡ Some new → AreItemsOver items (λ k. over (child_at ends k)) new from) → AreOver rows over n
    all_are each m dep =
        let parts = and_parts (nat_lt m n) (some_meet is_before (items_at rows n) (items_at rows m)) dep in
        let above = ltb-true m n parts.0 in
        let x = any_where (λ i. list_any (meets is_before i) (items_at rows m)) (items_at rows n) parts.1 in
        let y = any_where (meets is_before x.1) (items_at rows m) x.3 in
        let p = place_of n x.0 x.1 x.2 in
        let q = place_of m y.0 y.1 y.2 in
        elim row.there [
          | inl r ↦
              let low : from ≤ p.0 = subst (λ f. f ≤ p.0) (sym r.2) p.5 in
              let high : p.0 < to = subst (λ f. p.0 < f) (sym r.3) p.6 in
              let front : q.0 < from = elim (cases_lt q.0 from) [
                | inl l ↦ l
                | inr l ↦ elim (cases_lt q.0 p.0) [
                  | inl g ↦
                      let s : n ≡ suc (n - 1) = omega (arith, above) in
                      let same = of_row 0 ends (length items) q.0 (n - 1) a (omega (arith, r.1, above)) (subst (λ f. f ≤ q.0) r.2 l) (omega (arith, g, p.6)) in
                      absurd (omega (arith, same, s, q.2, above))
                  | inr g ↦
                      let order = child_order ends p.0 q.0 g in
                      absurd (omega (arith, order, p.2, q.2, above))
                ]
              ] in
              subst (λ c. IsTrue (over c)) q.2 (each p.0 x.1 low high p.1 q.0 y.1 front q.1 y.3)
          | inr r ↦ absurd (elim r.0 [
            | inl z ↦ omega (arith, z, above)
            | inr z ↦ omega (arith, z, p.4)
          ])
        ]
