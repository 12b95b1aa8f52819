-- How the children's items lie in one list.
use Rattle.std.proofs.Common.{◌≡◌, ◌≢◌, ◌<◌, ◌≤◌, ◌+◌, ◌-◌, ℕ, zero, suc, List, [], ◌∷◌, ◌++◌, length, take, drop, get_or, refl, ap, ap₂, sym, ◌∙◌, arith}
use Rattle.std.proofs.Common.{unwrap_or, slice_get, subst, inl, inr}
use Rattle.std.specs.List.{slice_range}
use Rattle.std.proofs.lemmas.List.{length-append, length-drop, length-take, take_all, take-append-le, drop-append-le, take-append-drop}
use Rattle.std.proofs.Math.Seq.{drop-append_seam}
use Rattle.tb_model.specs.declared.item.Item.{Item}
use Rattle.tb_depend.specs.Layout.{rows_from, AreEnds, start_at, end_of, IsRow}
use Rattle.tb_depend.specs.Relations.{items_at}

pub length_rows : (start : ℕ) (ends : List ℕ) (items : List Item) → length (rows_from start ends items) ≡ length ends
length_rows start [] items = refl
length_rows start (e ∷ ends) items = ap suc (length_rows e ends items)

-- the kth row is the range in front of the kth end
pub row_at : (start : ℕ) (ends : List ℕ) (items : List Item) (k : ℕ) → k < length ends →
    get_or (rows_from start ends items) k [] ≡ slice_range items (start_at start ends k) (get_or ends k 0)
row_at start [] items k h = absurd (omega arith)
row_at start (e ∷ ends) items zero h = refl
row_at start (e ∷ ends) items (suc zero) h = row_at e ends items zero (omega arith)
row_at start (e ∷ ends) items (suc (suc k)) h = row_at e ends items (suc k) (omega arith)

-- a row is a range of the list
pub row_from : (start : ℕ) (ends : List ℕ) (len k : ℕ) → AreEnds start ends len → k < length ends → start_at start ends k ≤ get_or ends k 0
row_from start [] len k a h = absurd (omega arith)
row_from start (e ∷ ends) len zero a h = a.0
row_from start (e ∷ ends) len (suc zero) a h = row_from e ends len zero a.1 (omega arith)
row_from start (e ∷ ends) len (suc (suc k)) a h = row_from e ends len (suc k) a.1 (omega arith)

start_within : (start : ℕ) (ends : List ℕ) (len : ℕ) → AreEnds start ends len → start ≤ len
start_within start [] len a = omega arith
start_within start (e ∷ ends) len a = let h = start_within e ends len a.1 in omega (arith, a.0, h)

pub row_to : (start : ℕ) (ends : List ℕ) (len k : ℕ) → AreEnds start ends len → k < length ends → get_or ends k 0 ≤ len
row_to start [] len k a h = absurd (omega arith)
row_to start (e ∷ ends) len zero a h = start_within e ends len a.1
row_to start (e ∷ ends) len (suc k) a h = row_to e ends len k a.1 (omega arith)

pub row_outside : (start : ℕ) (ends : List ℕ) (items : List Item) (n : ℕ) → length ends < n → items_at (rows_from start ends items) n ≡ []
row_outside start ends items zero h = absurd (omega arith)
row_outside start [] items (suc k) h = refl
row_outside start (e ∷ ends) items (suc zero) h = absurd (omega arith)
row_outside start (e ∷ ends) items (suc (suc k)) h = row_outside e ends items (suc k) (omega arith)

pred_suc : (k : ℕ) → suc k - 1 ≡ k
pred_suc k = omega arith

-- the start after an end
pub start_behind : (ends : List ℕ) (k : ℕ) → k ≢ 0 → get_or ends (k - 1) 0 ≡ start_at 0 ends k
start_behind ends zero h = absurd (h refl)
start_behind ends (suc k) h = ap (λ i. get_or ends i 0) (pred_suc k)

-- where there is such a child, its items are its range
pub row_is : (ends : List ℕ) (items : List Item) (n from : ℕ) → n ≢ 0 → n ≤ length ends → from ≡ start_at 0 ends (n - 1) →
    slice_range items from (get_or ends (n - 1) 0) ≡ items_at (rows_from 0 ends items) n
row_is ends items zero from h t s = absurd (h refl)
row_is ends items (suc k) from h t s =
    ap₂ (λ a b. slice_range items a (get_or ends b 0)) (s ∙ ap (start_at 0 ends) (pred_suc k)) (pred_suc k)
    ∙ sym (row_at 0 ends items k (omega arith))

pub row_of : (ends : List ℕ) (items : List Item) (n from to : ℕ) → IsRow ends (length items) n from to → slice_range items from to ≡ items_at (rows_from 0 ends items) n
row_of ends items n from to row = elim row.there [
  | inl q ↦
      let some : n ≢ 0 = λ z. omega (arith, z, q.0) in
      ap (slice_range items from) q.3 ∙ row_is ends items n from some q.1 q.2
  | inr q ↦ elim q.0 [
    | inl z ↦ ap₂ (slice_range items) q.1 q.2 ∙ sym (ap (items_at (rows_from 0 ends items)) z)
    | inr z ↦ ap₂ (slice_range items) q.1 q.2 ∙ sym (row_outside 0 ends items n z)
  ]
]

-- ---- one more child, and one less

-- a range of the front
range_front : (xs ys : List Item) (a b : ℕ) → a ≤ b → b ≤ length xs → slice_range (xs ++ ys) a b ≡ slice_range xs a b
range_front xs ys a b h t =
    ap (take (b - a)) (drop-append-le a xs ys (omega arith))
    ∙ take-append-le (b - a) (drop a xs) ys (omega (arith, length-drop a xs))

-- the range after the front
range_back : (xs ys : List Item) → slice_range (xs ++ ys) (length xs) (length xs + length ys) ≡ ys
range_back xs ys =
    ap (take (length xs + length ys - length xs)) (drop-append_seam xs ys)
    ∙ take_all (length xs + length ys - length xs) ys (omega arith)

pub ends_push : (start : ℕ) (ends : List ℕ) (len more : ℕ) → AreEnds start ends len → AreEnds start (ends ++ (len + more) ∷ []) (len + more)
ends_push start [] len more a = (omega arith, refl)
ends_push start (e ∷ ends) len more a = (a.0, ends_push e ends len more a.1)

pub rows_push : (start : ℕ) (ends : List ℕ) (items new : List Item) → AreEnds start ends (length items) →
    rows_from start (ends ++ (length items + length new) ∷ []) (items ++ new) ≡ rows_from start ends items ++ new ∷ []
rows_push start [] items new a =
    ap (λ r. r ∷ []) (ap (λ s. slice_range (items ++ new) s (length items + length new)) a ∙ range_back items new)
rows_push start (e ∷ ends) items new a =
    ap₂ (λ r rs. r ∷ rs) (range_front items new start e a.0 (start_within e ends (length items) a.1)) (rows_push e ends items new a.1)

-- the end of the front ends is within the list
end_within : (start : ℕ) (ends : List ℕ) (e len : ℕ) → AreEnds start (ends ++ e ∷ []) len → end_of start ends ≤ len
end_within start [] e len a = start_within start (e ∷ []) len a
end_within start (x ∷ ends) e len a = end_within x ends e len a.1

ends_front : (start : ℕ) (ends : List ℕ) (e len : ℕ) → AreEnds start (ends ++ e ∷ []) len → AreEnds start ends (end_of start ends)
ends_front start [] e len a = refl
ends_front start (x ∷ ends) e len a = (a.0, ends_front x ends e len a.1)

start_front : (start : ℕ) (ends : List ℕ) (e len : ℕ) → AreEnds start (ends ++ e ∷ []) len → start ≤ end_of start ends
start_front start ends e len a = start_within start ends (end_of start ends) (ends_front start ends e len a)

range_taken : (items : List Item) (n a b : ℕ) → a ≤ b → b ≤ n → n ≤ length items → slice_range (take n items) a b ≡ slice_range items a b
range_taken items n a b h t u =
    sym (range_front (take n items) (drop n items) a b h (omega (arith, length-take n items)))
    ∙ ap (λ xs. slice_range xs a b) (take-append-drop n items)

pub rows_pop : (start : ℕ) (ends : List ℕ) (e : ℕ) (items : List Item) → AreEnds start (ends ++ e ∷ []) (length items) →
    rows_from start ends (take (end_of start ends) items) ≡ take (length ends) (rows_from start (ends ++ e ∷ []) items)
rows_pop start [] e items a = refl
rows_pop start (x ∷ ends) e items a =
    ap₂ (λ r rs. r ∷ rs)
    (range_taken items (end_of x ends) start x a.0 (start_front x ends e (length items) a.1) (end_within x ends e (length items) a.1))
    (rows_pop x ends e items a.1)

pub ends_pop : (start : ℕ) (ends : List ℕ) (e : ℕ) (items : List Item) → AreEnds start (ends ++ e ∷ []) (length items) →
    AreEnds start ends (length (take (end_of start ends) items))
ends_pop start ends e items a =
    let within = end_within start ends e (length items) a in
    let n : length (take (end_of start ends) items) ≡ end_of start ends = omega (arith, length-take (end_of start ends) items) in
    subst (AreEnds start ends) (sym n) (ends_front start ends e (length items) a)

-- the last child has the items after the others'
pub length_last : (start : ℕ) (ends : List ℕ) (e : ℕ) (items : List Item) → AreEnds start (ends ++ e ∷ []) (length items) →
    length (get_or (rows_from start (ends ++ e ∷ []) items) (length ends) []) + end_of start ends ≡ length items
length_last start [] e items a =
    let n = length-take (e - start) (drop start items) in
    let d = length-drop start items in
    omega (arith, n, d, a.0, a.1)
length_last start (x ∷ ends) e items a = length_last x ends e items a.1

-- the last of the ends
pub end_of_last : (start : ℕ) (ends : List ℕ) → unwrap_or (slice_get ends (length ends - 1)) start ≡ end_of start ends
end_of_last start [] = refl
end_of_last start (e ∷ ends) =
    let k : length (e ∷ ends) - 1 ≡ length ends = omega arith in
    ap (λ i. unwrap_or (slice_get (e ∷ ends) i) start) k ∙ behind start e ends
  where
    behind : (d x : ℕ) (xs : List ℕ) → unwrap_or (slice_get (x ∷ xs) (length xs)) d ≡ end_of x xs
    behind d x [] = refl
    behind d x (y ∷ xs) = behind d y xs

-- ---- the same of a list that was changed

module _ (ends ends2 : List ℕ) (items items2 : List Item) (kept : AreEnds 0 ends (length items)) where
  -- one more child
  module _ (end : ℕ) (new : List Item) (is : end ≡ length items + length new) (e : ends2 ≡ ends ++ end ∷ []) (i : items2 ≡ items ++ new) where
    pub pushed_rows : rows_from 0 ends2 items2 ≡ rows_from 0 ends items ++ new ∷ []
    pushed_rows = rw (e, i, is) (rows_push 0 ends items new kept)

    pub pushed_ends : AreEnds 0 ends2 (length items2)
    pushed_ends = rw (e, i, is, length-append items new) (ends_push 0 ends (length items) (length new) kept)

  -- one child less
  module _ (last at : ℕ) (e : ends ≡ ends2 ++ last ∷ []) (is : at ≡ end_of 0 ends2) (i : items2 ≡ take at items) where
    was : AreEnds 0 (ends2 ++ last ∷ []) (length items)
    was = rw (← e) kept

    pub popped_rows : rows_from 0 ends2 items2 ≡ take (length ends - 1) (rows_from 0 ends items)
    popped_rows =
        let n : length (ends2 ++ last ∷ []) - 1 ≡ length ends2 = omega (arith, length-append ends2 (last ∷ [])) in
        rw (e, i, is, n) (rows_pop 0 ends2 last items was)

    pub popped_ends : AreEnds 0 ends2 (length items2)
    popped_ends = rw (i, is) (ends_pop 0 ends2 last items was)

    pub popped_length : length items2 + length (items_at (rows_from 0 ends items) (length ends)) ≡ length items
    popped_length =
        let n : length (ends2 ++ last ∷ []) ≡ suc (length ends2) = omega (arith, length-append ends2 (last ∷ [])) in
        let l = length_last 0 ends2 last items was in
        let w = end_within 0 ends2 last (length items) was in
        let t : length (take (end_of 0 ends2) items) ≡ end_of 0 ends2 = omega (arith, length-take (end_of 0 ends2) items) in
        rw (e, i, is, n, t) (omega (arith, l))
