-- Receipts of all seats that are in the journal from a slot on, and are as many as its entries from
-- there, are all of these by slot.
use Rattle.std.proofs.Common.{ℕ, ◌+◌, ◌<◌, ◌≤◌, ◌≡◌, ◌≢◌, zero, suc, List, [], ◌∷◌, ◌++◌, Bool, true, false, cond, nat_eq, nat_lt, map, take, drop, length, length-drop, get_or, refl, ap, sym, subst, ◌∙◌, arith, All, None, Some, length-append, append_assoc}
use Rattle.std.proofs.lemmas.Bool.Decides.{nat_tests}
use Rattle.std.proofs.lemmas.List.{length-map, length-take, take-append-drop, get_or-map}
use Rattle.std.proofs.lemmas.List.Sums.{sum_by-cons, sum_by-append}
use Rattle.std.proofs.lemmas.List.Sorted.{All-permutation, sum_by-IsPermutation, IsNonDecreasingBy-from_sort}
use Rattle.std.specs.Prelude.{IsPermutation, IsSortedByKey}
use Rattle.std.specs.List.Sorted.{IsNonDecreasingBy}
use Rattle.std.specs.Ordering.{nat_cmp}
use Rattle.std.specs.List.{sum_by}
use Rattle.tb_model.specs.declared.entry.Entry.{Entry}
use Rattle.tb_model.specs.declared.entry.Entry.TheVariants.{Opened}
use Rattle.tb_work.specs.declared.receipt.Receipt.{Receipt}
use Rattle.tb_journal.specs.Journals.{seat_of}
use Rattle.tb_work.specs.Receipts.{Seated, HaveOwnNumbers, receipt, rises_from, all_of, IsRow, Stands, first_gap, all_receipts, receipts_in, receipts_from}
use Rattle.tb_work.proofs.Numbered.{Rises, AllAtMost, all_places, from as run_from}
use Rattle.tb_work.proofs.Distinct.{hit, hits, hits-append, Owned, concat, Apart, Good, once, strict}

-- a receipt's slot
abbrev pub place_of : Receipt → ℕ
place_of r = r.place

abbrev pub places : List Receipt → List ℕ
places rs = map place_of rs

-- r is the journal's entry at its slot
abbrev pub IsAt : List Entry → Receipt → Type 0
IsAt J r = (r.place < length J) × (get_or J r.place r.entry ≡ r.entry)

-- ---- parts of a list

all_head : {X : Type 0} (P : X → Type 0) (x : X) (xs : List X) → All P (x ∷ xs) → P x
all_head P x xs a = a 0 x (omega arith)

all_tail : {X : Type 0} (P : X → Type 0) (x : X) (xs : List X) → All P (x ∷ xs) → All P xs
all_tail P x xs a k d lt = a (suc k) d (omega (arith, lt))

all_left : {X : Type 0} (P : X → Type 0) (xs ys : List X) → All P (xs ++ ys) → All P xs
all_left P [] ys a k d lt = absurd (omega (arith, lt))
all_left P (x ∷ xs) ys a zero d lt = all_head P x (xs ++ ys) a
all_left P (x ∷ xs) ys a (suc k) d lt = all_left P xs ys (all_tail P x (xs ++ ys) a) k d (omega (arith, lt))

all_right : {X : Type 0} (P : X → Type 0) (xs ys : List X) → All P (xs ++ ys) → All P ys
all_right P [] ys a = a
all_right P (x ∷ xs) ys a = all_right P xs ys (all_tail P x (xs ++ ys) a)

-- ---- no gap

no_gap : (n : ℕ) (rs : List Receipt) → first_gap n rs ≡ None → All (λ r. r.place < n) rs
no_gap n [] is = λ k d lt. absurd (omega (arith, lt))
no_gap n (r ∷ rs) is = by (nat_lt r.place n) refl is (no_gap n rs)
  where
    by : (b : Bool) → nat_lt r.place n ≡ b → cond b (first_gap n rs) (Some r.place) ≡ None → (first_gap n rs ≡ None → All (λ x. x.place < n) rs) → All (λ x. x.place < n) (r ∷ rs)
    by true below rest others zero d lt = grind (arith, nat_tests)
    by true below rest others (suc k) d lt = others rest k d (omega (arith, lt))
    by false below rest others k d lt = absurd cc

at_their_places : (J : List Entry) (rs : List Receipt) → first_gap (length J) rs ≡ None → All (Stands J) rs → All (IsAt J) rs
at_their_places J rs is stand k d lt = (no_gap (length J) rs is k d lt, stand k d lt (no_gap (length J) rs is k d lt))

-- ---- each seat's slots rise, and are its own

rises_of : (n : ℕ) (rs : List Receipt) → rises_from n rs ≡ true → Rises n (places rs)
rises_of n [] is = tt
rises_of n (r ∷ rs) is =
    let first : nat_lt n r.place ≡ true = grind arith in
    let rest : rises_from r.place rs ≡ true = grind arith in
    (grind (arith, nat_tests), rises_of r.place rs rest)

-- whose entry is at the slot
abbrev pub own : List Entry → ℕ → ℕ
own J q = seat_of (get_or J q Opened)

get_or_any : {X : Type 0} (xs : List X) (k : ℕ) (d e : X) → k < length xs → get_or xs k d ≡ get_or xs k e
get_or_any [] k d e lt = absurd (omega (arith, lt))
get_or_any (x ∷ xs) zero d e lt = refl
get_or_any (x ∷ xs) (suc k) d e lt = get_or_any xs k d e (omega (arith, lt))

owned_by : (J : List Entry) (n : ℕ) (rs : List Receipt) → all_of n rs ≡ true → All (IsAt J) rs → Owned (own J) n (places rs)
owned_by J n [] is at = tt
owned_by J n (r ∷ rs) is at =
    let here = all_head (IsAt J) r rs at in
    let first : nat_eq (seat_of r.entry) n ≡ true = grind arith in
    let rest : all_of n rs ≡ true = grind arith in
    let seat : seat_of r.entry ≡ n = grind (arith, nat_tests) in
    (ap seat_of (get_or_any J r.place Opened r.entry here.0 ∙ here.1) ∙ seat, owned_by J n rs rest (all_tail (IsAt J) r rs at))

abbrev pub rows_of : List Seated → List (ℕ × List ℕ)
rows_of seats = map (λ s. (s.number, places s.receipts)) seats

apart_rows : (n : ℕ) (seats : List Seated) → ((i : ℕ) (d : Seated) → i < length seats → (get_or seats i d).number ≢ n) → Apart n (rows_of seats)
apart_rows n [] apart = tt
apart_rows n (s ∷ ss) apart = (apart 0 s (omega arith), apart_rows n ss (λ i d lt. apart (suc i) d (omega (arith, lt))))

not_first : (i : ℕ) → 0 ≡ suc i → ⊥
not_first i e = omega (arith, e)

one_less : (i j : ℕ) → suc i ≡ suc j → i ≡ j
one_less i j e = omega (arith, e)

good_rows : (J : List Entry) (seats : List Seated) → HaveOwnNumbers seats → All IsRow seats → All (IsAt J) (all_receipts seats) → Good (own J) (rows_of seats)
good_rows J [] numbers rows at = tt
good_rows J (s ∷ ss) numbers rows at =
    let row = all_head IsRow s ss rows in (
      rises_of 0 s.receipts row.rises,
      owned_by J s.number s.receipts row.own (all_left (IsAt J) s.receipts (all_receipts ss) at),
      apart_rows s.number ss (λ i d lt same. not_first i (numbers 0 (suc i) d (omega arith) (omega (arith, lt)) (sym same))),
      good_rows J ss (λ i j d lt below same. one_less i j (numbers (suc i) (suc j) d (omega (arith, lt)) (omega (arith, below)) same)) (all_tail IsRow s ss rows) (all_right (IsAt J) s.receipts (all_receipts ss) at),
    )

-- ---- how often a slot is in a list of receipts

hits_summed : (q : ℕ) (rs : List Receipt) → hits q (places rs) ≡ sum_by (λ r. hit q r.place) rs
hits_summed q [] = refl
hits_summed q (r ∷ rs) = omega (arith, hits_summed q rs, sum_by-cons (λ (x : Receipt). hit q x.place) r rs)

hits_rows : (q : ℕ) (seats : List Seated) → hits q (concat (rows_of seats)) ≡ sum_by (λ r. hit q r.place) (all_receipts seats)
hits_rows q [] = refl
hits_rows q (s ∷ ss) =
    let f : Receipt → ℕ = λ x. hit q x.place in
    omega (arith, hits-append q (places s.receipts) (concat (rows_of ss)), hits_summed q s.receipts, hits_rows q ss, sum_by-append f s.receipts (all_receipts ss))

count_all : (seats : List Seated) → length (all_receipts seats) ≡ receipts_in seats
count_all [] = refl
count_all (s ∷ ss) = omega (arith, length-append s.receipts (all_receipts ss), count_all ss, sum_by-cons (λ (x : Seated). length x.receipts) s ss)

-- ---- the sorted list

at_most : (J : List Entry) (m : ℕ) (rs : List Receipt) → length J ≡ m + 1 → All (IsAt J) rs → AllAtMost m (places rs)
at_most J m [] is at = tt
at_most J m (r ∷ rs) is at = (omega (arith, (all_head (IsAt J) r rs at).0, is), at_most J m rs is (all_tail (IsAt J) r rs at))

get_at : {X : Type 0} (xs : List X) (y : X) (ys : List X) (d : X) → get_or (xs ++ y ∷ ys) (length xs) d ≡ y
get_at [] y ys d = refl
get_at (x ∷ xs) y ys d = get_at xs y ys d

-- receipts at slots that follow one another are the entries there
spelled : (J front back : List Entry) (rs : List Receipt) (a : ℕ) → J ≡ front ++ back → length front ≡ a + 1 → length back ≡ length rs
    → places rs ≡ run_from a (length rs) → All (IsAt J) rs → rs ≡ receipts_from (a + 1) back
spelled J front [] [] a is long same ps at = refl
spelled J front (e ∷ back) [] a is long same ps at = absurd (omega (arith, same))
spelled J front [] (r ∷ rs) a is long same ps at = absurd (omega (arith, same))
spelled J front (e ∷ back) (r ∷ rs) a is long same ps at =
    let here = all_head (IsAt J) r rs at in
    let place : r.place ≡ a + 1 = ap (λ l. get_or l 0 0) ps in
    let later : places rs ≡ run_from (a + 1) (length rs) = ap (drop 1) ps in
    let found : get_or J r.place r.entry ≡ e = ap (λ l. get_or l r.place r.entry) is ∙ ap (λ k. get_or (front ++ e ∷ back) k r.entry) (place ∙ sym long) ∙ get_at front e back r.entry in
    let entry : r.entry ≡ e = sym here.1 ∙ found in
    let next : J ≡ (front ++ e ∷ []) ++ back = is ∙ sym (append_assoc front (e ∷ []) back) in
    let rest = spelled J (front ++ e ∷ []) back rs (a + 1) next (omega (arith, length-append front (e ∷ []), long)) (omega (arith, same)) later (all_tail (IsAt J) r rs at) in
    let first : r ≡ receipt (a + 1) e = ap (λ k. receipt k r.entry) place ∙ ap (receipt (a + 1)) entry in
    let others : rs ≡ receipts_from (suc (a + 1)) back = rest ∙ ap (λ k. receipts_from k back) (omega arith) in
    ap (λ x. x ∷ rs) first ∙ ap (λ l. receipt (a + 1) e ∷ l) others

-- the slots are all above it
lowest : (a : ℕ) (xs : List Receipt) → All (λ r. a + 1 ≤ r.place) xs → 0 < length (places xs) → a < get_or (places xs) 0 0
lowest a [] from lt = absurd (omega (arith, lt))
lowest a (r ∷ rs) from lt = let first = all_head (λ x. a + 1 ≤ x.place) r rs from in omega (arith, first)

not_less : (a b : ℕ) → a ≤ b → nat_lt b a ≡ false
not_less a b le = grind (arith, nat_tests)

falls_not : (xs : List Receipt) → IsNonDecreasingBy place_of xs → (k : ℕ) (d : ℕ) → suc k < length xs → nat_lt (get_or (places xs) (suc k) d) (get_or (places xs) k d) ≡ false
falls_not xs up k d lt =
    let r = receipt d Opened in
    let a = get_or-map place_of xs k r d (omega (arith, lt)) in
    let b = get_or-map place_of xs (suc k) r d lt in
    rw (a, b) (not_less (get_or xs k r).place (get_or xs (suc k) r).place (up k (suc k) r (omega arith) lt))

length_counted : (rs : List Receipt) → length rs ≡ sum_by (λ r. 1) rs
length_counted [] = refl
length_counted (r ∷ rs) = omega (arith, length_counted rs, sum_by-cons (λ (x : Receipt). 1) r rs)

pub whole : (J : List Entry) (f : ℕ) (seats : List Seated) (xs : List Receipt)
    → HaveOwnNumbers seats → All IsRow seats → All (Stands J) (all_receipts seats) → first_gap (length J) (all_receipts seats) ≡ None
    → 1 ≤ f → All (λ r. f ≤ r.place) (all_receipts seats) → receipts_in seats + f ≡ length J
    → IsPermutation (all_receipts seats) xs → IsSortedByKey place_of nat_cmp xs
    → xs ≡ receipts_from f (drop f J)
whole J zero seats xs numbers rows stand gap some from count same sorted = absurd (omega (arith, some))
whole J (suc a) seats xs numbers rows stand gap some from count same sorted =
    let at_all = at_their_places J (all_receipts seats) gap stand in
    let at = All-permutation (IsAt J) (all_receipts seats) xs same at_all in
    let on : suc a ≡ a + 1 = omega arith in
    let later = subst (λ n. All (λ r. n ≤ r.place) xs) on (All-permutation (λ r. suc a ≤ r.place) (all_receipts seats) xs same from) in
    let good = good_rows J seats numbers rows at_all in
    let ps = places xs in
    let many : length ps ≡ length xs = length-map xs place_of in
    let one : Receipt → ℕ = λ r. 1 in
    let total : length xs ≡ receipts_in seats = length_counted xs ∙ sum_by-IsPermutation one (all_receipts seats) xs same ∙ sym (length_counted (all_receipts seats)) ∙ count_all seats in
    let long : length J ≡ (a + length xs) + 1 = omega (arith, total, count) in
    let hit_as : (q : ℕ) → hits q ps ≡ hits q (concat (rows_of seats)) = λ q. hits_summed q xs ∙ sum_by-IsPermutation (λ r. hit q r.place) (all_receipts seats) xs same ∙ sym (hits_rows q seats) in
    let rising = IsNonDecreasingBy-from_sort place_of xs sorted in
    let low : (k : ℕ) (d : ℕ) → suc k < length ps → nat_lt (get_or ps (suc k) d) (get_or ps k d) ≡ false = λ k d lt. falls_not xs rising k d (omega (arith, lt, many)) in
    let rises = strict a ps low (λ q. omega (arith, hit_as q, once (own J) q (rows_of seats) good)) (lowest a xs later) in
    let bound : AllAtMost (a + length ps) ps = subst (λ n. AllAtMost n ps) (ap (λ n. a + n) (sym many)) (at_most J (a + length xs) xs long at) in
    let spelt : ps ≡ run_from a (length xs) = all_places a ps rises bound ∙ ap (run_from a) many in
    let front : length (take (suc a) J) ≡ a + 1 = omega (arith, length-take (suc a) J, long) in
    let back : length (drop (suc a) J) ≡ length xs = omega (arith, length-drop (suc a) J, long) in
    let said : xs ≡ receipts_from (a + 1) (drop (suc a) J) =
    spelled J (take (suc a) J) (drop (suc a) J) xs a (sym (take-append-drop (suc a) J)) front back spelt at in
    said ∙ ap (λ n. receipts_from n (drop (suc a) J)) (sym on)
