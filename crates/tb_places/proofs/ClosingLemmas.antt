-- A row is lowered in place.
use Rattle.std.proofs.Common.{◌≡◌, ◌<◌, ◌≤◌, ◌+◌, ◌-◌, ◌==◌, min, ℕ, zero, suc, List, [], ◌∷◌, ◌++◌, Bool, true, false, cond, ltb, Some, None, length, take, drop, get_or, slice_get, set, refl, sym, ap, ◌∙◌, subst, arith, rules, tests, append_assoc, append-nil, if◌then◌else◌}
use Rattle.std.proofs.Math.ListN.{drop_of_length-le}
use Rattle.std.proofs.Math.Seq.{take-length}
use Rattle.std.proofs.lemmas.Bool.{true≢false, ltb-true, ltb-false}
use Rattle.std.proofs.lemmas.Bool.Decides.{nat_tests}
use Rattle.std.proofs.lemmas.List.{drop_more, take_more_set, drop-set-lt, length-set, length-take-le, length-drop, get_or-take, get_or-drop}
use Rattle.std.proofs.lemmas.Option.{get_or_from_slice_get}
use Rattle.std.proofs.lemmas.List.Sums.{prefix_len-le-length, prefix_len_passes}
use Rattle.tb_places.specs.Renumbering.{RiseFrom, below, goes_at, lowered}
use Rattle.tb_places.proofs.GapLemmas.{not_ltb}
use Rattle.tb_places.proofs.NextLemmas.{at_least, lower, rise}

-- ---- how many are in front, by index

-- no index is missed
pub by_index : (low : ℕ) (gs : List ℕ) (i d : ℕ) → RiseFrom low gs → i < length gs → low + i ≤ get_or gs i d
by_index low [] i d h l = absurd (omega (arith, l))
by_index low (g ∷ gs) zero d h l = omega (arith, h.0)
by_index low (g ∷ gs) (suc i) d h l = let r = by_index (suc g) gs i d h.1 (omega (arith, l)) in omega (arith, r, h.0)

pub under_below : (gs : List ℕ) (x i : ℕ) → i < below gs x → get_or gs i 0 < x
under_below gs x i h = ltb-true (get_or gs i 0) x (prefix_len_passes (λ g. ltb g x) gs i 0 h)

pub below_at : (low : ℕ) (gs : List ℕ) (x i : ℕ) → RiseFrom low gs → i < length gs → get_or gs i 0 < x → i < below gs x
below_at low [] x i h l under = absurd (omega (arith, l))
below_at low (g ∷ gs) x i h l under = by (λ j. below_at (suc g) gs x j h.1) i (ltb g x) refl l under
  where
    by : ((j : ℕ) → j < length gs → get_or gs j 0 < x → j < below gs x) → (i : ℕ) (b : Bool) → ltb g x ≡ b → i < suc (length gs) → get_or (g ∷ gs) i 0 < x → i < cond b (1 + below gs x) 0
    by later zero true t l under = omega arith
    by later (suc i) true t l under = let r = later i (omega (arith, l)) under in omega (arith, r)
    by later zero false f l under = absurd (omega (arith, under, ltb-false g x f))
    by later (suc i) false f l under =
        let far = at_least (suc g) gs i 0 h.1 (omega (arith, l)) in
        absurd (omega (arith, far, under, ltb-false g x f))

pub below_is : (low : ℕ) (gs : List ℕ) (x n : ℕ) → RiseFrom low gs → n ≤ below gs x → (n < length gs → x ≤ get_or gs n 0) → below gs x ≡ n
below_is low gs x n rises least past = by (ltb n (below gs x)) refl
  where
    by : (b : Bool) → ltb n (below gs x) ≡ b → below gs x ≡ n
    by false f = omega (arith, least, ltb-false n (below gs x) f)
    by true t =
        let more = ltb-true n (below gs x) t in
        let under = under_below gs x n more in
        let long = prefix_len-le-length (λ g. ltb g x) gs in
        absurd (omega (arith, under, past (omega (arith, more, long))))

-- as many that go are in front of an index as is said, at most
pub below_few : (gs : List ℕ) (x : ℕ) → RiseFrom 0 gs → below gs x ≤ x
below_few gs x rises = by (below gs x) refl
  where
    by : (n : ℕ) → below gs x ≡ n → n ≤ x
    by zero is = omega arith
    by (suc n) is =
        let long = prefix_len-le-length (λ g. ltb g x) gs in
        let under = under_below gs x n (omega (arith, is)) in
        let least = by_index 0 gs n 0 rises (omega (arith, long, is)) in
        omega (arith, under, least)

pub below_up : (gs : List ℕ) (x y : ℕ) → RiseFrom 0 gs → x ≤ y → below gs x ≤ below gs y
below_up gs x y rises h = by (below gs x) refl
  where
    by : (n : ℕ) → below gs x ≡ n → n ≤ below gs y
    by zero is = omega arith
    by (suc n) is =
        let long = prefix_len-le-length (λ g. ltb g x) gs in
        let under = under_below gs x n (omega (arith, is)) in
        let more = below_at 0 gs y n rises (omega (arith, long, is)) (omega (arith, under, h)) in
        omega (arith, more)

-- one that goes is in front of those after it
goes_there : (gs : List ℕ) (x n : ℕ) → goes_at x (drop n gs) ≡ true → (n < length gs) × (get_or gs n 0 ≡ x)
goes_there [] x zero h = absurd (true≢false (sym h))
goes_there [] x (suc n) h = absurd (true≢false (sym h))
goes_there (g ∷ gs) x zero h = (omega arith, search (rules, tests))
goes_there (g ∷ gs) x (suc n) h = let r = goes_there gs x n h in (omega (arith, r.0), r.1)

pub below_gone : (gs : List ℕ) (x y : ℕ) → RiseFrom 0 gs → x < y → goes_at x (drop (below gs x) gs) ≡ true → below gs x + 1 ≤ below gs y
below_gone gs x y rises h goes =
    let there = goes_there gs x (below gs x) goes in
    let more = below_at 0 gs y (below gs x) rises there.0 (omega (arith, there.1, h)) in
    omega (arith, more)

-- ---- the indexes in front of all that go

-- the index is in front of them all
pub record IsFront (gs : List ℕ) (x : ℕ) : Type 0 where
  pub none : below gs x ≡ 0
  pub stays : goes_at x gs ≡ false

front_cons : (g : ℕ) (gs : List ℕ) (x : ℕ) → x < g → IsFront (g ∷ gs) x
front_cons g gs x h = record {
  none = ap (λ b. cond b (1 + below gs x) 0) (not_ltb g x (omega (arith, h)));
  stays = apart g x h;
}
  where
    apart : (g x : ℕ) → x < g → (g == x) ≡ false
    apart g x h = grind (arith, nat_tests)

pub front_same : (gs ps : List ℕ) (n : ℕ) → ((i : ℕ) → i < n → i < length ps → IsFront gs (get_or ps i 0)) → take n ps ++ lowered gs (drop n ps) ≡ lowered gs ps
front_same gs ps zero front = refl
front_same gs [] (suc n) front = refl
front_same gs (x ∷ xs) (suc n) front =
    let here : IsFront gs x = front 0 (omega arith) (omega arith) in
    ap (λ l. x ∷ l) (front_same gs xs n (λ i less within. front (suc i) (omega (arith, less)) (omega (arith, within))))
    ∙ sym (ap (λ m. if goes_at x (drop m gs) then lowered gs xs else (x - m) ∷ lowered gs xs) here.none
    ∙ ap (λ b. if b then lowered gs xs else (x - 0) ∷ lowered gs xs) here.stays ∙ ap (λ m. m ∷ lowered gs xs) (omega arith))

pub front_none : (gs : List ℕ) (x : ℕ) → None ≡ slice_get gs 0 → IsFront gs x
front_none [] x h = record { none = refl; stays = refl }
front_none (g ∷ gs) x h = cc

pub front_first : (gs : List ℕ) (f x : ℕ) → Some f ≡ slice_get gs 0 → x < f → IsFront gs x
front_first [] f x h less = cc
front_first (g ∷ gs) f x h less =
    let same : f ≡ g = cc in
    front_cons g gs x (omega (arith, less, same))

pub front_last : (gs ps : List ℕ) (f l : ℕ) → Some f ≡ slice_get gs 0 → Some l ≡ slice_get ps (length ps - 1) → l < f → RiseFrom 0 ps → take (length ps) ps ++ lowered gs (drop (length ps) ps) ≡ lowered gs ps
front_last gs ps f l first last less rises =
    front_same gs ps (length ps)
    (λ i below within.
    let up = rise 0 ps rises i (length ps - 1) 0 (omega (arith, within)) (omega (arith, within)) in
    let is = get_or_from_slice_get ps (length ps - 1) l 0 (sym last) in
    front_first gs f (get_or ps i 0) first (omega (arith, up, is, less)))

-- ---- further and further ahead

pub leap_found : (gs : List ℕ) (x from width to n : ℕ) → RiseFrom 0 gs → from ≤ below gs x → from ≤ length gs → to ≡ min (length gs) (from + width) → 1 ≤ width → (from + width ≤ length gs → x ≤ get_or gs (from + width - 1) 0)
    → n ≤ length (take (to - from) (drop from gs)) → ((i d : ℕ) → i < n → i < length (take (to - from) (drop from gs)) → get_or (take (to - from) (drop from gs)) i d < x)
    → ((i d : ℕ) → n ≤ i → i < length (take (to - from) (drop from gs)) → x ≤ get_or (take (to - from) (drop from gs)) i d) → from + n ≡ below gs x
leap_found gs x from width to n rises least start is some ahead inside under over = sym (below_is 0 gs x (from + n) rises (by n refl) past)
  where
    many : length (take (to - from) (drop from gs)) ≡ to - from
    many = length-take-le (to - from) (drop from gs) (omega (arith, is, length-drop from gs))

    read : (i : ℕ) → i < to - from → get_or (take (to - from) (drop from gs)) i 0 ≡ get_or gs (from + i) 0
    read i within = get_or-take (to - from) (drop from gs) i 0 within ∙ get_or-drop from gs i 0

    by : (m : ℕ) → m ≡ n → from + m ≤ below gs x
    by zero h = omega (arith, least)
    by (suc m) h =
        let less = under m 0 (omega (arith, h)) (omega (arith, h, inside)) in
        let more = below_at 0 gs x (from + m) rises (omega (arith, h, inside, many, is)) (omega (arith, less, read m (omega (arith, h, inside, many)))) in
        omega (arith, more)

    past : from + n < length gs → x ≤ get_or gs (from + n) 0
    past within = either (ltb n (to - from)) refl
      where
        either : (b : Bool) → ltb n (to - from) ≡ b → x ≤ get_or gs (from + n) 0
        either true t =
            let less = ltb-true n (to - from) t in
            let more = over n 0 (omega arith) (omega (arith, less, many)) in
            omega (arith, more, read n less)
        either false f =
            -- the last that was looked at is not in front, so not all are
            let all : n ≡ to - from = omega (arith, ltb-false n (to - from) f, inside, many) in
            let wide : to ≡ from + width = omega (arith, is, within, all) in
            let less = under (n - 1) 0 (omega (arith, all, wide, some)) (omega (arith, all, wide, some, many)) in
            let same : get_or gs (from + (n - 1)) 0 ≡ get_or gs (from + width - 1) 0 = ap (λ i. get_or gs i 0) (omega (arith, all, wide, some)) in
            absurd (omega (arith, less, read (n - 1) (omega (arith, all, wide, some)), same, ahead (omega (arith, is, wide))))

-- ---- the loop

-- those in front of the one index are done, and so many of these that stay come first; so many that
-- go are in front of the next
pub record Lowers (going old : List ℕ) (from : ℕ) (places : List ℕ) (at stay next : ℕ) : Type 0 where
  pub len : length places ≡ length old
  pub order : stay ≤ at
  pub inside : at ≤ length old
  pub rest : drop at places ≡ drop at old
  pub done : take stay places ++ lowered going (drop at old) ≡ take from old ++ lowered going (drop from old)
  pub behind : (i : ℕ) → at ≤ i → i < length old → next ≤ below going (get_or old i 0)

module _ (going old : List ℕ) (from : ℕ) (places : List ℕ) (at stay next x : ℕ) (l : Lowers going old from places at stay next) (rises : RiseFrom 0 going) (up : RiseFrom 0 old) (within : at < length old) (is : x ≡ get_or old at 0) where
  abbrev here : List ℕ
  here = drop (at + 1) old

  rest_is : drop at old ≡ x ∷ here
  rest_is = drop_more old at 0 within ∙ ap (λ y. y ∷ here) (sym is)

  past : drop (at + 1) places ≡ here
  past =
      let m = drop_more places at 0 (omega (arith, l.len, within)) in
      let n = l.rest in
      let o = rest_is in
      cc

  higher : (i : ℕ) → at + 1 ≤ i → i < length old → x < get_or old i 0
  higher i less i_within =
      let r = by_two 0 old up at i less i_within in
      omega (arith, r, is)
    where
      by_two : (low : ℕ) (xs : List ℕ) → RiseFrom low xs → (i j : ℕ) → i + 1 ≤ j → j < length xs → get_or xs i 0 < get_or xs j 0
      by_two low [] a i j h l = absurd (omega (arith, l))
      by_two low (x ∷ xs) a i zero h l = absurd (omega (arith, h))
      by_two low (x ∷ xs) a zero (suc j) h l = let b = at_least (suc x) xs j 0 a.1 (omega (arith, l)) in omega (arith, b)
      by_two low (x ∷ xs) a (suc i) (suc j) h l = by_two (suc x) xs a.1 i j (omega (arith, h)) (omega (arith, l))

  pub lowers_gone : goes_at x (drop (below going x) going) ≡ true → Lowers going old from places (at + 1) stay (below going x + 1)
  lowers_gone goes = record {
    len = l.len;
    order = omega (arith, l.order);
    inside = omega (arith, within);
    rest = past;
    done =
        ap (λ r. take stay places ++ r)
        (sym (ap (λ b. if b then lowered going here else (x - below going x) ∷ lowered going here) goes) ∙ sym (ap (lowered going) rest_is))
        ∙ l.done;
    behind = λ i less i_within. below_gone going x (get_or old i 0) rises (higher i less i_within) goes;
  }

  pub lowers_kept : goes_at x (drop (below going x) going) ≡ false → (new : List ℕ) → new ≡ set places stay (x - below going x) → Lowers going old from new (at + 1) (stay + 1) (below going x)
  lowers_kept stays new set_is = record {
    len = ap length set_is ∙ length-set places stay (x - below going x) ∙ l.len;
    order = omega (arith, l.order);
    inside = omega (arith, within);
    rest = ap (drop (at + 1)) set_is ∙ drop-set-lt (at + 1) places stay (x - below going x) (omega (arith, l.order)) ∙ past;
    done =
        ap (λ r. r ++ lowered going here) (ap (take (stay + 1)) set_is ∙ take_more_set places stay (x - below going x) (omega (arith, l.order, l.len, within)))
        ∙ append_assoc (take stay places) ((x - below going x) ∷ []) (lowered going here)
        ∙ ap (λ r. take stay places ++ r)
        (sym (ap (λ b. if b then lowered going here else (x - below going x) ∷ lowered going here) stays) ∙ sym (ap (lowered going) rest_is))
        ∙ l.done;
    behind = λ i less i_within. let h = higher i less i_within in below_up going x (get_or old i 0) rises (omega (arith, h));
  }

pub slice_rises : (gs : List ℕ) (from to : ℕ) → RiseFrom 0 gs → (i j d : ℕ) → i ≤ j → j < length (take (to - from) (drop from gs)) → get_or (take (to - from) (drop from gs)) i d ≤ get_or (take (to - from) (drop from gs)) j d
slice_rises gs from to rises = rise 0 (take (to - from) (drop from gs)) (front 0 (to - from) (drop from gs) (back 0 from gs rises))
  where
    front : (low n : ℕ) (xs : List ℕ) → RiseFrom low xs → RiseFrom low (take n xs)
    front low zero xs h = tt
    front low (suc n) [] h = tt
    front low (suc n) (x ∷ xs) h = (h.0, front (suc x) n xs h.1)

    back : (low n : ℕ) (xs : List ℕ) → RiseFrom low xs → RiseFrom low (drop n xs)
    back low zero xs h = h
    back low (suc n) [] h = tt
    back low (suc n) (x ∷ xs) h = lower low (suc x) (drop n xs) (omega (arith, h.0)) (back (suc x) n xs h.1)

-- nothing goes after those that are passed
none_goes : (gs : List ℕ) (x n : ℕ) → length gs ≤ n → goes_at x (drop n gs) ≡ false
none_goes [] x zero h = refl
none_goes [] x (suc n) h = refl
none_goes (g ∷ gs) x zero h = absurd (omega (arith, h))
none_goes (g ∷ gs) x (suc n) h = none_goes gs x n (omega (arith, h))

-- where all that go are in front, the indexes from here on only move
pub lowers_rest : (going old : List ℕ) (from : ℕ) (places : List ℕ) (at stay next : ℕ) → Lowers going old from places at stay next
    → (at < length old → length going ≤ next) → Lowers going old from places at stay (length going)
lowers_rest going old from places at stay next l past = record {
  len = l.len;
  order = l.order;
  inside = l.inside;
  rest = l.rest;
  done = l.done;
  behind = λ i less within. let h = l.behind i less within in omega (arith, h, past (omega (arith, less, within)));
}

pub all_below : (going old : List ℕ) (from : ℕ) (places : List ℕ) (at stay : ℕ) → Lowers going old from places at stay (length going)
    → at < length old → below going (get_or old at 0) ≡ length going
all_below going old from places at stay l within =
    let most = prefix_len-le-length (λ g. ltb g (get_or old at 0)) going in
    omega (arith, l.behind at (omega arith) within, most)

pub lowers_on : (going old : List ℕ) (from : ℕ) (places : List ℕ) (at stay x : ℕ) → Lowers going old from places at stay (length going)
    → RiseFrom 0 going → RiseFrom 0 old → at < length old → x ≡ get_or old at 0 → (new : List ℕ) → new ≡ set places stay (x - length going)
    → Lowers going old from new (at + 1) (stay + 1) (length going)
lowers_on going old from places at stay x l rises up within is new set_is =
    let all : below going x ≡ length going = ap (below going) is ∙ all_below going old from places at stay l within in
    let stays = none_goes going x (below going x) (omega (arith, all)) in
    let same = set_is ∙ ap (λ n. set places stay (x - n)) (sym all) in
    subst (Lowers going old from new (at + 1) (stay + 1)) all (lowers_kept going old from places at stay (length going) x l rises up within is stays new same)

-- an index that is read from what is lowered so far is that of the row
pub same_here : (going old : List ℕ) (from : ℕ) (places : List ℕ) (at stay next : ℕ) → Lowers going old from places at stay next → at < length old → get_or places at 0 ≡ get_or old at 0
same_here going old from places at stay next l within =
    let m = drop_more places at 0 (omega (arith, l.len, within)) in
    let n = drop_more old at 0 within in
    let o = l.rest in
    cc

-- ---- where the first index is after all that go

pub lowers_first : (going old : List ℕ) → RiseFrom 0 going → RiseFrom 0 old → length going ≤ below going (get_or old 0 0)
    → Lowers going old 0 old 0 0 (length going)
lowers_first going old rises up first = record {
  len = refl;
  order = omega arith;
  inside = omega arith;
  rest = refl;
  done = refl;
  behind = λ i less within.
      let high = rise 0 old up 0 i 0 (omega arith) within in
      let more = below_up going (get_or old 0 0) (get_or old i 0) rises high in
      omega (arith, first, more);
}

pub lowers_last : (going old places : List ℕ) (at : ℕ) → Lowers going old 0 places at at (length going) → length old ≤ at → places ≡ lowered going old
lowers_last going old places at l done =
    sym (whole places at (omega (arith, l.len, l.inside, done))) ∙ sym (append-nil (take at places))
    ∙ ap (λ r. take at places ++ lowered going r) (sym (drop_of_length-le old done)) ∙ l.done
  where
    whole : (xs : List ℕ) (n : ℕ) → n ≡ length xs → take n xs ≡ xs
    whole xs n e = ap (λ m. take m xs) e ∙ take-length xs

pub all_passed : (going places : List ℕ) (last first : ℕ) → RiseFrom 0 going → Some last ≡ slice_get going (length going - 1)
    → Some first ≡ slice_get places 0 → last < first → length going ≤ below going (get_or places 0 0)
all_passed going places last first rises is here less = by (length going) refl
  where
    by : (n : ℕ) → n ≡ length going → length going ≤ below going (get_or places 0 0)
    by zero e = omega (arith, e)
    by (suc n) e =
        let there = get_or_from_slice_get going (length going - 1) last 0 (sym is) in
        let newest : get_or going n 0 ≡ last = ap (λ i. get_or going i 0) (omega (arith, e)) ∙ there in
        let front = get_or_from_slice_get places 0 first 0 (sym here) in
        let more = below_at 0 going (get_or places 0 0) n rises (omega (arith, e)) (omega (arith, newest, front, less)) in
        omega (arith, more, e)
