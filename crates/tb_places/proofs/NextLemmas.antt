-- Indexes rise, and each event that passes the test has one.
use Rattle.std.proofs.Common.{◌≡◌, ◌<◌, ◌≤◌, ◌+◌, ◌-◌, ⊎_elim, nat_lt, ltb-true, ℕ, zero, suc, List, [], ◌∷◌, Bool, true, false, cond, Option, Some, None, length, get_or, slice_get, refl, sym, ap, ◌∙◌, subst, arith}
use Rattle.std.proofs.lemmas.Bool.{cases_Bool, ltb-false}
use Rattle.std.proofs.lemmas.Option.{get_or_from_slice_get, slice_get-get_or}
use Rattle.std.proofs.lemmas.List.{get_or_default}
use Rattle.tb_model.specs.declared.event.Event.{Event}
use Rattle.tb_places.specs.Renumbering.{RiseFrom}
use Rattle.tb_places.specs.Where.{places_from, places_where, IsLastBefore, IsNoneFrom}
use Rattle.tb_places.proofs.WhereLemmas.{places_cons}

-- ---- they rise

pub lower : (low high : ℕ) (xs : List ℕ) → low ≤ high → RiseFrom high xs → RiseFrom low xs
lower low high [] l h = tt
lower low high (x ∷ xs) l h = (omega (arith, l, h.0), h.1)

pub above : (n : ℕ) (p : Event → Bool) (es : List Event) → RiseFrom n (places_from n p es)
above n p [] = tt
above n p (x ∷ es) = subst (RiseFrom n) (sym (places_cons n p x es)) (by (p x) (above (n + 1) p es))
  where
    by : (b : Bool) → RiseFrom (n + 1) (places_from (n + 1) p es) → RiseFrom n (cond b (n ∷ places_from (n + 1) p es) (places_from (n + 1) p es))
    by true rest = (omega arith, subst (λ k. RiseFrom k (places_from (n + 1) p es)) (omega arith) rest)
    by false rest = lower n (n + 1) (places_from (n + 1) p es) (omega arith) rest

pub at_least : (low : ℕ) (xs : List ℕ) (i d : ℕ) → RiseFrom low xs → i < length xs → low ≤ get_or xs i d
at_least low [] i d h l = absurd (omega (arith, l))
at_least low (x ∷ xs) zero d h l = h.0
at_least low (x ∷ xs) (suc i) d h l = let a = at_least (suc x) xs i d h.1 (omega (arith, l)) in omega (arith, a, h.0)

pub rise : (low : ℕ) (xs : List ℕ) → RiseFrom low xs → (i j : ℕ) (d : ℕ) → i ≤ j → j < length xs → get_or xs i d ≤ get_or xs j d
rise low [] a i j d h l = absurd (omega (arith, l))
rise low (x ∷ xs) a zero zero d h l = omega arith
rise low (x ∷ xs) a zero (suc j) d h l = let b = at_least (suc x) xs j d a.1 (omega (arith, l)) in omega (arith, b)
rise low (x ∷ xs) a (suc i) zero d h l = absurd (omega (arith, h))
rise low (x ∷ xs) a (suc i) (suc j) d h l = rise (suc x) xs a.1 i j d (omega (arith, h)) (omega (arith, l))

pub places_rise : (p : Event → Bool) (es : List Event) (ps : List ℕ) → ps ≡ places_where p es → (i j : ℕ) (d : ℕ) → i ≤ j → j < length ps → get_or ps i d ≤ get_or ps j d
places_rise p es ps is = rise 0 ps (subst (RiseFrom 0) (sym is) (above 0 p es))

-- ---- each has one

placed : (n : ℕ) (p : Event → Bool) (es : List Event) (k : ℕ) (e : Event) → slice_get es k ≡ Some e → p e ≡ true → (j : ℕ) × (slice_get (places_from n p es) j ≡ Some (n + k))
placed n p [] k e h t = absurd (none h)
  where
    none : None ≡ Some e → ⊥
    none g = cc
placed n p (x ∷ es) zero e h t = (0, ap (λ l. slice_get l 0) (places_cons n p x es ∙ ap (λ b. cond b (n ∷ places_from (n + 1) p es) (places_from (n + 1) p es)) passes) ∙ ap Some (omega arith))
  where
    same : x ≡ e
    same = cc

    passes : p x ≡ true
    passes = ap p same ∙ t
placed n p (x ∷ es) (suc k) e h t = by (p x) refl (placed (n + 1) p es k e h t)
  where
    by : (b : Bool) → p x ≡ b → (j : ℕ) × (slice_get (places_from (n + 1) p es) j ≡ Some (n + 1 + k)) → (j : ℕ) × (slice_get (places_from n p (x ∷ es)) j ≡ Some (n + suc k))
    by true f r = (suc r.0, ap (λ l. slice_get l (suc r.0)) (places_cons n p x es ∙ ap (λ b. cond b (n ∷ places_from (n + 1) p es) (places_from (n + 1) p es)) f) ∙ r.1 ∙ ap Some (omega arith))
    by false f r = (r.0, ap (λ l. slice_get l r.0) (places_cons n p x es ∙ ap (λ b. cond b (n ∷ places_from (n + 1) p es) (places_from (n + 1) p es)) f) ∙ r.1 ∙ ap Some (omega arith))

-- ---- those that are passed over

-- the first so many are in front of the one index, and the others not in front of the other
pub passed : (p : Event → Bool) (es : List Event) (ps : List ℕ) (after from to : ℕ) → ps ≡ places_where p es → ((i d : ℕ) → i < after → i < length ps → get_or ps i d < from)
    → ((i d : ℕ) → after ≤ i → i < length ps → to ≤ get_or ps i d) → IsNoneFrom p es from to
passed p es ps after from to is below behind k e low high here = by (p e) refl
  where
    by : (b : Bool) → p e ≡ b → b ≡ false
    by false f = refl
    by true t =
        let r = placed 0 p es k e here t in
        let same : 0 + k ≡ k = omega arith in
        let there : slice_get ps r.0 ≡ Some k = ap (λ l. slice_get l r.0) is ∙ r.1 ∙ ap Some same in
        let read : get_or ps r.0 0 ≡ k = get_or_from_slice_get ps r.0 k 0 there in
        absurd (either r.0 read (inside ps r.0 k there))
      where
        inside : (xs : List ℕ) (i k : ℕ) → slice_get xs i ≡ Some k → i < length xs
        inside [] i k h = absurd (none h)
          where
            none : None ≡ Some k → ⊥
            none g = cc
        inside (x ∷ xs) zero k h = omega arith
        inside (x ∷ xs) (suc i) k h = let m = inside xs i k h in omega (arith, m)

        either : (j : ℕ) → get_or ps j 0 ≡ k → j < length ps → ⊥
        either j read l =
            ⊎_elim (λ b. let m = below j 0 (ltb-true j after b) l in omega (arith, m, read, low)) (λ b. let m = behind j 0 (ltb-false j after b) l in omega (arith, m, read, high)) (cases_Bool (nat_lt j after))

-- ---- those that have one

no_place : {A : Type 0} (x : A) → None ≡ Some x → ⊥
no_place x h = cc

some_of : {A : Type 0} (x y : A) → ◌≡◌ {A = Option A} (Some x) (Some y) → x ≡ y
some_of x y h = cc

not_under : (m : ℕ) (xs : List ℕ) (j a : ℕ) → RiseFrom m xs → slice_get xs j ≡ Some a → a < m → ⊥
not_under m [] j a u h l = no_place a h
not_under m (y ∷ xs) zero a u h l = omega (arith, u.0, some_of y a h, l)
not_under m (y ∷ xs) (suc j) a u h l = not_under (suc y) xs j a u.1 h (omega (arith, u.0, l))

listed : (n : ℕ) (p : Event → Bool) (es : List Event) (j k : ℕ) (e : Event) → slice_get (places_from n p es) j ≡ Some (n + k) → slice_get es k ≡ Some e → p e ≡ true
listed n p [] j k e h there = absurd (no_place e there)
listed n p (x ∷ es) j k e h there =
    by (p x) refl j k (sym (ap (λ l. slice_get l j) (places_cons n p x es)) ∙ h) there (λ i m. listed (n + 1) p es i m e)
  where
    by : (b : Bool) → p x ≡ b → (j k : ℕ) → slice_get (cond (p x) (n ∷ places_from (n + 1) p es) (places_from (n + 1) p es)) j ≡ Some (n + k) → slice_get (x ∷ es) k ≡ Some e
        → ((i m : ℕ) → slice_get (places_from (n + 1) p es) i ≡ Some (n + 1 + m) → slice_get es m ≡ Some e → p e ≡ true) → p e ≡ true
    by true t j zero g here rest = ap p (sym (some_of x e here)) ∙ t
    by true t zero (suc k) g here rest =
        absurd (omega (arith, some_of n (n + suc k) (sym (ap (λ c. slice_get (cond c (n ∷ places_from (n + 1) p es) (places_from (n + 1) p es)) 0) t) ∙ g)))
    by true t (suc j) (suc k) g here rest =
        rest j k (sym (ap (λ c. slice_get (cond c (n ∷ places_from (n + 1) p es) (places_from (n + 1) p es)) (suc j)) t) ∙ g ∙ ap Some (omega arith)) here
    by false f j zero g here rest =
        absurd (not_under (n + 1) (places_from (n + 1) p es) j (n + 0) (above (n + 1) p es) (sym (ap (λ c. slice_get (cond c (n ∷ places_from (n + 1) p es) (places_from (n + 1) p es)) j) f) ∙ g) (omega arith))
    by false f j (suc k) g here rest =
        rest j k (sym (ap (λ c. slice_get (cond c (n ∷ places_from (n + 1) p es) (places_from (n + 1) p es)) j) f) ∙ g ∙ ap Some (omega arith)) here

-- the last of the first so many
pub last_of : (p : Event → Bool) (es : List Event) (ps : List ℕ) (after before at : ℕ) → ps ≡ places_where p es → 0 < after → after ≤ length ps → at ≡ get_or ps (after - 1) 0 → at < before
    → ((i d : ℕ) → after ≤ i → i < length ps → before ≤ get_or ps i d) → IsLastBefore p es before at
last_of p es ps after before at is some within here front behind = record {
  front = front;
  passes = λ e there. listed 0 p es (after - 1) at e (ap (λ l. slice_get l (after - 1)) (sym is) ∙ slice_get-get_or ps (after - 1) 0 (omega (arith, some, within)) ∙ ap Some (sym here) ∙ ap Some (omega arith)) there;
  none = passed p es ps after (at + 1) before is (λ i d l m. below i d l m) behind;
}
  where
    below : (i d : ℕ) → i < after → i < length ps → get_or ps i d < at + 1
    below i d l m =
        let up = places_rise p es ps is i (after - 1) d (omega (arith, l)) (omega (arith, some, within)) in
        let same = here ∙ get_or_default ps (after - 1) 0 d (omega (arith, some, within)) in
        omega (arith, up, same)
