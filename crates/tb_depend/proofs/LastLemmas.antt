-- The last item in front that passes a test.
use Rattle.std.proofs.Common.{◌≡◌, ◌<◌, ◌≤◌, ℕ, zero, suc, List, [], ◌∷◌, ◌++◌, Bool, true, false, ◌||◌, ◌==◌, length, slice_get, Some, refl, sym, ap, ◌∙◌, subst, ◌⊎◌, inl, inr, arith, eqb-true, eq-eqb, get_or}
use Rattle.std.specs.Prelude.{IsTrue, max}
use Rattle.std.proofs.lemmas.Bool.{cases_lt, or_cases, false≢true}
use Rattle.std.proofs.lemmas.List.{length-append}
use Rattle.std.proofs.lemmas.Option.{slice_get_within, slice_get_read}
use Rattle.tb_model.specs.declared.kind.Kind.{Kind}
use Rattle.tb_model.specs.declared.kind.Kind.TheVariants.{In, Out, Inout, Mutexinoutset, Inoutset}
use Rattle.tb_model.specs.declared.place.Place.{Place}
use Rattle.tb_model.specs.declared.place.Place.TheVariants.{Cell, All}
use Rattle.tb_model.specs.declared.item.Item.{Item}
use Rattle.tb_model.specs.Items.{relation, is_before, same_place}
use Rattle.tb_depend.specs.Chains.{IsLast, is_place, is_of, is_met}

-- ---- lists

pub get_front : {A : Type 0} (xs ys : List A) (k : ℕ) → k < length xs → slice_get (xs ++ ys) k ≡ slice_get xs k
get_front [] ys k h = absurd (omega arith)
get_front (x ∷ xs) ys zero h = refl
get_front (x ∷ xs) ys (suc k) h = get_front xs ys k (omega arith)

pub get_behind : {A : Type 0} (xs : List A) (x : A) → slice_get (xs ++ x ∷ []) (length xs) ≡ Some x
get_behind [] x = refl
get_behind (y ∷ xs) x = get_behind xs x

pub get_either : {A : Type 0} (xs : List A) (x y : A) (k : ℕ) → slice_get (xs ++ x ∷ []) k ≡ Some y → ((k < length xs) × (slice_get xs k ≡ Some y)) ⊎ ((k ≡ length xs) × (y ≡ x))
get_either xs x y k e = elim (cases_lt k (length xs)) [
  | inl h ↦ inl (h, sym (get_front xs (x ∷ []) k h) ∙ e)
  | inr h ↦
      let l = slice_get_within (xs ++ x ∷ []) k y e in
      let n = length-append xs (x ∷ []) in
      let same : k ≡ length xs = omega (arith, l, n, h) in
      let q : Some y ≡ Some x = sym (subst (λ j. slice_get (xs ++ x ∷ []) j ≡ Some y) same e) ∙ get_behind xs x in
      inr (same, cc)
]

-- ---- the last one

pub last_all : (test : Item → Bool) (items : List Item) (n : ℕ) → ((i : Item) → IsTrue (test i)) → IsLast test items n n
last_all test items n all = record {
  within = omega arith;
  last = λ k i h e t. h;
  passes = λ k i h e. all i;
}

module _ (test : Item → Bool) (items ys : List Item) (n r : ℕ) (few : n ≤ length items) where
  pub last_front : IsLast test items n r → IsLast test (items ++ ys) n r
  last_front l = record {
    within = l.within;
    last = λ k i h e t. l.last k i h (sym (get_front items ys k (omega (arith, h, few))) ∙ e) t;
    passes = λ k i h e. l.passes k i h (sym (get_front items ys k (omega (arith, h, few, l.within))) ∙ e);
  }

  pub last_back : IsLast test (items ++ ys) n r → IsLast test items n r
  last_back l = record {
    within = l.within;
    last = λ k i h e t. l.last k i h (get_front items ys k (omega (arith, h, few)) ∙ e) t;
    passes = λ k i h e. l.passes k i h (get_front items ys k (omega (arith, h, few, l.within)) ∙ e);
  }

module _ (test : Item → Bool) (items : List Item) (x : Item) where
  pub last_is : IsTrue (test x) → IsLast test (items ++ x ∷ []) (suc (length items)) (suc (length items))
  last_is t = record {
    within = omega arith;
    last = λ k i h e p. h;
    passes = λ k i h e.
        elim (get_either items x i k e) [
          | inl q ↦ absurd (omega (arith, q.0, h))
          | inr q ↦ subst (λ j. IsTrue (test j)) (sym q.1) t
        ];
  }

  pub last_stays : (r : ℕ) → test x ≡ false → IsLast test items (length items) r → IsLast test (items ++ x ∷ []) (suc (length items)) r
  last_stays r f l = record {
    within = omega (arith, l.within);
    last = λ k i h e t.
        elim (get_either items x i k e) [
          | inl q ↦ l.last k i q.0 q.1 t
          | inr q ↦ absurd (false≢true (sym f ∙ subst (λ j. test j ≡ true) q.1 t))
        ];
    passes = λ k i h e. l.passes k i h (sym (get_front items (x ∷ []) k (omega (arith, h, l.within))) ∙ e);
  }

  pub last_stayed : (r : ℕ) → test x ≡ false → IsLast test (items ++ x ∷ []) (suc (length items)) r → IsLast test items (length items) r
  last_stayed r f l = record {
    within = elim (cases_lt (length items) r) [
      | inl h ↦
          let same : r ≡ suc (length items) = omega (arith, h, l.within) in
          absurd (false≢true (sym f ∙ l.passes (length items) x same (get_behind items x)))
      | inr h ↦ h
    ];
    last = λ k i h e t. l.last k i (omega (arith, h)) (get_front items (x ∷ []) k h ∙ e) t;
    passes = λ k i h e. l.passes k i h (elim (get_cases k) [
      | inl q ↦ get_front items (x ∷ []) k q ∙ e
      | inr q ↦ absurd (omega (arith, q, slice_get_within items k i e))
    ]);
  }
    where
      get_cases : (k : ℕ) → (k < length items) ⊎ (length items ≤ k)
      get_cases k = cases_lt k (length items)

-- of two tests
pub last_either : (f g h : Item → Bool) (items : List Item) (n a b : ℕ) → ((i : Item) → h i ≡ (f i || g i)) → IsLast f items n a → IsLast g items n b → IsLast h items n (max a b)
last_either f g h items n a b or l m = record {
  within = omega (arith, l.within, m.within);
  last = λ k i t e p. elim (or_cases (f i) (g i) (sym (or i) ∙ p)) [
    | inl q ↦ let w = l.last k i t e q in omega (arith, w)
    | inr q ↦ let w = m.last k i t e q in omega (arith, w)
  ];
  passes = λ k i t e. elim (cases_lt a b) [
    | inl q ↦
        let s : b ≡ suc k = omega (arith, t, q) in
        or i ∙ ap (λ c. f i || c) (m.passes k i s e) ∙ or_true (f i)
    | inr q ↦
        let s : a ≡ suc k = omega (arith, t, q) in
        or i ∙ ap (λ c. c || g i) (l.passes k i s e)
  ];
}
  where
    or_true : (c : Bool) → (c || true) ≡ true
    or_true true = refl
    or_true false = refl

-- ---- indexes

eq_turned : (m n : ℕ) → (m == n) ≡ (n == m)
eq_turned m n = at (m == n) refl (n == m) refl
  where
    at : (b : Bool) → (m == n) ≡ b → (c : Bool) → (n == m) ≡ c → (m == n) ≡ (n == m)
    at true e c f = e ∙ sym (eq-eqb n m (sym (eqb-true m n e)))
    at false e false f = e ∙ sym f
    at false e true f = absurd (false≢true (sym e ∙ eq-eqb m n (sym (eqb-true n m f))))

pub place_self : (p : Place) → is_place p p ≡ true
place_self (Cell c) = eq-eqb c c refl
place_self All = refl

pub place_same : (p q : Place) → is_place p q ≡ true → p ≡ q
place_same (Cell c) (Cell d) e = ap Cell (eqb-true c d e)
place_same (Cell c) All e = cc
place_same All (Cell d) e = cc
place_same All All e = refl

-- what names a cell's storage location names the cell or all memory
pub met_by : (new : Item) (c : ℕ) → new.place ≡ Cell c → (old : Item) → is_met new old ≡ (is_of (Cell c) old || is_of All old)
met_by new c e old = ap (λ p. same_place p old.place) e ∙ at old.place
  where
    at : (p : Place) → same_place (Cell c) p ≡ (is_place p (Cell c) || is_place p All)
    at (Cell d) = eq_turned c d ∙ false_or (d == c)
      where
        false_or : (b : Bool) → b ≡ (b || false)
        false_or true = refl
        false_or false = refl
    at All = refl

pub all_met : (new : Item) → new.place ≡ All → (old : Item) → IsTrue (is_met new old)
all_met new e old = ap (λ p. same_place p old.place) e

-- two that name a cell's storage location name each other's
pub met_both : (new : Item) (c : ℕ) → new.place ≡ Cell c → (a b : Item) → IsTrue (is_met new a) → IsTrue (is_met new b) → IsTrue (is_met a b)
met_both new c e a b m n = at a.place b.place (sym (ap (λ p. same_place p a.place) e) ∙ m) (sym (ap (λ p. same_place p b.place) e) ∙ n)
  where
    at : (p q : Place) → same_place (Cell c) p ≡ true → same_place (Cell c) q ≡ true → same_place p q ≡ true
    at (Cell d) (Cell f) s t = eq-eqb d f (sym (eqb-true c d s) ∙ eqb-true c f t)
    at (Cell d) All s t = refl
    at All q s t = refl

-- ---- kinds

-- two of which neither comes after the other are of one kind
pub one_kind : (a b : Kind) → is_before (relation a b) ≡ false → a ≡ b
one_kind In In e = refl
one_kind In Out e = cc
one_kind In Inout e = cc
one_kind In Mutexinoutset e = cc
one_kind In Inoutset e = cc
one_kind Out b e = cc
one_kind Inout b e = cc
one_kind Mutexinoutset In e = cc
one_kind Mutexinoutset Out e = cc
one_kind Mutexinoutset Inout e = cc
one_kind Mutexinoutset Mutexinoutset e = refl
one_kind Mutexinoutset Inoutset e = cc
one_kind Inoutset In e = cc
one_kind Inoutset Out e = cc
one_kind Inoutset Inout e = cc
one_kind Inoutset Mutexinoutset e = cc
one_kind Inoutset Inoutset e = refl

pub kind_turned : (a b : Kind) → is_before (relation a b) ≡ true → is_before (relation b a) ≡ true
kind_turned a b e = at (is_before (relation b a)) refl
  where
    at : (c : Bool) → is_before (relation b a) ≡ c → is_before (relation b a) ≡ true
    at true f = f
    at false f =
        let same = one_kind b a f in
        absurd (false≢true (sym (subst (λ k. is_before (relation k a) ≡ false) same f) ∙ subst (λ k. is_before (relation a k) ≡ true) same e))

-- one that comes after its own kind comes after all
pub behind_all : (a b : Kind) → is_before (relation a a) ≡ true → is_before (relation a b) ≡ true
behind_all a b e = at (is_before (relation a b)) refl
  where
    at : (c : Bool) → is_before (relation a b) ≡ c → is_before (relation a b) ≡ true
    at true f = f
    at false f = absurd (false≢true (sym f ∙ subst (λ k. is_before (relation a k) ≡ true) (one_kind a b f) e))

-- what an index reads
pub read : {A : Type 0} (xs : List A) (k : ℕ) (x : A) → k < length xs → x ≡ get_or xs k x → slice_get xs k ≡ Some x
read xs k x h e = slice_get_read xs (length xs) k x refl h e

-- there is an item at each index
pub there : {A : Type 0} (xs : List A) (k : ℕ) → k < length xs → (x : A) × (slice_get xs k ≡ Some x)
there [] k h = absurd (omega arith)
there (x ∷ xs) zero h = (x, refl)
there (x ∷ xs) (suc k) h = there xs k (omega arith)
