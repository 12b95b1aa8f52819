-- How far rows reach in a lane.
use Rattle.std.proofs.Common.{◌≡◌, ◌≢◌, ◌<◌, ◌≤◌, ◌+◌, ℕ, zero, suc, List, [], ◌∷◌, ◌++◌, Bool, true, false, ◌||◌, Vec, Global, Some, length, take, max, get_or, nat_lt, lt-ltb, ltb-true, cond, refl, sym, ap, ap₂, ◌∙◌, subst, arith, ◌⊎◌, inl, inr, eq-eqb, ne_eqb}
use Rattle.std.proofs.lemmas.Bool.{cases_eq, false_from_ne_true}
use Rattle.std.proofs.lemmas.List.{length-append, get_or_append_left, take_more}
use Rattle.std.proofs.lemmas.List.Elements.{All-pop, All-push}
use Rattle.std.proofs.Math.Seq.{get_or-append_seam}
use Rattle.tb_lanes.specs.declared.lane_bound.LaneBound.{LaneBound}
use Rattle.tb_lanes.specs.Bounds.{AreRising, IsRising, IsUnder, bound_by, bound_in, bound_among}

-- ---- the further of two

pub max_zero : (a : ℕ) → max a 0 ≡ a
max_zero a = omega arith

pub max_assoc : (a b c : ℕ) → max (max a b) c ≡ max a (max b c)
max_assoc a b c = omega arith

-- a step that is in front of the further is in front of one of them
pub under_max : (q a b : ℕ) → nat_lt q (max a b) ≡ (nat_lt q a || nat_lt q b)
under_max q a b = by (nat_lt q a) (nat_lt q b) refl refl
  where
    by : (x y : Bool) → nat_lt q a ≡ x → nat_lt q b ≡ y → nat_lt q (max a b) ≡ (x || y)
    by true y e f = lt-ltb q (max a b) (omega (arith, ltb-true q a e))
    by false true e f = lt-ltb q (max a b) (omega (arith, ltb-true q b f))
    by false false e f = false_from_ne_true (nat_lt q (max a b)) (λ h. grind (arith, ltb-true, lt-ltb, e, f, h))

-- ---- one pair more

pub bound_push : (row : List LaneBound) (x : LaneBound) (k : ℕ) → bound_in (row ++ x ∷ []) k ≡ max (bound_in row k) (bound_by x k)
bound_push [] x k = omega arith
bound_push (y ∷ row) x k = ap (max (bound_by y k)) (bound_push row x k) ∙ sym (max_assoc (bound_by y k) (bound_in row k) (bound_by x k))

pub among_push : (rows : List (Vec LaneBound Global)) (v : Vec LaneBound Global) (k : ℕ) → bound_among (rows ++ v ∷ []) k ≡ max (bound_among rows k) (bound_in v.items k)
among_push [] v k = omega arith
among_push (w ∷ rows) v k = ap (max (bound_in w.items k)) (among_push rows v k) ∙ sym (max_assoc (bound_in w.items k) (bound_among rows k) (bound_in v.items k))

-- ---- sought

pub bound_none : (row : List LaneBound) (k : ℕ) → ((i : ℕ) (x : LaneBound) → i < length row → x ≡ get_or row i x → x.lane ≢ k) → bound_in row k ≡ 0
bound_none [] k none = refl
bound_none (y ∷ row) k none =
    ap₂ max (ap (λ b. cond b y.to 0) (ne_eqb y.lane k (none 0 y (omega arith) refl))) (bound_none row k (λ i x l e. none (suc i) x (omega (arith, l)) e))
    ∙ max_zero 0

rising_rest : (y : LaneBound) (row : List LaneBound) → IsRising (y ∷ row) → IsRising row
rising_rest y row up i j x z l m e f = up (suc i) (suc j) x z (omega (arith, l)) (omega (arith, m)) e f

pub bound_found : (row : List LaneBound) (i : ℕ) (x : LaneBound) → IsRising row → i < length row → x ≡ get_or row i x → bound_in row x.lane ≡ x.to
bound_found [] i x up l e = absurd (omega (arith, l))
bound_found (y ∷ row) zero x up l e =
    ap₂ max (ap (λ b. cond b y.to 0) (eq-eqb y.lane x.lane (ap (λ (z : LaneBound). z.lane) (sym e))) ∙ ap (λ (z : LaneBound). z.to) (sym e))
    (bound_none row x.lane (λ j z m f s. let u = up 0 (suc j) y z (omega arith) (omega (arith, m)) refl f in omega (arith, u, s, ap (λ (z : LaneBound). z.lane) e)))
    ∙ max_zero x.to
bound_found (y ∷ row) (suc i) x up l e =
    ap₂ max (ap (λ b. cond b y.to 0) (ne_eqb y.lane x.lane (λ s. let u = up 0 (suc i) y x (omega arith) (omega (arith, l)) refl e in omega (arith, u, s)))) (bound_found row i x (rising_rest y row up) (omega (arith, l)) e)
    ∙ omega arith

-- ---- one pair more in a row that rises

-- what is in a row with one pair more
more_cases : (row : List LaneBound) (x : LaneBound) (i : ℕ) (y : LaneBound) → i < length (row ++ x ∷ []) → y ≡ get_or (row ++ x ∷ []) i y → ((i < length row) × (y ≡ get_or row i y)) ⊎ ((i ≡ length row) × (y ≡ x))
more_cases row x i y l e = by (cases_eq i (length row))
  where
    by : (i ≡ length row) ⊎ (i ≢ length row) → ((i < length row) × (y ≡ get_or row i y)) ⊎ ((i ≡ length row) × (y ≡ x))
    by (inl s) = inr (s, e ∙ ap (λ n. get_or (row ++ x ∷ []) n y) s ∙ get_or-append_seam row x [] y)
    by (inr d) = let m : i < length row = omega (arith, l, d, length-append row (x ∷ [])) in inl (m, e ∙ get_or_append_left row (x ∷ []) y i m)

pub under_push : (row : List LaneBound) (x : LaneBound) (k : ℕ) → IsUnder row k → x.lane < k → IsUnder (row ++ x ∷ []) k
under_push row x k low l i y m e = by (more_cases row x i y m e)
  where
    by : ((i < length row) × (y ≡ get_or row i y)) ⊎ ((i ≡ length row) × (y ≡ x)) → y.lane < k
    by (inl a) = low i y a.0 a.1
    by (inr a) = omega (arith, l, ap (λ (z : LaneBound). z.lane) a.1)

pub rising_push : (row : List LaneBound) (x : LaneBound) → IsRising row → IsUnder row x.lane → IsRising (row ++ x ∷ [])
rising_push row x up low i j y z l m e f = by (more_cases row x i y (omega (arith, l, m)) e) (more_cases row x j z m f)
  where
    by : ((i < length row) × (y ≡ get_or row i y)) ⊎ ((i ≡ length row) × (y ≡ x)) → ((j < length row) × (z ≡ get_or row j z)) ⊎ ((j ≡ length row) × (z ≡ x)) → y.lane < z.lane
    by (inl a) (inl b) = up i j y z l b.0 a.1 b.1
    by (inl a) (inr b) = omega (arith, low i y a.0 a.1, ap (λ (w : LaneBound). w.lane) b.1)
    by (inr a) (inl b) = absurd (omega (arith, l, m, a.0, b.0))
    by (inr a) (inr b) = absurd (omega (arith, l, a.0, b.0))

pub under_on : (row : List LaneBound) (k m : ℕ) → IsUnder row k → k ≤ m → IsUnder row m
under_on row k m low l i x h e = omega (arith, low i x h e, l)

-- ---- the part so far, one pair more

pub part_more : (row : List LaneBound) (i : ℕ) (x : LaneBound) (k : ℕ) → i < length row → x ≡ get_or row i x → bound_in (take (i + 1) row) k ≡ max (bound_in (take i row) k) (bound_by x k)
part_more row i x k l e = ap (λ r. bound_in r k) (take_more row i x l ∙ ap (λ y. take i row ++ y ∷ []) (sym e)) ∙ bound_push (take i row) x k

pub among_more : (rows : List (Vec LaneBound Global)) (i : ℕ) (v : Vec LaneBound Global) (k : ℕ) → i < length rows → v ≡ get_or rows i v → bound_among (take (i + 1) rows) k ≡ max (bound_among (take i rows) k) (bound_in v.items k)
among_more rows i v k l e = ap (λ r. bound_among r k) (take_more rows i v l ∙ ap (λ y. take i rows ++ y ∷ []) (sym e)) ∙ among_push (take i rows) v k

-- ---- what a push makes of a row

module _ (row new : List LaneBound) (x : LaneBound) (e : new ≡ row ++ x ∷ []) where
  pub pushed_bound : (k : ℕ) → bound_in new k ≡ max (bound_in row k) (bound_by x k)
  pushed_bound k = ap (λ r. bound_in r k) e ∙ bound_push row x k

  pub pushed_rising : IsRising row → IsUnder row x.lane → IsRising new
  pushed_rising up low = subst IsRising (sym e) (rising_push row x up low)

  pub pushed_under : (k : ℕ) → IsUnder row x.lane → x.lane < k → IsUnder new k
  pushed_under k low l = subst (λ r. IsUnder r k) (sym e) (under_push row x k (under_on row x.lane k low (omega (arith, l))) l)

-- ---- one row more, one row less

module _ (rows rest : List (Vec LaneBound Global)) (v : Vec LaneBound Global) (e : rows ≡ rest ++ v ∷ []) where
  pub split_bound : (k : ℕ) → bound_among rows k ≡ max (bound_among rest k) (bound_in v.items k)
  split_bound k = ap (λ r. bound_among r k) e ∙ among_push rest v k

  pub split_rising : AreRising rows → AreRising rest × IsRising v.items
  split_rising up = All-pop (λ (w : Vec LaneBound Global). IsRising w.items) rows rest (Some v) e up

  pub joined_rising : AreRising rest → IsRising v.items → AreRising rows
  joined_rising up last = subst AreRising (sym e) (All-push (λ (w : Vec LaneBound Global). IsRising w.items) rest v up last)

-- ---- the first row

pub none_rising : (rows : List (Vec LaneBound Global)) → rows ≡ [] → AreRising rows
none_rising rows e k d l = absurd (omega (arith, l, ap length e))

pub first_bound : (rows : List (Vec LaneBound Global)) → rows ≡ [] → (k n b : ℕ) → n ≡ max (bound_among rows k) b → n ≡ b
first_bound rows e k n b h = omega (arith, h, ap (λ r. bound_among r k) e)

-- what rows say together
pub says_both : (q n a b : ℕ) → n ≡ max a b → nat_lt q n ≡ (nat_lt q a || nat_lt q b)
says_both q n a b e = ap (nat_lt q) e ∙ under_max q a b
