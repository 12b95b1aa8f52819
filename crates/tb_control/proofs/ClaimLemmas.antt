-- Claims that are given, ended and withdrawn.
use Rattle.std.proofs.Common.{◌≡◌, ◌<◌, ◌≤◌, ◌+◌, ◌↔◌, ℕ, zero, suc, List, [], ◌∷◌, Bool, true, set, get_or, length, refl, sym, ap, ap₂, ◌∙◌, subst, Option, Some, None, arith}
use Rattle.std.proofs.lemmas.List.{length-map}
use Rattle.tb_model.specs.Names.{Name, same_name}
use Rattle.tb_control.specs.Claims.{Claims, AreFreeFrom, claim_of, unless, withdrawn}
use Rattle.tb_model.proofs.TestLemmas.{same_true, same_refl}

-- ---- a loop that changes each element of a list

-- the first elements are changed, the others not yet
abbrev pub changed_to : {A : Type 0} → (A → A) → ℕ → List A → List A
changed_to f zero xs = xs
changed_to f (suc i) [] = []
changed_to f (suc i) (x ∷ xs) = f x ∷ changed_to f i xs

pub changed_next : {A : Type 0} (f : A → A) (d : A) (i : ℕ) (xs : List A) → i < length xs → set (changed_to f i xs) i (f (get_or (changed_to f i xs) i d)) ≡ changed_to f (suc i) xs
changed_next f d i [] h = absurd (omega (arith, h))
changed_next f d zero (x ∷ xs) h = refl
changed_next f d (suc i) (x ∷ xs) h = ap (λ ys. f x ∷ ys) (changed_next f d i xs (omega (arith, h)))

-- ---- whose claim it is

pub is_claimed : (claimed task : Name) (row : Option Name) (b : Bool) → row ≡ Some claimed → b ≡ same_name claimed task → (b ≡ true) ↔ (row ≡ Some task)
is_claimed claimed task row b r e = (
  λ h. r ∙ ap Some (same_true claimed task (sym e ∙ h)),
  λ h. let same : claimed ≡ task = (let s = sym r ∙ h in cc) in e ∙ ap (λ u. same_name claimed u) (sym same) ∙ same_refl claimed,
)

-- the loop changed one more
pub next_changed : {A : Type 0} (f : A → A) (xs ys : List A) (i end : ℕ) (now new : A) → ys ≡ changed_to f i xs → i < end → end ≤ length xs → now ≡ get_or ys i now → new ≡ f now → set ys i new ≡ changed_to f (i + 1) xs
next_changed f xs ys i end now new so within bound value e =
    let inside : i < length xs = omega (arith, within, bound) in
    let at : i + 1 ≡ suc i = omega arith in
    ap (λ zs. set zs i new) so
    ∙ ap (set (changed_to f i xs) i) (e ∙ ap f value ∙ ap (λ vs. f (get_or vs i now)) so)
    ∙ changed_next f now i xs inside
    ∙ ap (λ k. changed_to f k xs) (sym at)

-- no claim is withdrawn where there is none
idle_row : (p : Name → Bool) (o : Option Name) → o ≡ None → o ≡ unless p o
idle_row p o e = e ∙ sym (ap (unless p) e)

idle_rows : (p : Name → Bool) (claims : Claims) → AreFreeFrom 0 claims → claims ≡ withdrawn p claims
idle_rows p [] free = refl
idle_rows p (o ∷ claims) free =
    ap₂ (λ x xs. x ∷ xs) (idle_row p o (free 0 (omega arith))) (idle_rows p claims (λ seat h. free (suc seat) (omega arith)))

changed_free : (p : Name → Bool) (end : ℕ) (claims : Claims) → AreFreeFrom end claims → changed_to (unless p) end claims ≡ withdrawn p claims
changed_free p zero claims free = idle_rows p claims free
changed_free p (suc end) [] free = refl
changed_free p (suc end) (o ∷ claims) free = ap (λ xs. unless p o ∷ xs) (changed_free p end claims (λ seat h. free (suc seat) (omega (arith, h))))

-- the loop is through all that may hold a claim
pub all_withdrawn : (p : Name → Bool) (claims now : Claims) (i end : ℕ) → now ≡ changed_to (unless p) i claims → i ≡ end → AreFreeFrom end claims → now ≡ withdrawn p claims
all_withdrawn p claims now i end so through free = so ∙ ap (λ k. changed_to (unless p) k claims) through ∙ changed_free p end claims free

-- ---- who is free stays so

pub free_withdrawn : (p : Name → Bool) (end : ℕ) (claims : Claims) → AreFreeFrom end claims → AreFreeFrom end (withdrawn p claims)
free_withdrawn p end claims free seat h = at claims seat (free seat h)
  where
    at : (claims : Claims) (seat : ℕ) → claim_of claims seat ≡ None → claim_of (withdrawn p claims) seat ≡ None
    at [] seat e = refl
    at (o ∷ claims) zero e = ap (unless p) e
    at (o ∷ claims) (suc seat) e = at claims seat e

-- what the claims are bound to stays so where some are withdrawn
pub fits_withdrawn : (p : Name → Bool) (end : ℕ) (claims now : Claims) → now ≡ withdrawn p claims
    → (length claims ≤ 65) × (end ≤ length claims) × AreFreeFrom end claims → (length now ≤ 65) × (end ≤ length now) × AreFreeFrom end now
fits_withdrawn p end claims now e h =
    let same : length now ≡ length claims = ap length e ∙ length-map claims (unless p) in (
      omega (arith, same, h.0),
      omega (arith, same, h.1),
      subst (AreFreeFrom end) (sym e) (free_withdrawn p end claims h.2),
    )
