-- Tests, and what is in a list.
use Rattle.std.proofs.Common.{◌≡◌, ◌==◌, ◌<◌, ◌≢◌, ℕ, zero, suc, List, [], ◌∷◌, Bool, false, ◌||◌, length, ap, arith, ne_eqb, get_or}

-- ---- tests

pub zero_eqb : (n : ℕ) → n ≢ 0 → (n == 0) ≡ false
zero_eqb n h = ne_eqb n 0 h

pub or_if : (a b : Bool) → a ≡ false → (a || b) ≡ b
or_if a b h = ap (λ c. c || b) h

-- what is within a list, whatever is said for what is after it
pub within_any : (xs : List ℕ) (i d x : ℕ) → i < length xs → x ≡ get_or xs i x → x ≡ get_or xs i d
within_any [] i d x l h = absurd (omega (arith, l))
within_any (y ∷ xs) zero d x l h = h
within_any (y ∷ xs) (suc i) d x l h = within_any xs i d x (omega (arith, l)) h
