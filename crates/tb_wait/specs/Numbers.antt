-- A set of ordinals.
use Rattle.std.specs.Prelude.{◌≡◌, ◌<◌, ◌≤◌, ℕ, Bool, true, false, ◌||◌, ◌==◌, List, [], ◌∷◌, Option, Some, None, if◌then◌else◌, nat_lt, suc, Box}
use Rattle.std.specs.Box.{box_value}

-- the ordinals, and up to which ordinal each has capacity
pub record Numbers : Type 0 where
  pub items : List ℕ
  pub bound : ℕ

abbrev pub has : List ℕ → ℕ → Bool
has [] n = false
has (x ∷ xs) n = (x == n) || has xs n

abbrev pub is_empty : List ℕ → Bool
is_empty [] = true
is_empty (x ∷ xs) = false

-- the ordinals rise from above `low` to at most `high`
abbrev pub Rises : ℕ → List ℕ → ℕ → Type 0
Rises low [] high = low ≤ high
Rises low (x ∷ xs) high = (low < x) × Rises x xs high

-- n is there as given, and every other ordinal as before
abbrev pub IsPut : List ℕ → ℕ → Bool → List ℕ → Type 0
IsPut old n there new = (m : ℕ) → has new m ≡ (if n == m then there else has old m)

-- the least ordinal above `low`, and None exactly where there is none
pub record IsNextAbove (xs : List ℕ) (low : ℕ) (o : Option ℕ) : Type 0 where
  pub found : (n : ℕ) → o ≡ Some n → (low < n) × (has xs n ≡ true)
  pub least : (n : ℕ) → low < n → has xs n ≡ true → (m : ℕ) × (o ≡ Some m) × (m ≤ n)

-- ---- how the ordinals are stored

-- none is below the bound
abbrev pub AreFrom : ℕ → List ℕ → Type 0
AreFrom low xs = (n : ℕ) → n < low → has xs n ≡ false

-- the part that may not be made yet
abbrev pub many_in : {Z : Type 0} → Option (Box Numbers Z) → Numbers
many_in None = record { items = []; bound = 0 }
many_in (Some many) = box_value many

-- ---- how the ordinals are searched

-- how many ordinals in front are below n
abbrev pub below : ℕ → List ℕ → ℕ
below n [] = 0
below n (x ∷ xs) = if nat_lt x n then suc (below n xs) else 0
