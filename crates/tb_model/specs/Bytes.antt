-- Small ordinals, a byte each, in an array of fourteen. No public clause cites this module.
use Rattle.std.specs.Prelude.{◌≡◌, ◌<◌, ◌≤◌, ℕ, List, [], ◌∷◌, drop}

abbrev pub no_bytes : List ℕ
no_bytes = 0 ∷ 0 ∷ 0 ∷ 0 ∷ 0 ∷ 0 ∷ 0 ∷ 0 ∷ 0 ∷ 0 ∷ 0 ∷ 0 ∷ 0 ∷ 0 ∷ []

-- so many of the bytes are ordinals, and the others are zero
pub record IsFilled (count : ℕ) (bytes : List ℕ) : Type 0 where
  pub some : 3 < count
  pub few : count ≤ 14
  pub zeros : drop count bytes ≡ drop count no_bytes
