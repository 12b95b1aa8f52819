-- How the ordinals of a deep name fall into blocks. No public clause cites this module.
use Rattle.std.specs.Prelude.{◌≡◌, ◌<◌, ◌≤◌, ℕ, List, [], ◌∷◌, ◌++◌, length, ⊤}

-- the ordinals of the blocks, the block at the root first: those nearest to the task come first
abbrev pub far_numbers : List (List ℕ) → List ℕ
far_numbers [] = []
far_numbers (b ∷ far) = far_numbers far ++ b

abbrev pub AreFull : List (List ℕ) → Type 0
AreFull [] = ⊤
AreFull (b ∷ far) = (length b ≡ 128) × AreFull far

-- the ordinals nearest to the task and the blocks after them, in the one way in which a name falls
-- into these
pub record IsSplit (near : List ℕ) (far : List (List ℕ)) : Type 0 where
  pub short : length near ≤ 128
  pub full : AreFull far
  pub some : 0 < length far → 0 < length near

-- the name of so many ordinals has these nearest to the task, and these blocks
pub record IsDeep (near : List ℕ) (far : List (List ℕ)) (numbers : List ℕ) : Type 0 where
  pub is : near ++ far_numbers far ≡ numbers
  pub deep : 0 < length far
  pub split : IsSplit near far
