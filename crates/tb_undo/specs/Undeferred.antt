-- At which of its steps a task generated an undeferred child.
use Rattle.std.specs.Prelude.{ℕ, ◌-◌, ◌==◌, Bool, false, List, [], ◌∷◌, Option, Some, None, Box, Vec, reverse, vec_len, vec_capacity}
use Rattle.std.specs.Box.{box_value}

-- the steps, the newest first, and for how many more there is capacity
pub record Undeferred : Type 0 where
  pub steps : List ℕ
  pub room : ℕ

-- the ordinal comes first
abbrev pub is_first : ℕ → List ℕ → Bool
is_first n [] = false
is_first n (m ∷ ms) = m == n

-- where they are there, if any was ever noted
abbrev pub undeferred_in : {S Z : Type 0} → Option (Box (Vec ℕ S) Z) → Undeferred
undeferred_in None = record { steps = []; room = 0 }
undeferred_in (Some steps) = record { steps = reverse (box_value steps).items; room = vec_capacity (box_value steps) - vec_len (box_value steps) }
