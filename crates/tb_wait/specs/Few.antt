-- The ordinals that a word of 64 bits holds.
use Rattle.std.specs.Prelude.{◌==◌, ◌++◌, ℕ, zero, suc, List, [], ◌∷◌, if◌then◌else◌}
use Rattle.std.specs.Int.{bit_at}

-- the ordinals below a bound whose bits are set
unfoldable pub held_below : ℕ → ℕ → List ℕ
held_below word zero = []
held_below word (suc k) = (if bit_at word k == 1 then k ∷ [] else []) ++ held_below word k

-- all that the word holds
unfoldable pub held : ℕ → List ℕ
held word = held_below word 64
