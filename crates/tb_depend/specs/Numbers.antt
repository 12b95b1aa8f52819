-- Lists of siblings' ordinals.
use Rattle.std.specs.Prelude.{ℕ, zero, suc, List, [], ◌∷◌, ◌++◌, Bool, if◌then◌else◌, ⊤, ◌<◌}

-- the ordinals from 1 to k that pass the test, rising
abbrev pub numbers_where : (ℕ → Bool) → ℕ → List ℕ
numbers_where test zero = []
numbers_where test (suc k) = numbers_where test k ++ (if test (suc k) then suc k ∷ [] else [])

-- each is above the one in front of it, and the first is above this one
abbrev pub AreRising : ℕ → List ℕ → Type 0
AreRising low [] = ⊤
AreRising low (n ∷ ns) = (low < n) × AreRising n ns
