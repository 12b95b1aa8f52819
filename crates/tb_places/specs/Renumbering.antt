-- What stays of events, or of what represents them, where those at some indexes go, and how indexes
-- change.
use Rattle.std.specs.Prelude.{◌≤◌, ◌+◌, ◌-◌, ◌==◌, ℕ, suc, List, [], ◌∷◌, Bool, false, ltb, drop, if◌then◌else◌, ⊤}
use Rattle.std.specs.List.{prefix_len}

-- each of these is above the one in front of it, and the first isn't below this one
abbrev pub RiseFrom : ℕ → List ℕ → Type 0
RiseFrom low [] = ⊤
RiseFrom low (n ∷ ns) = (low ≤ n) × RiseFrom (suc n) ns

-- the next to go is the one at this index
abbrev pub goes_at : ℕ → List ℕ → Bool
goes_at at [] = false
goes_at at (n ∷ ns) = n == at

-- what stays of these from this index on, where those at these indexes go, which rise
abbrev pub left_from : {X : Type 0} → ℕ → List ℕ → List X → List X
left_from at going [] = []
left_from at going (x ∷ xs) = if goes_at at going then left_from (at + 1) (drop 1 going) xs else x ∷ left_from (at + 1) going xs

-- ---- some indexes of these

-- how many of those that go, which rise, are in front of the index
abbrev pub below : List ℕ → ℕ → ℕ
below going place = prefix_len (λ g. ltb g place) going

-- the indexes that stay, each lower by as many as go in front of it
abbrev pub lowered : List ℕ → List ℕ → List ℕ
lowered going [] = []
lowered going (n ∷ ns) = if goes_at n (drop (below going n) going) then lowered going ns else (n - below going n) ∷ lowered going ns
