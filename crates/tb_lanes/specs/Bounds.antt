-- How far a row reaches in each lane.
use Rattle.std.specs.Prelude.{ℕ, ◌≡◌, ◌<◌, ◌==◌, List, [], ◌∷◌, Vec, All, length, max, get_or, if◌then◌else◌}
use Rattle.std.specs.declared.alloc.Global.{Global}
use Rattle.tb_lanes.specs.declared.lane_bound.LaneBound.{LaneBound}

-- how far the pair reaches in the lane with this index
abbrev pub bound_by : LaneBound → ℕ → ℕ
bound_by x k = if x.lane == k then x.to else 0

-- how far the row does
abbrev pub bound_in : List LaneBound → ℕ → ℕ
bound_in [] k = 0
bound_in (x ∷ row) k = max (bound_by x k) (bound_in row k)

-- the lanes rise
abbrev pub IsRising : List LaneBound → Type 0
IsRising row = (i j : ℕ) (x y : LaneBound) → i < j → j < length row → x ≡ get_or row i x → y ≡ get_or row j y → x.lane < y.lane

-- each lane of the row is in front of this one
abbrev pub IsUnder : List LaneBound → ℕ → Type 0
IsUnder row k = (i : ℕ) (x : LaneBound) → i < length row → x ≡ get_or row i x → x.lane < k

-- how far some of the rows does
abbrev pub bound_among : List (Vec LaneBound Global) → ℕ → ℕ
bound_among [] k = 0
bound_among (v ∷ rows) k = max (bound_in v.items k) (bound_among rows k)

abbrev pub AreRising : List (Vec LaneBound Global) → Type 0
AreRising rows = All (λ v. IsRising v.items) rows
