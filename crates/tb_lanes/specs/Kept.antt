-- The steps at each cell and at the output with which a later step may still race.
use Rattle.std.specs.Prelude.{ℕ, suc, ◌≡◌, ◌⊎◌, ◌<◌, ◌≤◌, ◌-◌, List, Bool, true, false, ◌==◌, Option, Some, None, if◌then◌else◌, is_some, length, slice_get, slice_index_or, IsTrue}
use Rattle.tb_model.specs.declared.action.Action.{Action}
use Rattle.tb_model.specs.declared.action.Action.TheVariants.{Load, Store, Print}
use Rattle.tb_steps.specs.Entries.{Entry}
use Rattle.tb_races.specs.Kinds.{shared}
use Rattle.tb_races.specs.Orders.{Order}
use Rattle.tb_lanes.specs.declared.kept.Kept.{Kept}
use Rattle.tb_lanes.specs.Clocks.{kept_in, reaches}

-- what the action shares with others: the output has index 0, and each cell the next after its own
abbrev pub slot_of : Action → Option ℕ
slot_of (Load r c x) = Some (suc c)
slot_of (Store c x) = Some (suc c)
slot_of (Print x) = Some 0
slot_of _ = None

abbrev pub is_in : ℕ → Action → Bool
is_in i (Load r c x) = i == suc c
is_in i (Store c x) = i == suc c
is_in i (Print x) = i == 0
is_in i _ = false

abbrev pub is_load : Action → Bool
is_load (Load r c x) = true
is_load _ = false

-- ---- by indexes

abbrev pub in_so : ℕ → Option Entry → Bool
in_so i None = false
in_so i (Some u) = is_in i u.event.action

-- the step at the index shares with others what has this index
abbrev pub is_in_at : List Entry → ℕ → ℕ → Bool
is_in_at entries i x = in_so i (slice_get entries x)

abbrev pub loads_so : Option Entry → Bool
loads_so None = false
loads_so (Some u) = is_load u.event.action

-- the step at the index loads
abbrev pub loads_at : List Entry → ℕ → Bool
loads_at entries x = loads_so (slice_get entries x)

abbrev pub shares_so : Option Entry → Option Entry → Bool
shares_so None u = false
shares_so (Some v) None = false
shares_so (Some v) (Some u) = is_some (shared v.event.action u.event.action)

-- the two share a cell to which one stores, or the output
abbrev pub shares_at : List Entry → ℕ → ℕ → Bool
shares_at entries p x = shares_so (slice_get entries p) (slice_get entries x)

-- n is one more than the index of the newest step with which the step at p shares something and
-- that doesn't come before it, or 0
pub record IsNewest (o : Order) (entries : List Entry) (p n : ℕ) : Type 0 where
  pub within : n ≤ p
  pub unordered : 0 < n → reaches o entries p (n - 1) ≡ false
  pub shares : 0 < n → IsTrue (shares_at entries p (n - 1))
  pub newest : (x : ℕ) → n ≤ x → x < p → IsTrue (shares_at entries p x) → IsTrue (reaches o entries p x)

-- one more than the index, 0 for none
abbrev pub behind : Option ℕ → ℕ
behind None = 0
behind (Some p) = suc p

-- the last is the larger of the two
abbrev pub IsLarger : ℕ → ℕ → ℕ → Type 0
IsLarger a b m = ((m ≡ a) × (b ≤ a)) ⊎ ((m ≡ b) × (a ≤ b))

-- ---- what is stored

-- one more than the last of the first indexes
abbrev pub newest_of : List ℕ → ℕ → ℕ
newest_of row count = if count == 0 then 0 else suc (slice_index_or row (count - 1) 0)

-- the row has some of the first n steps that share this, loads or others, the oldest first
pub record IsRow (entries : List Entry) (n i : ℕ) (loads : Bool) (row : List ℕ) : Type 0 where
  pub low : (j : ℕ) → j < length row → slice_index_or row j 0 < n
  pub sharing : (j : ℕ) → j < length row → IsTrue (is_in_at entries i (slice_index_or row j 0))
  pub loading : (j : ℕ) → j < length row → loads_at entries (slice_index_or row j 0) ≡ loads
  pub rising : (j k : ℕ) → j < k → k < length row → slice_index_or row j 0 < slice_index_or row k 0

-- so many indexes of the row are left where what comes before the step at p is taken off its end
pub record IsCut (o : Order) (entries : List Entry) (p : ℕ) (row : List ℕ) (count : ℕ) : Type 0 where
  pub few : count ≤ length row
  pub last : 0 < count → reaches o entries p (slice_index_or row (count - 1) 0) ≡ false
  pub passed : (j : ℕ) → count ≤ j → j < length row → IsTrue (reaches o entries p (slice_index_or row j 0))

-- the row has the step at x, or a newer one that comes after it
abbrev pub IsCovered : Order → List Entry → ℕ → List ℕ → Type 0
IsCovered o entries x row = (j : ℕ) × (j < length row) × (x ≤ slice_index_or row j 0) × IsTrue (reaches o entries (slice_index_or row j 0) x)

-- of the first n steps that share this the rows have all with which a later step may race: one that they don't have comes before
-- a newer one that they have, so who races with it races with that as well
pub record AreRows (o : Order) (entries : List Entry) (n i : ℕ) (writes loads : List ℕ) : Type 0 where
  pub writes_in : IsRow entries n i false writes
  pub loads_in : IsRow entries n i true loads
  pub writes_left : (x : ℕ) → x < n → IsTrue (is_in_at entries i x) → loads_at entries x ≡ false → IsCovered o entries x writes
  pub loads_left : (x : ℕ) → x < n → IsTrue (is_in_at entries i x) → loads_at entries x ≡ true → IsCovered o entries x writes ⊎ IsCovered o entries x loads

-- for all that is shared the rows have all with which a later step may race
abbrev pub AreKept : Order → List Entry → ℕ → Kept → Type 0
AreKept o entries n kept = (i : ℕ) → AreRows o entries n i (kept_in kept.writes.items i) (kept_in kept.loads.items i)
