-- The ends of an order, as they are stored.
use Rattle.std.specs.Prelude.{ℕ, ◌≡◌, ◌⊎◌, ◌<◌, ◌≤◌, List, Option, Some, None, Vec, length, map, slice_get}
use Rattle.std.specs.Map.{lookup}
use Rattle.std.specs.declared.alloc.Global.{Global}
use Rattle.tb_clocks.specs.Known.{parent_of}
use Rattle.tb_steps.specs.Entries.{Entry}
use Rattle.tb_lanes.specs.declared.ends.Ends.{Ends}
use Rattle.tb_lanes.specs.declared.lane_bound.LaneBound.{LaneBound}
use Rattle.tb_lanes.specs.Clocks.{AreRow, IsEnd, Lanes, end_at}
use Rattle.tb_lanes.specs.Rows.{HasKey, Key, items_at, same_key}
use Rattle.tb_stream.specs.declared.end.End.{End}
use Rattle.tb_stream.specs.Seen.{IsFull, IsId, Run, order}
use mathlib.Core.Path.{sym, ◌∙◌}
use lib.ListN.{length-map}

-- the vector of what represents each element
abbrev pub mapped : {A B : Type 0} → (A → B) → Vec A Global → Vec B Global
mapped f v = record { ptr = v.ptr; len = v.len; cap = v.cap; alloc = v.alloc; items = map f v.items; ok = (v.ok.0 ∙ sym (length-map v.items f), v.ok.1); small = v.small }

-- where they are, and what is skipped from each
abbrev pub ends_of : Vec End Global → Ends
ends_of v = record { places = mapped (λ e. e.mark.at) v; skips = mapped (λ e. e.skip) v }

-- these are the ends that are meant
pub record AreStored (r : Run) (n : ℕ) (lanes : Lanes) (rows : List (Vec LaneBound Global)) (P : ℕ → Type 0) (ends : Vec End Global) : Type 0 where
  pub are : AreRow (order r) r.entries P (ends_of ends)
  pub full : (i : ℕ) (e : End) → slice_get ends.items i ≡ Some e → IsFull r n lanes rows e.mark

-- x is one of the ends from this index on
abbrev pub IsLater : Vec End Global → (ℕ → Type 0) → ℕ → ℕ → Type 0
IsLater ends P left x = P x × ((i : ℕ) × (left ≤ i) × (i < length ends.items) × (end_at (ends_of ends) i ≡ x))

-- ---- rows of ends

-- the task of the step at x is a child of that with this id; the root counts as its own
abbrev pub IsChild : Run → ℕ → ℕ → Type 0
IsChild r g x = (v : Entry) → slice_get r.entries x ≡ Some v → IsId r g (parent_of v.event.task)

-- x is an end among the first n steps, and one of the row of this key
abbrev pub IsNoted : Run → ℕ → Key → ℕ → Type 0
IsNoted r n k x = IsEnd r.entries n x × ((g : ℕ) × IsChild r g x × HasKey g (items_at r.entries x) (length (items_at r.entries x)) k)

-- the ends of the row of this key, or all
abbrev pub IsOfRow : Run → ℕ → Option Key → ℕ → Type 0
IsOfRow r n None = IsEnd r.entries n
IsOfRow r n (Some k) = IsNoted r n k

-- so far those in front, and the one at n in the rows of the children of its parent, which has the first id, and of its first items
abbrev pub SoFar : Run → ℕ → ℕ → ℕ → Key → ℕ → Type 0
SoFar r n g count k x = IsNoted r n k x ⊎ ((x ≡ n) × HasKey g (items_at r.entries n) count k)

abbrev pub AtStage : Run → ℕ → Option (ℕ × ℕ) → Key → ℕ → Type 0
AtStage r n None = IsNoted r n
AtStage r n (Some s) = SoFar r n s.0 s.1

-- the ends of the row of this key so far, or all
abbrev pub IsMeant : Run → ℕ → Option (Option (ℕ × ℕ) × Key) → ℕ → Type 0
IsMeant r n None = IsEnd r.entries n
IsMeant r n (Some m) = AtStage r n m.0 m.1

-- x too is one of the row of this key
abbrev pub WithOne : (Key → ℕ → Type 0) → Key → ℕ → Key → ℕ → Type 0
WithOne P to x k y = P k y ⊎ ((y ≡ x) × (k ≡ to))

abbrev pub Named : Type 0
Named = List (Key × Vec End Global)

abbrev pub row_of : Named → Key → Option (Vec End Global)
row_of rows k = lookup (same_key k) rows

-- the row is the one with these ends; where there is none, there are none
abbrev pub IsRowOf : Run → ℕ → Lanes → List (Vec LaneBound Global) → (ℕ → Type 0) → Option (Vec End Global) → Type 0
IsRowOf r n lanes rows P None = (x : ℕ) → P x → ⊥
IsRowOf r n lanes rows P (Some ends) = AreStored r n lanes rows P ends

abbrev pub AreRows : Run → ℕ → Lanes → List (Vec LaneBound Global) → (Key → ℕ → Type 0) → Named → Type 0
AreRows r n lanes rows P named = (k : Key) → IsRowOf r n lanes rows (P k) (row_of named k)
