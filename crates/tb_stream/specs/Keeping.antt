-- The steps with which a later one may still race, as they are stored.
use Rattle.std.specs.Prelude.{ℕ, suc, ◌≡◌, ◌-◌, ◌==◌, List, [], Bool, Option, Some, None, if◌then◌else◌, length, map, slice_get}
use Rattle.std.specs.Map.{lookup}
use Rattle.tb_steps.specs.Entries.{Entry}
use Rattle.tb_model.specs.Facts.{own}
use Rattle.tb_lanes.specs.Clocks.{Lanes}
use Rattle.tb_lanes.specs.Kept as kept
use Rattle.tb_lanes.specs.Kept.{is_load, slot_of}
use Rattle.tb_stream.specs.declared.access.Access.{Access}
use Rattle.tb_stream.specs.declared.touched.Touched.{Touched}
use Rattle.tb_stream.specs.Seen.{IsMark, IsOf, Run, front, order}

-- the task of the step and its ordinal among the steps of the task
pub record IsAccess (r : Run) (n : ℕ) (lanes : Lanes) (a : Access) : Type 0 where
  pub mark : IsMark n lanes a.mark
  pub task : IsOf r a.mark.at a.mark.task
  pub number : (v : Entry) → slice_get r.entries a.mark.at ≡ Some v → a.k ≡ suc (length (own v.event.task (front r a.mark.at)))

abbrev pub places : List Access → List ℕ
places row = map (λ a. a.mark.at) row

-- one more than where it is, 0 for none
abbrev pub behind : Option Access → ℕ
behind None = 0
behind (Some a) = suc a.mark.at

-- the last of the first, as many as are given
abbrev pub last_in : List Access → ℕ → Option Access
last_in row n = if n == 0 then None else slice_get row (n - 1)

abbrev pub AreAccesses : Run → ℕ → Lanes → List Access → Type 0
AreAccesses r n lanes row = (j : ℕ) (a : Access) → slice_get row j ≡ Some a → IsAccess r n lanes a

-- what is stored of what has this index
pub record AreTouched (r : Run) (n : ℕ) (lanes : Lanes) (i : ℕ) (t : Touched) : Type 0 where
  pub rows : kept.AreRows (order r) r.entries n i (places t.writes.items) (places t.loads.items)
  pub writes : AreAccesses r n lanes t.writes.items
  pub loads : AreAccesses r n lanes t.loads.items

abbrev pub AreTouchedSo : Run → ℕ → Lanes → ℕ → Option Touched → Type 0
AreTouchedSo r n lanes i None = kept.AreRows (order r) r.entries n i [] []
AreTouchedSo r n lanes i (Some t) = AreTouched r n lanes i t

abbrev pub Named : Type 0
Named = List (ℕ × Touched)

abbrev pub touched_of : Named → ℕ → Option Touched
touched_of named i = lookup (λ j. i == j) named

abbrev pub AreKept : Run → ℕ → Lanes → Named → Type 0
AreKept r n lanes named = (i : ℕ) → AreTouchedSo r n lanes i (touched_of named i)

-- the step at n shares what has this index, and loads or doesn't
pub record IsTold (r : Run) (n i : ℕ) (load : Bool) : Type 0 where
  pub slot : (v : Entry) → slice_get r.entries n ≡ Some v → slot_of v.event.action ≡ Some i
  pub loads : (v : Entry) → slice_get r.entries n ≡ Some v → is_load v.event.action ≡ load

-- the newest step with which the one at n races, if it isn't ordered
pub record IsFound (r : Run) (n : ℕ) (lanes : Lanes) (o : Option Access) : Type 0 where
  pub newest : kept.IsNewest (order r) r.entries n (behind o)
  pub access : (a : Access) → o ≡ Some a → IsAccess r n lanes a
