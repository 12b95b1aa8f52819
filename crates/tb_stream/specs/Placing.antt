-- How a step is put into an order.
use Rattle.std.specs.Prelude.{ℕ, suc, ◌+◌, ◌≡◌, ◌==◌, ◌≤◌, List, [], ◌∷◌, ◌++◌, Option, Some, None, Vec, IsTrue, if◌then◌else◌, length, nat_lt, slice_set}
use Rattle.std.specs.declared.alloc.Global.{Global}
use Rattle.tb_lanes.specs.declared.lane_bound.LaneBound.{LaneBound}
use Rattle.tb_lanes.specs.Bounds.{IsRising, bound_among, bound_in}
use Rattle.tb_lanes.specs.Clocks.{IsClock, IsEnd, IsLane, IsLow, IsSound, Lanes, TellsEnds, is_end_at, is_told, row_in}
use Rattle.tb_stream.specs.declared.joined.Joined.{Joined}
use Rattle.tb_stream.specs.declared.mark.Mark.{Mark}
use Rattle.tb_stream.specs.declared.order.Order.{Order}
use Rattle.tb_stream.specs.Ends.{AreRows, AreStored, IsNoted}
use Rattle.tb_stream.specs.Joins.{AreJoined, IsOrder}
use Rattle.tb_stream.specs.Seen.{Extends, IsAdded, IsMark, IsNext, Run, order}

-- how far each lane is in front, by the row of the step
abbrev pub row_of : List (Vec LaneBound Global) → Mark → ℕ → ℕ
row_of rows m = bound_in (row_in rows m.row)

-- the next step with the row and the lane with which it begins
pub record IsBegun (r : Run) (n : ℕ) (lanes : Lanes) (rows : List (Vec LaneBound Global)) (m : Mark) : Type 0 where
  pub next : IsNext r n m
  pub within : m.row ≤ length rows
  pub rising : IsRising (row_in rows m.row)
  pub sound : IsSound (order r) r.entries r.tasks lanes (row_of rows m) m.lane n
  pub lane : IsLane r.entries lanes m.lane n

-- with its own row, which says what is in front of it, and its own lane
pub record IsPlaced (r : Run) (n : ℕ) (lanes : Lanes) (rows : List (Vec LaneBound Global)) (m : Mark) : Type 0 where
  pub next : IsNext r n m
  pub within : m.row ≤ length rows
  pub rising : IsRising (row_in rows m.row)
  pub clock : IsClock (order r) r.entries r.tasks lanes (row_of rows m) m.lane n
  pub low : IsLow (row_of rows m) n
  pub lane : IsLane r.entries lanes m.lane n

-- the row with which the step begins has each end to which it is linked
abbrev pub IsComplete : Run → ℕ → Lanes → List (Vec LaneBound Global) → Mark → Type 0
IsComplete r n lanes rows m = TellsEnds (order r) r.entries r.tasks lanes (row_of rows m) m.lane n

-- all ends to which the step is linked were joined
pub record IsWaited (r : Run) (n : ℕ) (lanes : Lanes) (rows : List (Vec LaneBound Global)) (m : Mark) (j : Joined) : Type 0 where
  pub are : AreJoined r n lanes rows m.lane j
  pub ends : TellsEnds (order r) r.entries r.tasks lanes (bound_among j.rows.items) m.lane n
  pub same : j.end ≡ None → bound_among j.rows.items ≡ row_of rows m

-- the end is listed by the row that was made
pub record IsGoing (r : Run) (n : ℕ) (lanes : Lanes) (rows : List (Vec LaneBound Global)) (m end : Mark) (row : Vec LaneBound Global) : Type 0 where
  pub begun : IsBegun r n lanes rows m
  pub mark : IsMark n lanes end
  pub over : IsTrue (is_end_at r.entries end.at)
  pub told : IsTrue (is_told (order r) r.entries r.tasks lanes (bound_in row.items) m.lane n end.at)
  pub rising : IsRising row.items
  pub sound : IsSound (order r) r.entries r.tasks lanes (bound_in row.items) m.lane n
  pub ends : TellsEnds (order r) r.entries r.tasks lanes (bound_in row.items) m.lane n

-- ---- one step more

-- the newest steps of the lanes, with this one
abbrev pub lasts_with : Mark → List ℕ → List ℕ
lasts_with m lasts = if nat_lt m.lane (length lasts) then slice_set lasts m.lane m.at else lasts ++ m.at ∷ []

abbrev pub newest_with : Mark → List (Option Mark) → List (Option Mark)
newest_with m newest = if nat_lt m.task (length newest) then slice_set newest m.task (Some m) else newest

-- the ends and their rows are those of the first n steps, where one step more was added to the clocks
pub record OldEnds (r : Run) (n : ℕ) (lanes : Lanes) (o : Order) : Type 0 where
  pub exclusion : o.exclusion ≡ r.exclusion
  pub ends : AreStored r (n + 1) lanes o.clocks.rows.items (IsEnd r.entries n) o.ends
  pub rows : AreRows r (n + 1) lanes o.clocks.rows.items (IsNoted r n) o.rows.entries

-- the lanes with the step at n
abbrev pub with_step : Lanes → ℕ → List (Vec LaneBound Global) → Mark → Lanes
with_step lanes n rows m = record {
  lane = λ p. if p == n then m.lane else lanes.lane p;
  bound = λ p. if p == n then row_of rows m else lanes.bound p;
  last = λ k. if k == m.lane then n else lanes.last k;
  count = if nat_lt m.lane lanes.count then lanes.count else suc m.lane;
}

-- the order has one step more, with this mark
pub record HasPlaced (r : Run) (n : ℕ) (old : Lanes) (m : Mark) (o : Order) : Type 0 where
  pub lanes : Lanes
  pub extends : Extends n old lanes
  pub past : IsOrder r (n + 1) lanes o
  pub added : IsAdded r n lanes o.clocks m
