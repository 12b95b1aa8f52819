-- What is stored of an order, of which the first n steps of a whole history were seen.
use Rattle.std.specs.Prelude.{ℕ, suc, ◌+◌, ◌≡◌, ◌<◌, ◌≤◌, List, Bool, false, Option, Some, None, Vec, IsTrue, length, take, slice_get, slice_index_or}
use Rattle.std.specs.List.{list_any}
use Rattle.std.specs.declared.alloc.Global.{Global}
use Rattle.tb_model.specs.declared.action.Action.{Action}
use Rattle.tb_model.specs.declared.event.Event.{Event}
use Rattle.tb_model.specs.Facts.{History, is_of, spawns}
use Rattle.tb_model.specs.Names.{Name}
use Rattle.tb_clocks.specs.Known.{HasId, names_in}
use Rattle.tb_steps.specs.Entries.{Entry}
use Rattle.tb_steps.specs.Scans.{AreLegal, history_of}
use Rattle.tb_races.specs.Orders.{Order}
use Rattle.tb_lanes.specs.declared.lane_bound.LaneBound.{LaneBound}
use Rattle.tb_lanes.specs.declared.tasks.Tasks.{Tasks}
use Rattle.tb_lanes.specs.Bounds.{IsRising, bound_in}
use Rattle.tb_lanes.specs.Clocks.{AreLanes, AreTasks, Lanes, row_in}
use Rattle.tb_lanes.specs.Linking.{order_of}
use Rattle.tb_stream.specs.declared.clocks.Clocks.{Clocks}
use Rattle.tb_stream.specs.declared.mark.Mark.{Mark}

-- a whole history by tasks, in whose order exclusion counts or doesn't
pub record Run : Type 0 where
  pub exclusion : Bool
  pub entries : List Entry
  pub tasks : Tasks
  pub legal : AreLegal entries
  pub by_task : AreTasks entries tasks

abbrev pub order : Run → Order
order r = order_of r.exclusion

-- the first n events of the run
abbrev pub front : Run → ℕ → History
front r n = history_of (take n r.entries)

-- the task has this id
abbrev pub IsId : Run → ℕ → Name → Type 0
IsId r i t = HasId (history_of r.entries) i t

-- the task of the step at p has this id
abbrev pub IsOf : Run → ℕ → ℕ → Type 0
IsOf r p i = (v : Entry) → slice_get r.entries p ≡ Some v → IsId r i v.event.task

abbrev pub passes_so : (Event → Bool) → Option Entry → Bool
passes_so f None = false
passes_so f (Some v) = f v.event

-- the step at p passes the test
abbrev pub passes_at : (Event → Bool) → Run → ℕ → Bool
passes_at f r p = passes_so f (slice_get r.entries p)

-- ---- marks

-- of a step among the first n
pub record IsMark (n : ℕ) (lanes : Lanes) (m : Mark) : Type 0 where
  pub at : m.at < n
  pub lane : m.lane ≡ lanes.lane m.at

-- the mark is of the step, and has its row and its task
pub record IsFull (r : Run) (n : ℕ) (lanes : Lanes) (rows : List (Vec LaneBound Global)) (m : Mark) : Type 0 where
  pub mark : IsMark n lanes m
  pub within : m.row ≤ length rows
  pub rising : IsRising (row_in rows m.row)
  pub bounds : bound_in (row_in rows m.row) ≡ lanes.bound m.at
  pub task : IsOf r m.at m.task

-- the step that generated the task; none did
abbrev pub IsMaker : Run → ℕ → Lanes → List (Vec LaneBound Global) → Name → Option Mark → Type 0
IsMaker r n lanes rows t None = list_any (spawns t) (front r n) ≡ false
IsMaker r n lanes rows t (Some m) = IsFull r n lanes rows m × IsTrue (passes_at (spawns t) r m.at)

-- the newest step of the task; it has none
abbrev pub IsNewest : Run → ℕ → Lanes → List (Vec LaneBound Global) → Name → Option Mark → Type 0
IsNewest r n lanes rows t None = (x : ℕ) → x < n → passes_at (is_of t) r x ≡ false
IsNewest r n lanes rows t (Some m) = IsFull r n lanes rows m × IsTrue (passes_at (is_of t) r m.at) × ((x : ℕ) → x < n → IsTrue (passes_at (is_of t) r x) → x ≤ m.at)

-- each task that was generated has what is said of it, at its id
pub record AreOfTasks (r : Run) (n : ℕ) (P : Name → Option Mark → Type 0) (marks : List (Option Mark)) : Type 0 where
  pub listed : length marks ≡ length (names_in (front r n))
  pub each : (i : ℕ) (t : Name) (m : Option Mark) → HasId (front r n) i t → slice_get marks i ≡ Some m → P t m

-- the step after the first n
pub record IsNext (r : Run) (n : ℕ) (m : Mark) : Type 0 where
  pub at : m.at ≡ n
  pub within : n < length r.entries
  pub task : IsOf r n m.task

-- the action of the step with this index is this one
abbrev pub IsEvent : Run → ℕ → Action → Type 0
IsEvent r n a = (v : Entry) → slice_get r.entries n ≡ Some v → a ≡ v.event.action

-- ---- clocks

pub record AreClocks (r : Run) (n : ℕ) (lanes : Lanes) (clocks : Clocks) : Type 0 where
  pub within : n ≤ length r.entries
  pub are : AreLanes (order r) r.entries r.tasks n lanes
  pub newest : AreOfTasks r n (IsNewest r n lanes clocks.rows.items) clocks.newest.items
  pub origins : AreOfTasks r n (IsMaker r n lanes clocks.rows.items) clocks.origins.items
  pub lasts_listed : length clocks.lasts.items ≡ lanes.count
  pub lasts : (k : ℕ) → k < lanes.count → slice_index_or clocks.lasts.items k 0 ≡ lanes.last k

-- the step that generated the task of another, whose origin has this index
abbrev pub IsOrigin : Run → ℕ → Lanes → List (Vec LaneBound Global) → Option Mark → ℕ → Type 0
IsOrigin r n lanes rows None k = k ≡ 0
IsOrigin r n lanes rows (Some m) k = IsFull r n lanes rows m × (k ≡ suc m.at)

-- the steps in front have the lanes that they had
abbrev pub Extends : ℕ → Lanes → Lanes → Type 0
Extends n lanes next = (p : ℕ) → p < n → next.lane p ≡ lanes.lane p

-- the step at n was added, and this is its mark
pub record IsAdded (r : Run) (n : ℕ) (lanes : Lanes) (clocks : Clocks) (m : Mark) : Type 0 where
  pub clocks_are : AreClocks r (n + 1) lanes clocks
  pub full : IsFull r (n + 1) lanes clocks.rows.items m
  pub at : m.at ≡ n
