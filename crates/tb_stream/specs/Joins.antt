-- What is joined to a step that waits.
use Rattle.std.specs.Prelude.{ℕ, ◌≡◌, ◌<◌, ◌≤◌, List, Option, Some, None, Vec, IsTrue, length, slice_get, if◌then◌else◌}
use Rattle.std.specs.declared.alloc.Global.{Global}
use Rattle.tb_clocks.specs.Known as known
use Rattle.tb_clocks.specs.declared.tasks.Tasks.{Tasks}
use Rattle.tb_steps.specs.Entries.{Entry}
use Rattle.tb_model.specs.declared.action.Action.{Action}
use Rattle.tb_model.specs.Facts.{is_start}
use Rattle.tb_model.specs.Names.{Name}
use Rattle.tb_lanes.specs.Bounds.{AreRising, bound_among}
use Rattle.tb_lanes.specs.Clocks.{IsEnd, IsLane, IsSound, Lanes, is_end_at, is_told, links_at}
use Rattle.tb_lanes.specs.declared.lane_bound.LaneBound.{LaneBound}
use Rattle.tb_stream.specs.declared.joined.Joined.{Joined}
use Rattle.tb_stream.specs.declared.mark.Mark.{Mark}
use Rattle.tb_stream.specs.declared.order.Order.{Order}
use Rattle.tb_stream.specs.declared.waiter.Waiter.{Waiter}
use Rattle.tb_stream.specs.Seen.{AreClocks, IsFull, IsId, IsNext, IsOf, Run, front, order}
use Rattle.tb_stream.specs.Ends.{AreRows, AreStored, IsChild, IsNoted}
use Rattle.tb_model.specs.declared.item.Item.{Item}
use Rattle.tb_model.specs.declared.kind.Kind.{Kind}
use Rattle.tb_model.specs.declared.place.Place.TheVariants.{Cell}
use Rattle.tb_model.specs.Items.{same_place}
use Rattle.tb_lanes.specs.Rows.{items_at}

-- the task with this id executes the step after the first n, with this action; the tables are those
-- of what is in front of it
pub record IsNow (r : Run) (n : ℕ) (tasks : Tasks) (act : Action) (id : ℕ) : Type 0 where
  pub within : n < length r.entries
  pub facts : known.AreTasks r.legal.cells (front r n) tasks
  pub action : (v : Entry) → slice_get r.entries n ≡ Some v → act ≡ v.event.action
  pub task : IsOf r n id

-- the order is that of the first n steps
pub record IsOrder (r : Run) (n : ℕ) (lanes : Lanes) (o : Order) : Type 0 where
  pub exclusion : o.exclusion ≡ r.exclusion
  pub clocks : AreClocks r n lanes o.clocks
  pub ends : AreStored r n lanes o.clocks.rows.items (IsEnd r.entries n) o.ends
  pub rows : AreRows r n lanes o.clocks.rows.items (IsNoted r n) o.rows.entries

-- of whom a step is a child for which the next one may wait
abbrev pub waited_by : Action → Name → Name
waited_by a t = if is_start a then known.parent_of t else t

pub record IsWaiting (r : Run) (n : ℕ) (lanes : Lanes) (o : Order) (w : Waiter) : Type 0 where
  pub past : IsOrder r n lanes o
  pub now : IsNow r n w.tasks.now w.action.now w.step.task
  pub next : IsNext r n w.step
  pub lane : IsLane r.entries lanes w.step.lane n
  pub parent : (v : Entry) → slice_get r.entries n ≡ Some v → IsId r w.parent (waited_by w.action.now v.event.task)
  pub from : (x : ℕ) → IsEnd r.entries n x → IsTrue (links_at (order r) r.entries n x) → w.from ≤ x

-- x is an end, of a child of the task with this id
abbrev pub IsChildEnd : Run → ℕ → ℕ → ℕ → Type 0
IsChildEnd r n g x = IsEnd r.entries n x × IsChild r g x

-- the task of the step at x has an item of the kind, at the cell or at all memory
abbrev pub HasMet : Run → Option Kind → ℕ → ℕ → Type 0
HasMet r kind c x = (i : ℕ) × (j : Item) × (slice_get (items_at r.entries x) i ≡ Some j) × (kind ≡ Some j.kind) × IsTrue (same_place (Cell c) j.place)

-- the row so far has q as one in front of the step
abbrev pub IsTold : Run → ℕ → Lanes → ℕ → Joined → ℕ → Type 0
IsTold r n lanes k j q = IsTrue (is_told (order r) r.entries r.tasks lanes (bound_among j.rows.items) k n q)

-- an end that is listed
pub record IsJoinedEnd (r : Run) (n : ℕ) (lanes : Lanes) (rows : List (Vec LaneBound Global)) (k : ℕ) (j : Joined) (m : Mark) : Type 0 where
  pub full : IsFull r n lanes rows m
  pub over : IsTrue (is_end_at r.entries m.at)
  pub told : IsTold r n lanes k j m.at

-- what was joined is in front of the step, and so is what is in front of that
pub record AreJoined (r : Run) (n : ℕ) (lanes : Lanes) (rows : List (Vec LaneBound Global)) (k : ℕ) (j : Joined) : Type 0 where
  pub rising : AreRising j.rows.items
  pub sound : IsSound (order r) r.entries r.tasks lanes (bound_among j.rows.items) k n
  pub end : (m : Mark) → j.end ≡ Some m → IsJoinedEnd r n lanes rows k j m

-- more was joined, or nothing: each of the ends that are meant to which the step is linked
pub record Merges (r : Run) (n : ℕ) (lanes : Lanes) (rows : List (Vec LaneBound Global)) (k : ℕ) (P : ℕ → Type 0) (old new : Joined) : Type 0 where
  pub are : AreJoined r n lanes rows k new
  pub kept : (q : ℕ) → q < n → IsTold r n lanes k old q → IsTold r n lanes k new q
  pub told : (x : ℕ) → x < n → P x → IsTrue (links_at (order r) r.entries n x) → IsTold r n lanes k new x
  pub same : new.end ≡ None → (new.rows.items ≡ old.rows.items) × (old.end ≡ None)
