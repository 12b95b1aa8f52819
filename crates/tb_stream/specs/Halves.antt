-- What is stored of a history, by both orders.
use Rattle.std.specs.Prelude.{ℕ, suc, ◌≡◌, ◌≤◌, ◌∷◌, Bool, true, false, Option, Some, None, length}
use Rattle.tb_clocks.specs.Ids.{AreIds}
use Rattle.tb_clocks.specs.Known as known
use Rattle.tb_clocks.specs.Known.{HasId}
use Rattle.tb_clocks.specs.declared.tasks.Tasks.{Tasks}
use Rattle.tb_model.specs.declared.action.Action.{Action}
use Rattle.tb_model.specs.declared.action.Action.TheVariants.{Load, Store, Print}
use Rattle.tb_model.specs.declared.event.Event.{Event}
use Rattle.tb_model.specs.Facts.{History, own}
use Rattle.tb_model.specs.Names.{Name}
use Rattle.tb_model.specs.Legal.{Cells, Legal}
use Rattle.tb_races.specs.declared.conflict.Conflict.{Conflict}
use Rattle.tb_races.specs.declared.conflict.Conflict.TheVariants.{Cell, Print as Prints}
use Rattle.tb_lanes.specs.Clocks.{Lanes}
use Rattle.tb_stream.specs.declared.access.Access.{Access}
use Rattle.tb_stream.specs.declared.half.Half.{Half}
use Rattle.tb_stream.specs.declared.halves.Halves.{Halves}
use Rattle.tb_stream.specs.declared.races.Races.{Races}
use Rattle.tb_stream.specs.Exclusion.{excludes_some}
use Rattle.tb_stream.specs.Joins.{IsOrder}
use Rattle.tb_stream.specs.Keeping as keeping
use Rattle.tb_stream.specs.Keeping.{AreKept}
use Rattle.tb_stream.specs.Seen.{Run, front}

-- this action of the task
abbrev pub event_of : Name → Action → Event
event_of t a = record { task = t; action = a }

-- the whole history begins with these events
pub record Begins (exclusion : Bool) (H : History) (r : Run) : Type 0 where
  pub exclusion_is : r.exclusion ≡ exclusion
  pub within : length H ≤ length r.entries
  pub front_is : front r (length H) ≡ H

pub record IsHalfOf (r : Run) (n : ℕ) (h : Half) : Type 0 where
  pub lanes : Lanes
  pub past : IsOrder r n lanes h.order
  pub kept : AreKept r n lanes h.kept.entries

-- whatever comes, it is what is stored of these events
abbrev pub IsHalf : Bool → History → Half → Type 0
IsHalf exclusion H h = (r : Run) → Begins exclusion H r → IsHalfOf r (length H) h

-- v is the next event, and this is known of it
pub record Takes (H : History) (v : Event) (tasks : Tasks) (action : Action) (at task k : ℕ) : Type 0 where
  pub cells : Cells
  pub facts : known.AreTasks cells H tasks
  pub legal : Legal cells (v ∷ H)
  pub action_is : action ≡ v.action
  pub at_is : at ≡ length H
  pub id : HasId H task v.task
  pub number : k ≡ suc (length (own v.task H))

-- the newest step with which v races, if it isn't ordered
abbrev pub IsFound : Bool → History → Event → Option Access → Type 0
IsFound exclusion H v o = (r : Run) → Begins exclusion (v ∷ H) r → (lanes : Lanes) × keeping.IsFound r (length H) lanes o

-- what the action shares with those with which it conflicts
abbrev pub conflict_of : Action → Option Conflict
conflict_of (Load r c x) = Some (Cell c)
conflict_of (Store c x) = Some (Cell c)
conflict_of (Print x) = Some Prints
conflict_of _ = None

-- what is stored of the order without exclusion: nothing where no tasks exclude each other, since
-- it is then the one with it
abbrev pub IsLoose : History → Option Half → Type 0
IsLoose H None = excludes_some H ≡ false
IsLoose H (Some h) = IsHalf false H h

pub record AreHalves (H : History) (halves : Halves) : Type 0 where
  pub strict : IsHalf true H halves.strict
  pub loose : IsLoose H halves.loose

-- of these events
pub record AreRaces (cells : Cells) (H : History) (races : Races) : Type 0 where
  pub legal : Legal cells H
  pub ids : AreIds cells H races.ids
  pub tasks : known.AreTasks cells H races.tasks
  pub count : races.count ≡ length H
  pub halves : AreHalves H races.halves
