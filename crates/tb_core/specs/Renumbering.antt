-- The stored steps that stay where those at some indexes go. Public clauses cite the events alone.
use Rattle.std.specs.Prelude.{◌≡◌, ◌≤◌, ℕ, List, ◌++◌, length, take, drop, map}
use Rattle.tb_model.specs.declared.event.Event.{Event}
use Rattle.tb_model.specs.Names.{Name}
use Rattle.tb_places.specs.declared.places.Places.{Places}
use Rattle.tb_places.specs.Places.{IsIndexOf, HasRoomForAll}
use Rattle.tb_places.specs.Renumbering.{left_from}
use Rattle.tb_steps.specs.Entries.{Entry}

-- the events of stored steps that come from the oldest
abbrev pub events_in : List Entry → List Event
events_in entries = map (λ (e : Entry). e.event) entries

-- of the stored steps in front of this index so many stay, and their indexes are noted; those after
-- it are to come
pub record Refills (names : List Name) (first : ℕ) (going : List ℕ) (events : List Event) (at next place : ℕ) (places : Places) : Type 0 where
  pub done : List Event
  pub index : IsIndexOf names done places
  pub count : place ≡ length done
  pub few : place ≤ at
  pub whole : done ++ left_from at (drop next going) (drop at events) ≡ take first events ++ left_from first going (drop first events)
  pub room : HasRoomForAll names (done ++ drop at events) places

-- the stored steps in front of this index are those of the indexes, which have capacity for all
pub record Cuts (names : List Name) (first : ℕ) (events : List Event) (at : ℕ) (places : Places) : Type 0 where
  pub from : first ≤ at
  pub within : at ≤ length events
  pub index : IsIndexOf names (take at events) places
  pub room : HasRoomForAll names events places
