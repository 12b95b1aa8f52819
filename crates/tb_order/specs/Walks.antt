-- What walks along a history know of its first steps.
use Rattle.std.specs.Prelude.{◌≡◌, ℕ, List, length, take}
use Rattle.tb_model.specs.Legal.{Cells, Legal}
use Rattle.tb_steps.specs.Entries.{Entry}
use Rattle.tb_steps.specs.Scans.{history_of}
use Rattle.tb_lanes.specs.Clocks.{AreOrdinals, AreTasks}
use Rattle.tb_stream.specs.Halves.{AreRaces}
use Rattle.tb_order.specs.declared.edge_walk.EdgeWalk.{EdgeWalk}
use Rattle.tb_order.specs.declared.race_walk.RaceWalk.{RaceWalk}
use Rattle.tb_order.specs.AllNeeds.{AreNeeds}

-- what races are found by is that of the first n steps
pub record HasRacesTo (entries : List Entry) (n : ℕ) (walk : RaceWalk) : Type 0 where
  pub known : (cells : Cells) → Legal cells (history_of entries) → AreRaces cells (history_of (take n entries)) walk.races

-- what immediate needs are found by is that of the first n steps
pub record HasNeedsTo (entries : List Entry) (n : ℕ) (walk : EdgeWalk) : Type 0 where
  pub by_task : AreTasks entries walk.tasks
  pub listed : length walk.ordinals.items ≡ length entries
  pub told : AreOrdinals entries (length entries) walk.ordinals.items
  pub known : AreNeeds entries walk.tasks n walk.needs
