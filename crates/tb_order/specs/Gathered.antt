-- What is gathered on the way up from a step to what generates its task, and so on.
use Rattle.std.specs.Prelude.{ℕ, ◌⊎◌, ◌<◌, List, Bool, IsTrue}
use Rattle.tb_steps.specs.Entries.{Entry}
use Rattle.tb_races.specs.Orders.{Order}
use Rattle.tb_lanes.specs.declared.tasks.Tasks.{Tasks}
use Rattle.tb_lanes.specs.declared.clocks.Clocks.{Clocks}
use Rattle.tb_lanes.specs.Clocks.{IsLow, origin, origin_reaches, reaches}
use Rattle.tb_lanes.specs.Fewer.{says_of}

-- the bounds tell of steps that the step at s reaches, all in front of that at p, and of each for which somebody asks but those
-- that are reached by what generates the task of the step at `at`
pub record IsGathered (asked : ℕ → Bool) (o : Order) (entries : List Entry) (tasks : Tasks) (clocks : Clocks) (p s at : ℕ) (row : ℕ → ℕ) : Type 0 where
  pub low : IsLow row p
  pub right : (q : ℕ) → q < p → says_of clocks row q → IsTrue (reaches o entries s q)
  pub left : (q : ℕ) → q < p → IsTrue (asked q) → IsTrue (reaches o entries s q) → says_of clocks row q ⊎ IsTrue (origin_reaches o entries (origin tasks at) q)
  pub way : (q : ℕ) → q < p → IsTrue (reaches o entries at q) → IsTrue (reaches o entries s q)
