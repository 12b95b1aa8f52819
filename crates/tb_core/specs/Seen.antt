-- What a contract sees of a core: its history with the lines, and what it was opened with.
use Rattle.std.specs.Prelude.{ℕ, List, Option}
use Rattle.tb_model.specs.declared.event.Event.{Event}
use Rattle.tb_model.specs.Facts.{History}
use Rattle.tb_model.specs.Legal.{Cells}
use Rattle.tb_model.specs.Lines.{Departure, events_of}

-- the cells' first values, the line of the root's body, the most events, and the steps, the newest
-- first
pub record Seen : Type 0 where
  pub cells : Cells
  pub root_line : ℕ
  pub limit : ℕ
  pub steps : List Departure

abbrev pub history : Seen → History
history s = events_of s.steps

-- the run where the history may have so many events
abbrev pub with_limit : ℕ → Seen → Seen
with_limit limit s = record { cells = s.cells; root_line = s.root_line; limit = limit; steps = s.steps }

-- a core: its run, and the event for which all capacity is reserved: its step takes no memory
pub record Held : Type 0 where
  pub run : Seen
  pub reserved : Option Event
