-- A step of a history, as clauses see it.
use Rattle.std.specs.Prelude.{ℕ, ℤ}
use Rattle.tb_model.specs.declared.event.Event.{Event}
use Rattle.tb_model.specs.Lines.{Departure}

-- the event, the line at which it left its task, that at which its task was, and the value that it
-- replaced, 0 where it replaced none
pub record Entry : Type 0 where
  pub event : Event
  pub to : ℕ
  pub at : ℕ
  pub number : ℤ

-- the event, and the line at which it left its task
abbrev pub departure : Entry → Departure
departure e = record { event = e.event; to = e.to }
