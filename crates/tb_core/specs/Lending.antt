-- A history that is lent with the tables that it leaves, and with where its events are.
use Rattle.std.specs.Prelude.{◌≡◌, ◌<◌, ◌≤◌, ◌+◌, ℕ, List, Bool, IsTrue, IsFalse, get_or, map, reverse}
use Rattle.tb_model.specs.declared.event.Event.{Event}
use Rattle.tb_model.specs.Legal.{Cells, Legal}
use Rattle.tb_places.specs.declared.places.Places.{Places}
use Rattle.tb_places.specs.Places.{IsIndexOf}
use Rattle.tb_undo.specs.State.{Seen as Tables, IsState}
use Rattle.tb_steps.specs.Entries.{Entry, departure}
use Rattle.tb_core.specs.Renumbering.{events_in}
use Rattle.tb_steps.specs.Scans.{history_of}
use Rattle.tb_core.specs.Soundness.{names_in}

-- the stored steps are a legal history, the tables are its state, and the index says where its
-- events are
pub record AreLeft (tables : Tables) (index : Places) (entries : List Entry) : Type 0 where
  pub cells : Cells
  pub root_line : ℕ
  pub legal : Legal cells (history_of entries)
  pub state : IsState cells root_line (map departure (reverse entries)) tables
  pub places : IsIndexOf (names_in tables) (events_in entries) index

-- no stored step from the one index on, in front of the other, passes the test
abbrev pub IsNoneBetween : (Event → Bool) → List Entry → ℕ → ℕ → Type 0
IsNoneBetween p entries from to = (k : ℕ) (e : Entry) → from ≤ k → k < to → e ≡ get_or entries k e → IsFalse (p e.event)

-- the last stored step in front of the one index that passes the test is at the other
pub record IsLast (p : Event → Bool) (entries : List Entry) (before at : ℕ) : Type 0 where
  pub front : at < before
  pub passes : (e : Entry) → e ≡ get_or entries at e → IsTrue (p e.event)
  pub none : IsNoneBetween p entries (at + 1) before
