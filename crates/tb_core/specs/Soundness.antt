-- What always holds of a core.
use Rattle.std.specs.Prelude.{◌≡◌, ◌<◌, ◌≤◌, ℕ, List, [], ◌∷◌, length, map, Option, Some, ⊤}
use Rattle.std.specs.Map.{keys_of}
use Rattle.tb_model.specs.declared.event.Event.{Event}
use Rattle.tb_model.specs.Names.{Name}
use Rattle.tb_model.specs.Legal.{Cells, Legal}
use Rattle.tb_model.specs.Lines.{events_of}
use Rattle.tb_undo.specs.State.{Seen as Tables, IsState}
use Rattle.tb_undo.specs.Steps.{replaced_for}
use Rattle.tb_undo.specs.Changes.{HasRoomFor}
use Rattle.tb_places.specs.declared.places.Places.{Places}
use Rattle.tb_places.specs.Places.{HasRoomFor as HasRoomForPlaces}
use Rattle.tb_steps.specs.Entries.{Entry, departure}
use Rattle.tb_core.specs.Packing.{replaced_in}
use Rattle.tb_core.specs.Seen.{Seen}

-- what a core shows of these stored steps, the newest first
abbrev pub seen : Cells → (root_line limit : ℕ) → List Entry → Seen
seen first root_line limit entries = record { cells = first; root_line = root_line; limit = limit; steps = map departure entries }

-- each record says what its event replaced, by what is before it
abbrev pub AreRecords : Cells → ℕ → List Entry → Type 0
AreRecords first root_line [] = ⊤
AreRecords first root_line (e ∷ entries) = AreRecords first root_line entries × (replaced_in e ≡ replaced_for first root_line (map departure entries) e.event)

-- the stored steps, the newest first: their history is legal, their records are right, and the
-- tables are its state
pub record IsSound (first : Cells) (root_line limit : ℕ) (entries : List Entry) (tables : Tables) : Type 0 where
  pub legal : Legal first (events_of (map departure entries))
  pub records : AreRecords first root_line entries
  pub state : IsState first root_line (map departure entries) tables
  pub within : length entries ≤ limit
  pub bound : limit ≤ 1000000

-- the names of all tasks that were ever generated, each at its task's id
abbrev pub names_in : Tables → List Name
names_in tables = keys_of tables.waits.tasks

-- the capacity for the event that is reserved is there
pub record HasReserved (reserved : Option Event) (room : ℕ) (held : Tables) (stand : Places) : Type 0 where
  pub entry : (v : Event) → reserved ≡ Some v → 0 < room
  pub tables : (v : Event) → reserved ≡ Some v → HasRoomFor held v
  pub places : (v : Event) → reserved ≡ Some v → HasRoomForPlaces (names_in held) stand v
