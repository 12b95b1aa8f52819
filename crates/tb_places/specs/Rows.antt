-- What is read of rows of indexes.
use Rattle.std.specs.Prelude.{◌≡◌, ◌<◌, ◌≤◌, ◌==◌, ℕ, List, [], Bool, false, Option, Some, None, ⊤, length, slice_get, vec_capacity}
use Rattle.std.specs.Option.{option_map_or}
use Rattle.tb_model.specs.declared.event.Event.{Event}
use Rattle.tb_places.specs.declared.rows.Rows.{Rows}
use Rattle.tb_places.specs.Where.{places_where}

-- the indexes of the row of this id
abbrev pub row_of : Rows → ℕ → List ℕ
row_of r n = option_map_or (λ row. row.items) (slice_get r.rows.items n) []

-- how many indexes there is memory for
abbrev pub room_of : Rows → ℕ → ℕ
room_of r n = option_map_or (λ row. vec_capacity row) (slice_get r.rows.items n) 0

-- the row takes one more index and no memory
abbrev pub HasRoom : Rows → ℕ → Type 0
HasRoom r n = length (row_of r n) < room_of r n

-- the row with this id, where there is an id, takes one more index and no memory
abbrev pub HasRoomAt : Rows → Option ℕ → Type 0
HasRoomAt r None = ⊤
HasRoomAt r (Some n) = HasRoom r n

-- the event's row, if it has one, is this
abbrev pub is_in_row : ℕ → Option ℕ → Bool
is_in_row k None = false
is_in_row k (Some n) = n == k

abbrev pub is_of_row : (Event → Option ℕ) → ℕ → Event → Bool
is_of_row number k e = is_in_row k (number e)

-- each row has the indexes of the events that have its id
abbrev pub AreRows : (Event → Option ℕ) → List Event → Rows → Type 0
AreRows number events r = (k : ℕ) → row_of r k ≡ places_where (is_of_row number k) events

-- no row loses memory
abbrev pub GrowsRooms : Rows → Rows → Type 0
GrowsRooms old new = (k : ℕ) → room_of old k ≤ room_of new k

-- the memory of each row stays
abbrev pub KeepsRooms : Rows → Rows → Type 0
KeepsRooms old new = (k : ℕ) → room_of new k ≡ room_of old k
