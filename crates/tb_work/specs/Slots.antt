-- The slots of a journal that have a write-once cell, and what is known of these.
use Rattle.std.specs.Prelude.{ℕ, List, Option, Some, map, take, drop}
use Rattle.tb_model.specs.declared.entry.Entry.{Entry}
use Rattle.tb_work.specs.declared.told.Told.{Told}

-- the first of them, and the names of the cells by their slots; those before the first have none,
-- and mean nothing
pub record Slots : Type 0 where
  pub first : ℕ
  pub cells : List ℕ

-- the cells of the first so many slots, and the entries there, from the first slot with a cell on
abbrev pub cells_in : Slots → ℕ → List ℕ
cells_in slots n = drop slots.first (take n slots.cells)

abbrev pub entries_in : Slots → List Entry → List (Option Entry)
entries_in slots es = map (λ e. Some e) (drop slots.first es)

-- the cells of which there are notes, and what each says
abbrev pub cells_of : List Told → List ℕ
cells_of told = map (λ t. t.note.cell) told

abbrev pub known_of : List Told → List (Option Entry)
known_of told = map (λ t. t.note.known) told
