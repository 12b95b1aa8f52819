-- The rows of the tasks by index: each is where the table of waits has its task's name.
use Rattle.std.specs.Prelude.{◌≡◌, ◌<◌, ◌⊎◌, ℕ, true, List, [], ◌∷◌, Option, Some, None, is_some, length, slice_index_or}
use Rattle.std.specs.Map.{keys_of}
use Rattle.tb_model.specs.Names.{Name}
use Rattle.tb_wait.specs.Kin.{Tasks as Waiting, place, names_with}
use Rattle.tb_undo.specs.declared.row.Row.{Row}
use Rattle.tb_undo.specs.Tasks.{Rows}

-- the row at an index, where a task is there
abbrev pub row_at : List (Option Row) → ℕ → Option Row
row_at rows i = slice_index_or rows i None

-- the rows by their tasks' names
abbrev pub rows_in : List (Option Row) → Rows
rows_in [] = []
rows_in (None ∷ rows) = rows_in rows
rows_in (Some r ∷ rows) = (r.holders.parent, r) ∷ rows_in rows

-- as many indexes as names, and each row at the index of its task's name
pub record AreInPlace (tasks : Waiting) (rows : List (Option Row)) : Type 0 where
  pub count : length rows ≡ length tasks
  pub placed : (i : ℕ) (r : Row) → row_at rows i ≡ Some r → place tasks r.holders.parent ≡ Some i

-- t has its index, or there is capacity for one row more
abbrev pub HasPlaceOrRoom : Waiting → Name → ℕ → Type 0
HasPlaceOrRoom tasks t room = (is_some (place tasks t) ≡ true) ⊎ (0 < room)

-- the rows were so before the name of t came, where it was never there, and then it had its index,
-- or there was capacity
abbrev pub CanCome : Waiting → Name → List (Option Row) → ℕ → Type 0
CanCome tasks t rows room = (before : Waiting) × (keys_of tasks ≡ names_with before t) × AreInPlace before rows × HasPlaceOrRoom before t room
