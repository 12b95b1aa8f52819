-- What a contract sees of a store.
use Rattle.std.specs.Prelude.{ℕ, ℤ, List, Option, Some, None, slice_index_or, slice_set}

-- the cells' values, the printed values in order, and how many more can be printed with no memory
pub record Contents : Type 0 where
  pub cells : List ℤ
  pub output : List ℤ
  pub room : ℕ

abbrev pub number_at : List ℤ → ℕ → ℤ
number_at cells c = slice_index_or cells c (ℤ.pos 0)

-- the cell has the number, where there is one
abbrev pub with_number : List ℤ → ℕ → Option ℤ → List ℤ
with_number cells c None = cells
with_number cells c (Some x) = slice_set cells c x
