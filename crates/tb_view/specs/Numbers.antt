-- The cells and the printed values, as text.
use Rattle.std.specs.Prelude.{ℕ, suc, List, [], ◌∷◌, ◌++◌, ℤ, pos, length, codes, if◌then◌else◌}
use Rattle.std.specs.Fmt.{decimal, signed_decimal}
use Rattle.std.specs.Ordering.{int_eq}
use Rattle.tb_view.specs.Lines.{line}

-- the cell's value, where it isn't 0
abbrev pub cell_line : ℕ → ℤ → List ℕ
cell_line c number = if int_eq number (pos 0) then [] else line (decimal c ++ codes " " ++ signed_decimal number)

-- the lines of the cells from cell c on
abbrev pub cell_lines : ℕ → List ℤ → List ℕ
cell_lines c [] = []
cell_lines c (number ∷ numbers) = cell_line c number ++ cell_lines (suc c) numbers

-- how many cells there are, and the lines of those that aren't 0
abbrev pub cells_text : List ℤ → List ℕ
cells_text numbers = line (codes "cells " ++ decimal (length numbers)) ++ cell_lines 0 numbers

abbrev pub number_lines : List ℤ → List ℕ
number_lines [] = []
number_lines (number ∷ numbers) = line (signed_decimal number) ++ number_lines numbers

-- how many values were printed, and each on a line
abbrev pub out_text : List ℤ → List ℕ
out_text numbers = line (codes "out " ++ decimal (length numbers)) ++ number_lines numbers
