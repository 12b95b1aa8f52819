use Rattle.std.proofs.Common.{◌≡◌, ◌++◌, drop}
use Rattle.std.specs.Prelude.{string_bytes}
use Rattle.tb_view.specs.Numbers.{cell_lines, cells_text}
use Rattle.tb_view.proofs.numbers.cells_text.Given as goal

-- the text so far, and the lines of the cells that are left, are the whole text
abbrev pub invariant-loop-cell : goal.invariant-loop-cell
invariant-loop-cell l = string_bytes l.text ++ cell_lines l.cell (drop l.cell l.numbers) ≡ cells_text l.numbers
