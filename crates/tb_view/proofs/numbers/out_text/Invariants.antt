use Rattle.std.proofs.Common.{◌≡◌, ◌++◌, drop}
use Rattle.std.specs.Prelude.{string_bytes}
use Rattle.tb_view.specs.Numbers.{number_lines, out_text}
use Rattle.tb_view.proofs.numbers.out_text.Given as goal

-- the text so far, and the lines of the numbers that are left, are the whole text
abbrev pub invariant-loop-number : goal.invariant-loop-number
invariant-loop-number l = string_bytes l.text ++ number_lines (drop l.number-index l.numbers) ≡ out_text l.numbers
