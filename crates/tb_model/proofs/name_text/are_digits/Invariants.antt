use Rattle.std.proofs.Common.{◌≡◌, ◌&&◌, drop}
use Rattle.std.specs.List.{list_all}
use Rattle.tb_model.specs.Spelling.{is_digit}
use Rattle.tb_model.proofs.name_text.are_digits.Given as goal

-- the ordinals so far, and those that are left
abbrev pub invariant-loop-i : goal.invariant-loop-i
invariant-loop-i l = (l.all && list_all is_digit (drop l.i l.numbers)) ≡ list_all is_digit l.numbers
