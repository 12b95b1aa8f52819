use Rattle.std.proofs.Common.{◌≡◌, ◌*◌, ◌-◌, take, drop, length}
use Rattle.tb_model.specs.Spelling.{levels_text}
use Rattle.tb_model.proofs.name_text.digit_levels.Given as goal

-- the levels so far
abbrev pub invariant-loop-i : goal.invariant-loop-i
invariant-loop-i l = record {
  long : length l.levels ≡ 32;
  named : take (2 * l.i) l.levels ≡ levels_text (drop (16 - l.i) l.numbers);
}
