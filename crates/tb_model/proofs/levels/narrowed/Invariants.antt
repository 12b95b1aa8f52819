use Rattle.std.proofs.Common.{◌≡◌, length, take}
use Rattle.tb_model.proofs.levels.narrowed.Given as goal

-- the ordinals so far are those bytes
abbrev pub invariant-loop-i : goal.invariant-loop-i
invariant-loop-i l = record {
  long : length l.bytes ≡ 128;
  same : take l.i l.bytes ≡ take l.i l.numbers;
}
