use Rattle.std.proofs.Common.{◌≡◌, length, take}
use Rattle.tb_model.proofs.few.Few.spread.Given as goal

-- the ordinals so far are those bytes
abbrev pub invariant-loop-i : goal.invariant-loop-i
invariant-loop-i l = record {
  long : length l.numbers ≡ 14;
  same : take l.i l.numbers ≡ take l.i l.self-inside.bytes;
}
