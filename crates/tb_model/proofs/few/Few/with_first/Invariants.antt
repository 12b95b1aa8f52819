use Rattle.std.proofs.Common.{◌≡◌, ◌+◌, ◌∷◌, length, take, drop}
use Rattle.tb_model.specs.Bytes.{no_bytes}
use Rattle.tb_model.proofs.few.Few.with_first.Given as goal

-- the ordinals so far are those bytes, and the others are zero
abbrev pub invariant-loop-i : goal.invariant-loop-i
invariant-loop-i l = record {
  long : length l.bytes ≡ 14;
  same : take (l.i + 1) l.bytes ≡ l.first ∷ take l.i l.rest;
  zeros : drop (l.i + 1) l.bytes ≡ drop (l.i + 1) no_bytes;
}
