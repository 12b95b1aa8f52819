use Rattle.std.proofs.Common.{◌≡◌, ◌+◌, ◌≤◌, ◌++◌, length, drop}
use Rattle.std.specs.Fmt.{decimal}
use Rattle.tb_draft.proofs.digits.put_digits.Given as goal

-- what is left and the digits so far are the whole number
abbrev pub invariant-pairs : goal.invariant-pairs
invariant-pairs l = record {
  room : length (decimal l.left) ≤ l.at;
  within : l.at ≤ l.end;
  start : l.at + length (decimal l.n) ≡ l.end + length (decimal l.left);
  digits : decimal l.left ++ drop l.at l.bytes ≡ decimal l.n ++ drop l.end l.fn.bytes;
}

abbrev pub decreases-pairs : goal.decreases-pairs
decreases-pairs l = l.left
