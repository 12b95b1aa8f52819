use Rattle.std.proofs.Common.{◌≡◌, ◌<◌, ◌^◌, length}
use Rattle.tb_runs.specs.Plain.{numeral_on}
use Rattle.tb_runs.proofs.plain.leading_digits.Given as goal

-- the digits that are left go on from the value so far
abbrev pub invariant-loop-left : goal.invariant-loop-left
invariant-loop-left l = record {
  number : numeral_on l.value l.left ≡ numeral_on 0 l.bytes;
  most : l.value < 2 ^ 63;
}

abbrev pub decreases-loop-left : goal.decreases-loop-left
decreases-loop-left l = length l.left
