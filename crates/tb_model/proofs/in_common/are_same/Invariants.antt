use Rattle.std.proofs.Common.{◌≡◌, length}
use Rattle.tb_model.specs.Names.{same_name}
use Rattle.tb_model.proofs.in_common.are_same.Given as goal

-- what is left of both says whether they are the same
abbrev pub invariant-blocks-2 : goal.invariant-blocks-2
invariant-blocks-2 l = record {
  long : length l.left ≡ length l.right;
  rest : same_name l.a l.b ≡ same_name l.left l.right;
}

abbrev pub decreases-blocks-2 : goal.decreases-blocks-2
decreases-blocks-2 l = length l.left

abbrev pub invariant-fours : goal.invariant-fours
invariant-fours l = record {
  long : length l.left ≡ length l.right;
  rest : same_name l.a l.b ≡ same_name l.left l.right;
}

abbrev pub decreases-fours : goal.decreases-fours
decreases-fours l = length l.left

abbrev pub invariant-numbers : goal.invariant-numbers
invariant-numbers l = record {
  long : length l.left ≡ length l.right;
  rest : same_name l.a l.b ≡ same_name l.left l.right;
}

abbrev pub decreases-numbers : goal.decreases-numbers
decreases-numbers l = length l.left
