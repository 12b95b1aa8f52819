use Rattle.std.proofs.Common.{◌≡◌, length}
use Rattle.tb_model.specs.Names.{same_name}
use Rattle.tb_model.specs.Blocks.{far_numbers, AreFull}
use Rattle.tb_model.proofs.parts.are_same_blocks.Given as goal

-- what is left of both says whether they are the same
abbrev pub invariant-blocks-2 : goal.invariant-blocks-2
invariant-blocks-2 l = record {
  long : length l.left ≡ length l.right;
  full : AreFull l.left × AreFull l.right;
  rest : same_name (far_numbers l.a) (far_numbers l.b) ≡ same_name (far_numbers l.left) (far_numbers l.right);
}

abbrev pub decreases-blocks-2 : goal.decreases-blocks-2
decreases-blocks-2 l = length l.left
