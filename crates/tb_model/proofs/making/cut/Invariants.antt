use Rattle.std.proofs.Common.{◌≡◌, ◌++◌, ◌<◌, ◌⊎◌, length}
use Rattle.tb_model.specs.Blocks.{far_numbers, AreFull}
use Rattle.tb_model.proofs.making.cut.Given as goal

-- what is left, and the blocks so far, are the ordinals
abbrev pub invariant-blocks-2 : goal.invariant-blocks-2
invariant-blocks-2 l = record {
  is : l.near ++ far_numbers l.far.items ≡ l.numbers;
  full : AreFull l.far.items;
  some : 0 < length l.near;
  deep : 128 < length l.near ⊎ 0 < length l.far.items;
}

abbrev pub decreases-blocks-2 : goal.decreases-blocks-2
decreases-blocks-2 l = length l.near
