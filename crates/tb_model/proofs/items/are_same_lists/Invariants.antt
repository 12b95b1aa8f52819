use Rattle.std.proofs.Common.{◌≡◌, take}
use Rattle.tb_model.proofs.items.are_same_lists.Given as goal

abbrev pub invariant-loop-at : goal.invariant-loop-at
invariant-loop-at l = take l.at l.a ≡ take l.at l.b
