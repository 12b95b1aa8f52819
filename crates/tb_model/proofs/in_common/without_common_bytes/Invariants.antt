use Rattle.std.proofs.Common.{◌≡◌, ◌≤◌, length, take}
use Rattle.tb_model.specs.Names.{name_cmp}
use Rattle.tb_model.proofs.in_common.without_common_bytes.Given as goal

-- what is left of both is in the order of the whole
abbrev pub invariant-common : goal.invariant-common
invariant-common l = record {
  of_first : l.m ≤ length l.a;
  of_second : l.n ≤ length l.b;
  order : name_cmp (take l.m l.a) (take l.n l.b) ≡ name_cmp l.a l.b;
}

abbrev pub decreases-common : goal.decreases-common
decreases-common l = l.m
