use Rattle.std.proofs.Common.{◌≡◌}
use Rattle.tb_depend.specs.Numbers.{numbers_where}
use Rattle.tb_depend.specs.Nearness.{is_among}
use Rattle.tb_depend.proofs.siblings.Siblings.near.Given as goal

-- those among the nearest ones, so far
abbrev pub invariant-loop-k : goal.invariant-loop-k
invariant-loop-k l = l.numbers.items ≡ numbers_where (is_among l.near.items) l.k
