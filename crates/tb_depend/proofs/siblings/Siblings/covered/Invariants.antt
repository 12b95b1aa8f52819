use Rattle.std.proofs.Common.{◌≡◌}
use Rattle.tb_depend.specs.Numbers.{numbers_where}
use Rattle.tb_depend.specs.Relations.{is_covered}
use Rattle.tb_depend.proofs.siblings.Siblings.covered.Given as goal

-- those that pass, so far
abbrev pub invariant-loop-k : goal.invariant-loop-k
invariant-loop-k l = l.numbers.items ≡ numbers_where (is_covered l.self.siblings l.items) l.k
