use Rattle.std.proofs.Common.{◌≡◌}
use Rattle.tb_depend.specs.Numbers.{numbers_where}
use Rattle.tb_depend.specs.Relations.{excludes}
use Rattle.tb_depend.proofs.siblings.Siblings.apart.Given as goal

-- those that pass, so far
abbrev pub invariant-loop-k : goal.invariant-loop-k
invariant-loop-k l = l.numbers.items ≡ numbers_where (excludes l.self.siblings l.n) l.k
