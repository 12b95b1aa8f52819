use Rattle.std.proofs.Common.{◌≡◌, ◌≤◌}
use Rattle.std.specs.Prelude.{vec_capacity}
use Rattle.tb_depend.specs.Numbers.{numbers_where}
use Rattle.tb_depend.specs.Relations.{depends}
use Rattle.tb_depend.proofs.siblings.Siblings.fill_preds.Given as goal

-- those that pass, so far, in the capacity that there was
abbrev pub invariant-loop-k : goal.invariant-loop-k
invariant-loop-k l = record {
  found : l.numbers.items ≡ numbers_where (depends l.self.siblings l.n) l.k;
  room : l.k-end ≤ vec_capacity l.numbers;
}
