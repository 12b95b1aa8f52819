use Rattle.std.proofs.Common.{◌≡◌, ◌++◌, ℤ, List, length, drop, IsTrue}
use Rattle.std.specs.List.{list_all}
use Rattle.std.specs.Option.{option_map}
use Rattle.tb_model.specs.Program.{items_at}
use Rattle.tb_plan.specs.Plans.{is_placed}
use Rattle.tb_plan.proofs.evaluation.items_at.Given as goal

-- the items so far and those of the clauses that are left are those of all clauses
abbrev pub invariant-loop-clause : goal.invariant-loop-clause
invariant-loop-clause l = record {
  items : (all : List ℤ) → length all ≡ l.cells → option_map (λ more. l.items ++ more) (items_at all l.regs (drop l.clause-index l.clauses)) ≡ items_at all l.regs l.clauses;
  placed : IsTrue (list_all (is_placed l.cells) l.items);
}
