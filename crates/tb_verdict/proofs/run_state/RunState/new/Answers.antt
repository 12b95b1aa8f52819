use Rattle.std.proofs.Common.{[], sym, subst, arith}
use Rattle.std.proofs.lemmas.Map.Entries.{entries_from_clone}
use Rattle.tb_verdict.specs.Texts.{first_numbers}
use Rattle.tb_verdict.specs.Values.{AreValues}
use Rattle.tb_verdict.proofs.ValueLemmas.{first_values, firsts_count}
use Rattle.tb_verdict.proofs.run_state.RunState.new.Goals as goal

pub returns : goal.returns
returns c =
    let firsts = c.args.firsts.now.entries in
    let first = first_numbers c.args.cells firsts in
    record {
      legal = tt;
      cells = sym (firsts_count firsts c.args.cells);
      state = c.in_ok-open.ensures.of_tasks;
      values = subst (AreValues first []) (sym (entries_from_clone _ _ (λ x y e. e) (λ v w e. e) firsts _ c.in_ok-clone.ensures.cases)) (first_values c.args.cells firsts);
      few = omega arith;
    }
