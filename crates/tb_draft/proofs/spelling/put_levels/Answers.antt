use Rattle.std.proofs.Common.{rules}
use Rattle.tb_draft.proofs.PassageLemmas.{some_more, some_cut, one_more, one_cut}
use Rattle.tb_draft.proofs.WrittenLemmas.{on_err}
use Rattle.tb_draft.proofs.spelling.put_levels.Goals as goal

pub returns-in_err-put-in-Some-clause-err : goal.returns-in_err-put-in-Some-clause-err
returns-in_err-put-in-Some-clause-err g c =
    on_err c.from_residual.result _
    (some_cut _ _ _ c.args.waiting.now.items c.args.numbers.now c.levels.rest.now c.levels.invariant.spelled c.in-Some.at _ c.digit_levels.ensures _ c.in_err-put-in-Some.ensures.err.0, search rules)

pub levels-preserved-in-Some : goal.levels-preserved-in-Some
levels-preserved-in-Some g c = record {
  spelled = some_more _ _ _ c.args.waiting.now.items c.args.numbers.now c.levels.rest.now c.levels.invariant.spelled c.in-Some.at _ c.digit_levels.ensures _ _ c.in_ok-put-in-Some.ensures.ok.0;
  failures = search rules;
}

pub returns-in_err-put_level-in-None-clause-err : goal.returns-in_err-put_level-in-None-clause-err
returns-in_err-put_level-in-None-clause-err g c =
    on_err c.from_residual-in_err-put_level-in-None.result _
    (one_cut _ _ _ c.args.waiting.now.items c.args.numbers.now c.levels.rest.now c.levels.invariant.spelled c.in-len1-up.len_at_least _ c.in_err-put_level-in-None.ensures.err.0, search rules)

pub levels-preserved : goal.levels-preserved
levels-preserved g c = record {
  spelled = one_more _ _ _ c.args.waiting.now.items c.args.numbers.now c.levels.rest.now c.levels.invariant.spelled c.in-len1-up.len_at_least _ _ c.in_ok-put_level-in-None.ensures.ok.0;
  failures = search rules;
}
