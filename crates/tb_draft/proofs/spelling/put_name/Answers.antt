use Rattle.std.proofs.Common.{rules, sym, ap, length, ◌==◌, ◌∙◌, ◌++◌, ◌∷◌, []}
use Rattle.tb_model.specs.Spelling.{levels_text}
use Rattle.tb_draft.proofs.PassageLemmas.{named, name_cut, last_run, name_put, none_left, none_spelled, run_cut, run_more, spelled_more, spelled_cut, spelled_as}
use Rattle.tb_draft.proofs.WrittenLemmas.{first_cut, on_err}
use Rattle.tb_draft.proofs.spelling.put_name.Goals as goal

pub returns-in_err-put-clause-err : goal.returns-in_err-put-clause-err
returns-in_err-put-clause-err g c =
    on_err c.from_residual.result _ (first_cut _ _ c.args.waiting.now.items (48 ∷ []) (levels_text c.args.name.now) _ (named c.args.name.now) c.in_err-put.ensures.err.0, search rules)

pub spelled-init : goal.spelled-init
spelled-init g c = record {
  spelled = none_spelled _ _ _ (c.args.waiting.now.items ++ 48 ∷ []) c.args.name.now c.parts-parts.result (sym c.parts-parts.ensures) c.in_ok-put.ensures.ok.0;
  failures = search rules;
}

pub spelled-preserved : goal.spelled-preserved
spelled-preserved g c = record {
  spelled = spelled_more _ _ _ (c.args.waiting.now.items ++ 48 ∷ []) c.args.name.now c.spelled.parts c.take_spelled.new.self c.in-Some.field-0-0.now c.in-Some.text.now
      c.spelled.invariant.spelled c.in-Some.ensures.split c.in-Some.ensures.text _ _ c.in_ok-put-2.ensures.ok.0;
  failures = search rules;
}

pub returns-in_err-put-2-clause-err : goal.returns-in_err-put-2-clause-err
returns-in_err-put-2-clause-err g c =
    on_err c.from_residual-in_err-put-2.result _ (
      name_cut _ _ c.args.waiting.now.items c.args.name.now
          (spelled_cut _ _ _ (c.args.waiting.now.items ++ 48 ∷ []) c.args.name.now c.spelled.parts c.take_spelled.new.self c.in-Some.field-0-0.now c.in-Some.text.now
          c.spelled.invariant.spelled c.in-Some.ensures.split c.in-Some.ensures.text _ c.in_err-put-2.ensures.err.0),
      search rules,
    )

pub runs-init : goal.runs-init
runs-init g c = record {
  spelled = spelled_as _ _ _ (c.args.waiting.now.items ++ 48 ∷ []) c.args.name.now _ _ (sym c.in_default.ensures.none ∙ c.take_run-run.ensures.split) c.spelled.invariant.spelled;
  last = λ none. none_left _ _ (sym c.take_run-run.ensures.split ∙ c.take_run-run.ensures.none none);
  failures = search rules;
}

pub returns-in_err-put_levels-clause-err : goal.returns-in_err-put_levels-clause-err
returns-in_err-put_levels-clause-err g c =
    on_err c.from_residual-in_err-put_levels.result _ (
      name_cut _ _ c.args.waiting.now.items c.args.name.now
          (run_cut _ _ _ (c.args.waiting.now.items ++ 48 ∷ []) c.args.name.now c.runs.parts c.runs.run _ c.runs.invariant.spelled (ap levels_text c.as_slice-in-runs.ensures) _ c.in_err-put_levels.ensures.err.0),
      search rules,
    )

pub runs-preserved : goal.runs-preserved
runs-preserved g c = record {
  spelled = run_more _ _ _ (c.args.waiting.now.items ++ 48 ∷ []) c.args.name.now c.runs.parts c.runs.run _ c.runs.invariant.spelled (ap levels_text c.as_slice-in-runs.ensures) _ _ c.take_run-run-in-runs.new.self c.take_run-run-in-runs.result c.in_ok-put_levels.ensures.ok.0 c.take_run-run-in-runs.ensures.split;
  last = λ none. none_left _ _ (sym c.take_run-run-in-runs.ensures.split ∙ c.take_run-run-in-runs.ensures.none none);
  failures = search rules;
}

pub returns-clause-ok : goal.returns-clause-ok
returns-clause-ok g c =
    let empty = c.is_empty.ensures ∙ ap (λ r. length r == 0) c.as_slice.ensures in (
      name_put _ _ _ c.args.waiting.now.items c.args.name.now (c.runs.parts ++ c.runs.run) (last_run c.runs.parts c.runs.run _ empty c.runs-test.false c.runs.invariant.last) c.runs.invariant.spelled,
      search rules,
    )
