use Rattle.std.proofs.Common.{rules}
use Rattle.tb_draft.proofs.PassageLemmas.{all_passed, none_passed, passed_cut, passed_more}
use Rattle.tb_draft.proofs.WrittenLemmas.{on_err}
use Rattle.tb_draft.proofs.spelling.put_passages.Goals as goal

pub returns-in_err-put_passage-clause-err : goal.returns-in_err-put_passage-clause-err
returns-in_err-put_passage-clause-err g c =
    on_err c.from_residual.result _
    (passed_cut _ _ _ c.args.waiting.now.items c.args.passages.now c.passages.passage-index c.passage-item.result c.passages-test.true c.passage-item.is c.passages.invariant.passed _ c.in_err-put_passage.ensures.err.0, search rules)

pub passages-preserved : goal.passages-preserved
passages-preserved g c = record {
  passed = passed_more _ _ _ c.args.waiting.now.items c.args.passages.now c.passages.passage-index c.passage-item.result c.passages-test.true c.passage-item.is c.passages.invariant.passed _ _ c.in_ok-put_passage.ensures.ok.0;
  failures = search rules;
}

pub returns-clause-ok : goal.returns-clause-ok
returns-clause-ok g c = (all_passed _ _ _ c.args.waiting.now.items c.args.passages.now c.passages.passage-index c.passages-test.false c.passages.invariant.passed, search rules)

pub passages-init : goal.passages-init
passages-init g c = record {
  passed = none_passed _ c.args.waiting.now.items c.args.passages.now;
  failures = search rules;
}
