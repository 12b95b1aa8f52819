use Rattle.std.proofs.Common.{rules, ◌+◌, arith}
use Rattle.tb_draft.proofs.WrittenLemmas.{on_err, told_passed}
use Rattle.tb_view.proofs.CountLemmas.{counted, few, read_at}
use Rattle.tb_replies.proofs.HistoryLemmas.{line_waits, lines_begun, lines_cut, lines_told}
use Rattle.tb_replies.proofs.history.tell_steps.Goals as goal

pub append_next-requires : goal.append_next-requires
append_next-requires g c = few c.args.entries.now c.steps.at c.steps.counts _ (omega arith) c.requires.few c.steps.invariant.counts

pub returns-in_err-append_next-clause-err : goal.returns-in_err-append_next-clause-err
returns-in_err-append_next-clause-err g c =
    on_err c.from_residual.result _ (lines_begun c.args.program.now c.args.entries.now c.args.text.now _ _ c.steps.at _ c.steps.invariant.told)

pub returns-in_err-pass_on-clause-err : goal.returns-in_err-pass_on-clause-err
returns-in_err-pass_on-clause-err g c =
    let is = read_at c.args.entries.now c.steps.at c.task.result.now c.action.result.now (omega arith) c.task.ensures c.action.ensures in
    let waits = line_waits c.args.program.now c.args.entries.now c.args.text.now _ _ c.steps.at _ c.steps.counts _ _
    is c.steps.invariant.counts c.steps.invariant.told c.in_ok-append_next.ensures.text in
    on_err c.from_residual-in_err-pass_on.result _ (lines_cut c.args.program.now c.args.entries.now c.args.text.now _ _ _ (c.steps.at + 1) _ waits c.in_err-pass_on.ensures.err.0)

pub steps-preserved : goal.steps-preserved
steps-preserved g c =
    let is = read_at c.args.entries.now c.steps.at c.task.result.now c.action.result.now (omega arith) c.task.ensures c.action.ensures in
    let waits = line_waits c.args.program.now c.args.entries.now c.args.text.now _ _ c.steps.at _ c.steps.counts _ _
    is c.steps.invariant.counts c.steps.invariant.told c.in_ok-append_next.ensures.text in record {
      counts = counted c.args.entries.now c.steps.at _ _ _ is c.steps.invariant.counts c.in_ok-append_next.ensures.counts;
      told = told_passed _ _ _ _ _ _ waits c.in_ok-pass_on.ensures.ok.0;
      failures = search rules;
    }

pub returns-clause-told : goal.returns-clause-told
returns-clause-told g c = lines_told c.args.program.now c.args.entries.now c.args.text.now _ _ c.steps.at _ (omega arith) c.steps.invariant.told
