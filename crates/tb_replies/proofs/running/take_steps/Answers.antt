use Rattle.std.proofs.Common.{rules, ◌+◌}
use Rattle.tb_replies.proofs.CourseLemmas.{taken_after}
use Rattle.tb_draft.proofs.WrittenLemmas.{on_err}
use Rattle.tb_replies.proofs.ToldLemmas.{step_waits, steps_begin, steps_cut, steps_full}
use Rattle.tb_draft.proofs.WrittenLemmas.{told_passed}
use Rattle.tb_replies.proofs.running.take_steps.Goals as goal

pub returns-in_err-append_newest-in-Ok-Some-clause-err : goal.returns-in_err-append_newest-in-Ok-Some-clause-err
returns-in_err-append_newest-in-Ok-Some-clause-err g c =
    on_err c.from_residual.result _ (steps_begin c.args.text.now c.args.most c.args.live.now.session _ _ c.steps.count c.steps.live.session _ c.steps.invariant.told)

pub returns-in-Err-Memory-clause-err : goal.returns-in-Err-Memory-clause-err
returns-in-Err-Memory-clause-err g c = steps_begin c.args.text.now c.args.most c.args.live.now.session _ _ c.steps.count c.steps.live.session _ c.steps.invariant.told

pub returns-in_err-pass_on-clause-err : goal.returns-in_err-pass_on-clause-err
returns-in_err-pass_on-clause-err g c =
    let stepped = rw c.in-Ok-Some.field-0-is at c.in-Ok-Some.ensures.stepped in
    let taken = taken_after c.steps.live.session c.resume.new.self.session _ c.in-Ok-Some.id c.resume.ensures stepped in
    let new = c.step_least.new.self.session in
    let waits = step_waits c.args.text.now c.args.most c.args.live.now.session _ _ c.steps.count c.steps.live.session new _ _ c.in-Ok-Some.id c.steps-test.true c.steps.invariant.told taken c.in_ok-append_newest-in-Ok-Some.ensures in
    on_err c.from_residual-in_err-pass_on.result _ (steps_cut c.args.text.now c.args.most c.args.live.now.session _ _ _ (c.steps.count + 1) new _ waits c.in_err-pass_on.ensures.err.0)

pub steps-preserved : goal.steps-preserved
steps-preserved g c =
    let stepped = rw c.in-Ok-Some.field-0-is at c.in-Ok-Some.ensures.stepped in
    let taken = taken_after c.steps.live.session c.resume.new.self.session _ c.in-Ok-Some.id c.resume.ensures stepped in
    let waits = step_waits c.args.text.now c.args.most c.args.live.now.session _ _ c.steps.count c.steps.live.session c.step_least.new.self.session _ _ c.in-Ok-Some.id c.steps-test.true c.steps.invariant.told taken c.in_ok-append_newest-in-Ok-Some.ensures in record {
      within = search rules;
      told = told_passed _ _ _ _ _ _ waits c.in_ok-pass_on.ensures.ok.0;
      failures = search rules;
    }

pub returns-in-Err-Full-clause-told : goal.returns-in-Err-Full-clause-told
returns-in-Err-Full-clause-told g c =
    let stepped = rw c.in-Err-Full.field-0-is at c.in-Err-Full.ensures.stepped in
    steps_full c.args.text.now c.args.most c.args.live.now.session _ _ c.steps.count c.steps.live.session c.resume.new.self.session c.step_least.new.self.session _ c.steps-test.true c.resume.ensures stepped c.steps.invariant.told
