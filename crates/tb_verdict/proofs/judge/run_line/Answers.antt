use Rattle.std.proofs.Common.{◌≡◌, [], Ok, Some, sym, ap, ◌∙◌, subst}
use Rattle.tb_runs.specs.Lines.{line_said}
use Rattle.tb_runs.specs.declared.said.Said.TheVariants as says
use Rattle.tb_runs.specs.declared.said.Stage.TheVariants as stage
use Rattle.tb_runs.proofs.LineLemmas.{line_allowed}
use Rattle.tb_verdict.proofs.HeldLemmas.{runs_on}
use Rattle.tb_verdict.proofs.RefusalLemmas.{mapped}
use Rattle.tb_verdict.proofs.judge.run_line.Goals as goal

pub count_event-requires-clause-allowed : goal.count_event-requires-clause-allowed
count_event-requires-clause-allowed c =
    let said : line_said [] (stage.Events c.args.state.now.cells) c.args.line.now ≡ Ok (Some (says.Event c.in-Ok-Some-Event.step c.in-Ok-Some-Event.event)) =
    c.in-Ok-Some-Event.ensures.ok ∙ ap Ok (let a = c.in-Ok-Some-Event.field-0-is in let b = c.in-Ok-Some-Event.field-0-0-is in cc) in
    line_allowed [] (stage.Events c.args.state.now.cells) c.args.line.now c.in-Ok-Some-Event.step c.in-Ok-Some-Event.event said

pub returns-in-Ok-Some-Event-clause-ok : goal.returns-in-Ok-Some-Event-clause-ok
returns-in-Ok-Some-Event-clause-ok c =
    let said : line_said [] (stage.Events c.args.state.now.cells) c.args.line.now ≡ Ok (Some (says.Event c.in-Ok-Some-Event.step c.in-Ok-Some-Event.event)) =
    c.in-Ok-Some-Event.ensures.ok ∙ ap Ok (let a = c.in-Ok-Some-Event.field-0-is in let b = c.in-Ok-Some-Event.field-0-0-is in cc) in
    mapped c.count_event.result c.count_event.ensures.ok (λ ending counts first H holds.
    runs_on first H c.in-Ok-Some-Event.step c.in-Ok-Some-Event.event c.args.line.now c.count_event.new.count c.count_event.new.state ending
    (subst (λ n. line_said [] (stage.Events n) c.args.line.now ≡ Ok (Some (says.Event c.in-Ok-Some-Event.step c.in-Ok-Some-Event.event))) holds.run.cells said) (counts first H holds))
