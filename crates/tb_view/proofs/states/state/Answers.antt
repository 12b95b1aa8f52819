use Rattle.std.proofs.Common.{◌++◌, ap, append-nil, codes, sym, ◌∙◌}
use Rattle.std.specs.Fmt.{decimal}
use Rattle.tb_model.specs.Program.{instr_at}
use Rattle.tb_plan.specs.declared.config.Config.{Config}
use Rattle.tb_read.specs.Followed.{is_last}
use Rattle.tb_view.proofs.StateLemmas.{is_done, not_there, still_going}
use Rattle.tb_view.proofs.states.state.Goals as goal

pub returns-in_default : goal.returns-in_default
returns-in_default c = not_there c.args.program.now c.args.core.now.run c.args.task.now c.requires c.in_default.ensures.none

pub returns-then-not-has_ended_at : goal.returns-then-not-has_ended_at
returns-then-not-has_ended_at c =
    let here = c.in-Some.ensures.some.1 in
    let steps = c.steps.ensures ∙ ap (λ (k : Config). k.steps) (sym here) in
    let at = ap (λ (k : Config). k.at) here ∙ sym c.at-at.ensures in
    still_going c.args.program.now c.args.core.now.run c.args.task.now c.requires (λ z. c.if-steps-eq0.false (steps ∙ z)) (sym c.if-not-has_ended_at.ensures) ∙ ap (λ n. codes "running " ++ decimal n) at

pub returns : goal.returns
returns c =
    let here = c.in-Some.ensures.some.1 in
    let at = c.at-at.ensures ∙ ap (λ (k : Config). k.at) (sym here) in
    let last = c.is_last.ensures ∙ ap (λ n. is_last (instr_at c.args.program.now n).statement) at in
    is_done c.args.program.now c.args.core.now.run c.args.task.now c.requires c.is_last.result last (sym c.if-not-has_ended_at.ensures) ∙ sym c.ending.ensures ∙ sym (append-nil c.ending.result.now)
