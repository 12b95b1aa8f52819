use Rattle.std.proofs.Common.{refl, sym, ◌∙◌, subst}
use Rattle.tb_model.specs.Lines.{events_of}
use Rattle.tb_verdict.specs.Memory.{MayTake}
use Rattle.tb_verdict.specs.Refusals.{refusal_of}
use Rattle.tb_verdict.proofs.HeldLemmas.{refused, may_take}
use Rattle.tb_verdict.proofs.RefusalLemmas.{may_if_long, on_err}
use Rattle.tb_verdict.proofs.judge.refuse_event.Goals as goal

pub returns-in-Some-clause-ok : goal.returns-in-Some-clause-ok
returns-in-Some-clause-ok c first H count holds =
    refused first H count c.args.step c.args.event.now c.args.state.now c.args.state.now holds c.in-Some.refusal
    (refl, λ first root_line D run. c.in_ok-refusal.ensures.ok first root_line D run ∙ c.in-Some.is)

pub returns-in_err-refusal-clause-memory : goal.returns-in_err-refusal-clause-memory
returns-in_err-refusal-clause-memory c =
    on_err c.from_residual.result (λ first H count holds.
    may_take first H count c.args.step c.args.event.now c.args.state.now c.args.state.now holds (λ first root_line D run.
    may_if_long (refusal_of first (events_of D) c.args.step c.args.event.now) (c.in_err-refusal.ensures.memory first root_line D run)))

pub returns-in-None-clause-memory : goal.returns-in-None-clause-memory
returns-in-None-clause-memory c first H count holds =
    may_take first H count c.args.step c.args.event.now c.args.state.now c.args.state.now holds (λ first root_line D run.
    subst MayTake (sym (c.in_ok-refusal.ensures.ok first root_line D run ∙ c.in-None.is)) tt)
