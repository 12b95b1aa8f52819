use Rattle.std.proofs.Common.{refl, subst, arith}
use Rattle.tb_verdict.specs.Judged.{Takes}
use Rattle.tb_verdict.specs.Held.{departures}
use Rattle.tb_verdict.proofs.HeldLemmas.{counted, refused, may_take, kept}
use Rattle.tb_verdict.proofs.RefusalLemmas.{mapped, on_err, on_err_then}
use Rattle.tb_verdict.proofs.judge.count_event.Goals as goal

pub returns-in_err-take-clause-err : goal.returns-in_err-take-clause-err
returns-in_err-take-clause-err c =
    on_err c.from_residual.result (λ first H holds. kept first H c.args.count.now c.args.step c.args.event c.args.state.now c.take.new.state holds c.in_err-take.ensures.err)

pub returns-in-None-clause-ok : goal.returns-in-None-clause-ok
returns-in-None-clause-ok c first H holds =
    let takes = subst (Takes c.args.step c.args.event c.args.state.now c.take.new.state) c.in-None.is c.in_ok-take.ensures.ok in
    let more = counted first H c.args.count.now c.args.step c.args.event c.args.state.now c.take.new.state holds takes (omega (arith, c.if-count-ge-MOST.false)) in
    (refl, more.0, more.1)

pub returns-in-Some-clause-ok : goal.returns-in-Some-clause-ok
returns-in-Some-clause-ok c first H holds =
    let takes = subst (Takes c.args.step c.args.event c.args.state.now c.take.new.state) c.in-Some.is c.in_ok-take.ensures.ok in
    refused first H c.args.count.now c.args.step c.args.event c.args.state.now c.take.new.state holds c.in-Some.refusal takes

pub take-requires-clause-run : goal.take-requires-clause-run
take-requires-clause-run c = (c.requires.run.0, 0, departures c.requires.run.1, c.requires.run.2.run)

pub returns-in_err-take-clause-memory : goal.returns-in_err-take-clause-memory
returns-in_err-take-clause-memory c =
    on_err c.from_residual.result (λ first H holds.
    may_take first H c.args.count.now c.args.step c.args.event c.args.state.now c.args.state.now holds c.in_err-take.ensures.memory)

pub refuse_event-requires-clause-run : goal.refuse_event-requires-clause-run
refuse_event-requires-clause-run c = (c.requires.run.0, 0, departures c.requires.run.1, c.requires.run.2.run)

pub returns-then-count-ge-MOST-clause-ok : goal.returns-then-count-ge-MOST-clause-ok
returns-then-count-ge-MOST-clause-ok c = mapped c.refuse_event.result c.refuse_event.ensures.ok (λ v counts first H holds. counts first H c.args.count.now holds)

pub returns-then-count-ge-MOST-clause-memory : goal.returns-then-count-ge-MOST-clause-memory
returns-then-count-ge-MOST-clause-memory c = on_err_then c.refuse_event.result c.refuse_event.ensures.memory (λ takes first H holds. takes first H c.args.count.now holds)
