use Rattle.std.proofs.Common.{sym, ◌∙◌}
use Rattle.tb_next.proofs.NativeLemmas.{native_fits}
use Rattle.tb_live.proofs.CommitLemmas.{readied_so}
use Rattle.tb_live.proofs.PreparedLemmas.{event_room, event_taken}
use Rattle.tb_live.proofs.committing.event_for.Goals as goal

pub refusal-requires : goal.refusal-requires
refusal-requires c = native_fits c.args.program.now c.args.core.now.run c.args.plan.now c.requires.fits c.requires.native

pub ready_step-requires-clause-fits : goal.ready_step-requires-clause-fits
ready_step-requires-clause-fits c = native_fits c.args.program.now c.args.core.now.run c.args.plan.now c.requires.fits c.requires.native

pub returns-in-Ok-clause-serves : goal.returns-in-Ok-clause-serves
returns-in-Ok-clause-serves c = c.ready_step.ensures.serves c.args.program.now c.requires.room

pub returns-in-Err-clause-serves : goal.returns-in-Err-clause-serves
returns-in-Err-clause-serves c = c.ready_step.ensures.serves c.args.program.now c.requires.room

-- what is prepared serves
pub returns-clause-readied : goal.returns-clause-readied
returns-clause-readied c =
    let spare = c.args.journal.now.room in
    let k = event_room c.args.limit c.args.program.now c.args.core.now c.args.journal.now.items spare c.args.prepared.now c.args.seat c.args.plan.now.config.task c.in-Some-take_step.event
    c.requires.room (c.holds_step.ensures.0 c.if-not-holds_step.false) (sym c.take_step.ensures.event ∙ c.in-Some-take_step.is)
    in
    readied_so c.args.limit c.args.program.now c.args.core.now c.args.journal.now.items spare c.args.plan.now c.in-Some-take_step.event c.requires.fits c.requires.native k.0 k.1 c.in_default.ensures.none

pub unreachable-requires : goal.unreachable-requires
unreachable-requires c = event_taken c.args.prepared.now c.args.seat c.args.plan.now.config.task (c.holds_step.ensures.0 c.if-not-holds_step.false) (sym c.take_step.ensures.event ∙ c.in-None.is)
