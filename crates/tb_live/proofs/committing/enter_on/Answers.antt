use Rattle.std.proofs.Common.{ap}
use Rattle.tb_live.proofs.GoingLemmas.{claimed_within, entered_on, still_within}
use Rattle.tb_live.proofs.WorkLemmas.{with_claims}
use Rattle.tb_live.proofs.committing.enter_on.Goals as goal

pub take-claim-requires : goal.take-claim-requires
take-claim-requires c = claimed_within c.args.control.now.claims c.args.seat c.args.plan.config.task c.requires.claimed

pub set-requires : goal.set-requires
set-requires c =
    let e = c.enter_plan-entered in
    still_within c.args.limit c.args.seat c.args.core.now.run c.args.plan e.new.core.run c.args.journal.now.items e.new.journal.items c.args.control.now e.new.control c.take-claim.new.self e.result
    (claimed_within c.args.control.now.claims c.args.seat c.args.plan.config.task c.requires.claimed) c.take-claim.ensures.after e.ensures.entered

pub returns-clause-entered : goal.returns-clause-entered
returns-clause-entered c =
    let e = c.enter_plan-entered in
    entered_on c.args.limit c.args.seat c.args.core.now.run c.args.plan e.new.core.run c.args.journal.now.items e.new.journal.items c.args.control.now e.new.control
    (with_claims e.new.control c.set.new.self) c.take-claim.new.self c.take-claim.result e.result c.requires.claimed c.take-claim.ensures.claim c.take-claim.ensures.after e.ensures.entered (ap (with_claims e.new.control) c.set.ensures)
