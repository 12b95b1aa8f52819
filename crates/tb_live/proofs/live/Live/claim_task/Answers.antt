use Rattle.std.proofs.Common.{ap}
use Rattle.tb_live.proofs.WorkLemmas.{lawful_task, live_claims_task}
use Rattle.tb_live.specs.Session.{Held}
use Rattle.tb_live.proofs.live.Live.claim_task.Goals as goal

pub invariant_of-self : goal.invariant_of-self
invariant_of-self c =
    let i = c.self.inside in
    (c.self.invariant.0, lawful_task i.program i.limit i.journal.items i.control i.core.run c.args.self.now.session (ap (λ (h : Held). h.session) c.self.view_is) c.self.invariant.0 c.args.seat c.args.task.now c.in-Ok.name c.give.new.self c.in_default.ensures.none c.in-Ok.ensures.0 c.give.ensures c.self.invariant.1, c.self.invariant.2, c.self.invariant.3)

pub returns-in-Ok-clause-claimed : goal.returns-in-Ok-clause-claimed
returns-in-Ok-clause-claimed c =
    let i = c.self.inside in
    live_claims_task i.program i.limit i.journal.items i.control i.core.run c.args.self.now.session (ap (λ (h : Held). h.session) c.self.view_is) c.self.invariant.0 c.args.seat c.args.task.now c.in-Ok.name c.give.new.self c.in-Ok.work c.in_default.ensures.none c.in-Ok.ensures.0 c.in-Ok.ensures.1 c.give.ensures
