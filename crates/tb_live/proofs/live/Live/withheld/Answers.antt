use Rattle.std.proofs.Common.{ap, rules}
use Rattle.tb_live.specs.Session.{Held}
use Rattle.tb_live.proofs.CommitLemmas.{claimed_so, foreign_refused, foreign_blocks}
use Rattle.tb_live.proofs.live.Live.withheld.Goals as goal

pub returns-in-Some-clause-some : goal.returns-in-Some-clause-some
returns-in-Some-clause-some c =
    let i = c.self.inside in (
      claimed_so i.program i.limit i.journal.items i.control c.args.self.now.session (ap (λ (h : Held). h.session) c.self.view_is) c.args.seat c.args.plan.now c.is_paused.result c.is_by.result c.is_paused.ensures c.if-is_paused.false c.is_by.ensures (search rules),
      foreign_refused i.program i.limit i.journal.items i.control i.core.run c.args.self.now.session (ap (λ (h : Held). h.session) c.self.view_is) c.self.invariant.0 c.args.seat c.args.plan.now c.in-Some.refusal c.in-Some.ensures.some,
    )

pub returns-in-Some-clause-blocked : goal.returns-in-Some-clause-blocked
returns-in-Some-clause-blocked c =
    let i = c.self.inside in
    λ some m. foreign_blocks i.program i.limit i.journal.items i.control i.core.run c.args.self.now.session (ap (λ (h : Held). h.session) c.self.view_is) c.self.invariant.0 c.args.seat c.args.plan.now c.in-Some.refusal c.in-Some.ensures.some m
