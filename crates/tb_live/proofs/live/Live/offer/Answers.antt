use Rattle.std.proofs.Common.{ap, sym, ◌∙◌}
use Rattle.tb_control.specs.Claims.{with_claim}
use Rattle.tb_live.proofs.WorkLemmas.{lawful_found, live_offers, offers_done}
use Rattle.tb_live.specs.Session.{Held}
use Rattle.tb_live.proofs.live.Live.offer.Goals as goal

pub invariant_of-self-in-Ok : goal.invariant_of-self-in-Ok
invariant_of-self-in-Ok c =
    let i = c.self.inside in
    (c.self.invariant.0, lawful_found i.program i.limit i.journal.items i.control i.core.run c.args.self.now.session (ap (λ (h : Held). h.session) c.self.view_is) c.self.invariant.0 c.args.seat c.in-Ok.offer c.set.new.self c.in-Ok.ensures.found.1 (c.set.ensures ∙ ap (with_claim i.control.claims c.args.seat) c.in-Ok.ensures.found.0) c.self.invariant.1, c.self.invariant.2, c.in-Ok.ensures.floor)

pub returns-in-Ok-clause-ok : goal.returns-in-Ok-clause-ok
returns-in-Ok-clause-ok c =
    let i = c.self.inside in
    live_offers i.program i.limit i.journal.items i.control i.core.run c.args.self.now.session (ap (λ (h : Held). h.session) c.self.view_is) c.self.invariant.0 c.args.seat c.in-Ok.offer c.set.new.self (sym c.is_paused.ensures ∙ c.if-is_paused.false) (sym c.is_full.ensures ∙ c.if-is_full.false) c.in-Ok.ensures.found.1
    (c.set.ensures ∙ ap (with_claim i.control.claims c.args.seat) c.in-Ok.ensures.found.0)

pub returns-in-Ok-clause-done : goal.returns-in-Ok-clause-done
returns-in-Ok-clause-done c =
    let i = c.self.inside in
    let s = c.args.self.now.session in
    let shows = ap (λ (h : Held). h.session) c.self.view_is in
    offers_done i.program i.limit i.journal.items i.control i.core.run s shows c.self.invariant.0 c.args.seat _ c.in-Ok.offer
    (live_offers i.program i.limit i.journal.items i.control i.core.run s shows c.self.invariant.0 c.args.seat c.in-Ok.offer c.set.new.self (sym c.is_paused.ensures ∙ c.if-is_paused.false) (sym c.is_full.ensures ∙ c.if-is_full.false) c.in-Ok.ensures.found.1
    (c.set.ensures ∙ ap (with_claim i.control.claims c.args.seat) c.in-Ok.ensures.found.0))
