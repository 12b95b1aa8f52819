use Rattle.std.proofs.Common.{◌≤◌, arith, ap, length, reverse, subst, sym}
use Rattle.tb_core.specs.Seen.{Seen, history}
use Rattle.tb_next.specs.Floor.{IsFloor}
use Rattle.tb_live.specs.Session.{Held, with_limit}
use Rattle.tb_live.proofs.PreparedLemmas.{no_room}
use Rattle.tb_live.proofs.RunLemmas.{limited, steps_within}
use Rattle.tb_live.proofs.live.Live.set_limit.Goals as goal

pub set_limit-requires-clause-within : goal.set_limit-requires-clause-within
set_limit-requires-clause-within c =
    let i = c.self.inside in
    let within : length (reverse i.journal.items) ≤ c.args.limit = omega (arith, ap (λ (h : Held). length h.session.journal) c.self.view_is, c.requires.within) in
    steps_within i.program i.limit c.args.limit (reverse i.journal.items) i.core.run c.self.invariant.0 within

pub invariant_of-self : goal.invariant_of-self
invariant_of-self c =
    let i = c.self.inside in
    let within : length (reverse i.journal.items) ≤ c.args.limit = omega (arith, ap (λ (h : Held). length h.session.journal) c.self.view_is, c.requires.within) in (
      limited i.program i.limit c.args.limit (reverse i.journal.items) i.core.run c.set_limit.new.self.run c.self.invariant.0 within c.requires.bound c.set_limit.ensures.run,
      c.self.invariant.1,
      no_room c.args.limit i.program c.set_limit.new.self i.journal.items i.journal.room c.forget.new.place c.forget.ensures,
      subst (λ (z : Seen). IsFloor i.program (history z) i.floor) (sym c.set_limit.ensures.run) c.self.invariant.3,
    )

pub returns : goal.returns
returns c = ap (λ (h : Held). with_limit c.args.limit h.session) c.self.view_is
