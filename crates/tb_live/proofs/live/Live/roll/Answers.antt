use Rattle.std.proofs.Common.{ap, subst, sym}
use Rattle.tb_core.specs.Seen.{history}
use Rattle.tb_next.specs.Floor.{IsFloor}
use Rattle.tb_live.specs.Session.{Held}
use Rattle.tb_live.proofs.PreparedLemmas.{no_room}
use Rattle.tb_live.proofs.RollLemmas.{live_rolls}
use Rattle.tb_live.proofs.live.Live.roll.Goals as goal

pub invariant_of-self : goal.invariant_of-self
invariant_of-self c =
    let i = c.self.inside in
    let l = live_rolls c.args.seat i.program i.limit i.journal.items c.enter_roll.new.journal.items i.control c.steps_removed.new.self i.core.run c.enter_roll.new.core.run c.args.self.now.session c.args.id.now c.in-Ok.removed.items c.deref.result.now
    (ap (λ (h : Held). h.session) c.self.view_is) (c.self.invariant.0, c.self.invariant.1) c.in-Ok.ensures.rolled c.deref.ensures.value c.steps_removed.ensures
    in
    (l.keeps.sound, l.keeps.lawful, no_room i.limit i.program c.enter_roll.new.core c.enter_roll.new.journal.items c.enter_roll.new.journal.room c.forget.new.place c.forget.ensures, subst (IsFloor i.program (history c.enter_roll.new.core.run)) (sym c.forget-in-Ok.ensures) tt)

pub returns-in-Ok-clause-rolled : goal.returns-in-Ok-clause-rolled
returns-in-Ok-clause-rolled c =
    let i = c.self.inside in
    (live_rolls c.args.seat i.program i.limit i.journal.items c.enter_roll.new.journal.items i.control c.steps_removed.new.self i.core.run c.enter_roll.new.core.run c.args.self.now.session c.args.id.now c.in-Ok.removed.items c.deref.result.now
    (ap (λ (h : Held). h.session) c.self.view_is) (c.self.invariant.0, c.self.invariant.1) c.in-Ok.ensures.rolled c.deref.ensures.value c.steps_removed.ensures).rolls
