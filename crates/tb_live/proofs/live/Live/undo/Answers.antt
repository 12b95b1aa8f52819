use Rattle.std.proofs.Common.{ap, sym, ◌∙◌, subst}
use Rattle.tb_core.specs.Seen.{history}
use Rattle.tb_next.specs.Floor.{IsFloor}
use Rattle.tb_live.specs.Session.{Held}
use Rattle.tb_live.proofs.PreparedLemmas.{no_room, may_roll}
use Rattle.tb_live.proofs.RunLemmas.{live_undoes}
use Rattle.tb_live.proofs.live.Live.undo.Goals as goal

pub enter_undo-requires : goal.enter_undo-requires
enter_undo-requires c =
    let i = c.self.inside in
    λ h. may_roll i.limit i.program i.core i.journal.items i.journal.room i.prepared c.args.seat c.args.id.now c.self.invariant.2 h

pub invariant_of-self : goal.invariant_of-self
invariant_of-self c =
    let i = c.self.inside in
    let l = live_undoes c.args.seat i.program i.limit i.journal.items c.enter_undo.new.journal.items i.control c.step_removed.new.self i.core.run c.enter_undo.new.core.run c.args.self.now.session c.args.id.now
    c.in-Ok.removed (ap (λ (h : Held). h.session) c.self.view_is) (c.self.invariant.0, c.self.invariant.1) (sym c.is_full.ensures ∙ c.if-is_full.false) c.in-Ok.ensures.undone c.step_removed.ensures
    in
    (l.sound, l.lawful, no_room i.limit i.program c.enter_undo.new.core c.enter_undo.new.journal.items c.enter_undo.new.journal.room c.enter_undo.new.prepared c.in-Ok.ensures.given_up, subst (IsFloor i.program (history c.enter_undo.new.core.run)) (sym c.forget.ensures) tt)

pub returns-in-Ok-clause-undone : goal.returns-in-Ok-clause-undone
returns-in-Ok-clause-undone c =
    let i = c.self.inside in
    (live_undoes c.args.seat i.program i.limit i.journal.items c.enter_undo.new.journal.items i.control c.step_removed.new.self i.core.run c.enter_undo.new.core.run c.args.self.now.session c.args.id.now
    c.in-Ok.removed (ap (λ (h : Held). h.session) c.self.view_is) (c.self.invariant.0, c.self.invariant.1) (sym c.is_full.ensures ∙ c.if-is_full.false) c.in-Ok.ensures.undone c.step_removed.ensures).undoes
