use Rattle.std.proofs.Common.{◌∙◌, ◌-◌, refl, sym, ap, subst, arith, Some}
use Rattle.std.specs.Result.{IsOk}
use Rattle.std.specs.Vec.{vec_capacity, vec_len}
use Rattle.tb_places.specs.Places.{HasRoomAs}
use Rattle.std.proofs.lemmas.Bool.{false≢true}
use Rattle.tb_model.specs.declared.event.Event.{Event}
use Rattle.tb_core.specs.Seen.{Held}
use Rattle.tb_core.specs.Filling.{spare_spawn}
use Rattle.tb_core.proofs.ShownLemmas.{open_takes, takes_steps}
use Rattle.tb_core.proofs.NumberLemmas.{named_next}
use Rattle.tb_core.proofs.TakenLemmas.{none_reserved, ahead, filled, fills, follows, few_steps, takes_so}
use Rattle.tb_core.specs.Storing.{entries_in}
use Rattle.tb_core.proofs.HeldLemmas.{on_err, stays, stays_so, entered}
use Rattle.tb_core.proofs.run.Core.take.Goals as goal

pub returns-in_err-event-clause-room : goal.returns-in_err-event-clause-room
returns-in_err-event-clause-room c reserved none =
    let i = c.self.inside in
    let is = ap (λ (h : Held). h.run) c.self.view_is in
    absurd (false≢true (subst IsOk c.in_err-event.was (c.fill_in.ensures.room _
    (fills i.first.items i.root_line i.limit (entries_in i.tables i.entries.items) i.tables c.self.invariant.0 c.args.self.now.run is c.args.plan.config.task c.args.plan.action (open_takes c.args.self.now.run c.args.plan c.requires.fits c.requires.ready) _ refl) (sym (ap spare_spawn reserved) ∙ none))))

pub apply-requires : goal.apply-requires
apply-requires c =
    let i = c.self.inside in
    let is = ap (λ (h : Held). h.run) c.self.view_is in
    let event = filled i.first.items i.root_line i.limit (entries_in i.tables i.entries.items) i.tables c.self.invariant.0 c.args.self.now.run is c.args.plan.config.task c.args.plan.action (open_takes c.args.self.now.run c.args.plan c.requires.fits c.requires.ready) c.in_ok-event.event c.in_ok-event.ensures.ok in
    ahead i.first.items i.root_line i.limit (entries_in i.tables i.entries.items) i.tables c.self.invariant.0 c.args.self.now.run is c.in_ok-event.event (follows i.first.items i.root_line i.limit (entries_in i.tables i.entries.items) i.tables c.self.invariant.0 c.args.self.now.run is c.args.plan.config.task c.args.plan.action (open_takes c.args.self.now.run c.args.plan c.requires.fits c.requires.ready) c.in_ok-event.event event) c.requires.ready.room

pub number_in-number-requires : goal.number_in-number-requires
number_in-number-requires c =
    let i = c.self.inside in
    let is = ap (λ (h : Held). h.run) c.self.view_is in
    let may = open_takes c.args.self.now.run c.args.plan c.requires.fits c.requires.ready in
    let event = filled i.first.items i.root_line i.limit (entries_in i.tables i.entries.items) i.tables c.self.invariant.0 c.args.self.now.run is c.args.plan.config.task c.args.plan.action may c.in_ok-event.event c.in_ok-event.ensures.ok in
    named_next i.first.items i.root_line i.limit (entries_in i.tables i.entries.items) i.tables c.self.invariant.0 c.args.self.now.run is c.in_ok-event.event
    (follows i.first.items i.root_line i.limit (entries_in i.tables i.entries.items) i.tables c.self.invariant.0 c.args.self.now.run is c.args.plan.config.task c.args.plan.action may c.in_ok-event.event event)

pub invariant_of-self : goal.invariant_of-self
invariant_of-self c =
    let i = c.self.inside in
    let h = stays_so i.first.items i.root_line i.limit i.entries.items i.tables i.places i.reserved (vec_capacity i.entries - vec_len i.entries) c.self.invariant.0 c.self.invariant.1 c.self.invariant.2 c.self.invariant.3 c.reserve.new.self.items (vec_capacity c.reserve.new.self - vec_len c.reserve.new.self) i.places c.reserve.ensures.items (omega (arith, c.reserve.ensures.capacity, c.reserve.ensures.len)) (λ ks es index. index) (λ n a room. room) in
    (h.sound', h.has', h.index', h.stored')

pub returns-in_err-reserve-clause-err : goal.returns-in_err-reserve-clause-err
returns-in_err-reserve-clause-err c =
    let i = c.self.inside in
    on_err _ _ ((stays_so i.first.items i.root_line i.limit i.entries.items i.tables i.places i.reserved (vec_capacity i.entries - vec_len i.entries) c.self.invariant.0 c.self.invariant.1 c.self.invariant.2 c.self.invariant.3 c.reserve.new.self.items (vec_capacity c.reserve.new.self - vec_len c.reserve.new.self) i.places c.reserve.ensures.items (omega (arith, c.reserve.ensures.capacity, c.reserve.ensures.len)) (λ ks es index. index) (λ n a room. room)).same ∙ c.self.view_is)

pub invariant_of-self-in_err-reserve-2 : goal.invariant_of-self-in_err-reserve-2
invariant_of-self-in_err-reserve-2 c =
    let i = c.self.inside in
    let h = stays_so i.first.items i.root_line i.limit i.entries.items i.tables i.places i.reserved (vec_capacity i.entries - vec_len i.entries) c.self.invariant.0 c.self.invariant.1 c.self.invariant.2 c.self.invariant.3 c.reserve.new.self.items (vec_capacity c.reserve.new.self - vec_len c.reserve.new.self) c.reserve-2.new.self c.reserve.ensures.items (omega (arith, c.reserve.ensures.capacity, c.reserve.ensures.len)) c.reserve-2.ensures.same c.reserve-2.ensures.keeps in
    (h.sound', h.has', h.index', h.stored')

pub returns-in_err-reserve-2-clause-err : goal.returns-in_err-reserve-2-clause-err
returns-in_err-reserve-2-clause-err c =
    let i = c.self.inside in
    on_err _ _ ((stays_so i.first.items i.root_line i.limit i.entries.items i.tables i.places i.reserved (vec_capacity i.entries - vec_len i.entries) c.self.invariant.0 c.self.invariant.1 c.self.invariant.2 c.self.invariant.3 c.reserve.new.self.items (vec_capacity c.reserve.new.self - vec_len c.reserve.new.self) c.reserve-2.new.self c.reserve.ensures.items (omega (arith, c.reserve.ensures.capacity, c.reserve.ensures.len)) c.reserve-2.ensures.same c.reserve-2.ensures.keeps).same ∙ c.self.view_is)

pub invariant_of-self-in_err-replaced : goal.invariant_of-self-in_err-replaced
invariant_of-self-in_err-replaced c =
    let i = c.self.inside in
    let h = stays i.first.items i.root_line i.limit i.entries.items i.tables i.places i.reserved (vec_capacity i.entries - vec_len i.entries) c.self.invariant.0 c.self.invariant.1 c.self.invariant.2 c.self.invariant.3 c.reserve.new.self.items (vec_capacity c.reserve.new.self - vec_len c.reserve.new.self) c.apply.new.self c.reserve-2.new.self c.reserve.ensures.items (omega (arith, c.reserve.ensures.capacity, c.reserve.ensures.len)) c.in_err-replaced.ensures.err c.apply.ensures.names c.in_err-replaced.ensures.keeps c.reserve-2.ensures.same c.reserve-2.ensures.keeps in
    (h.sound', h.has', h.index', h.stored')

pub returns-in_err-replaced-clause-err : goal.returns-in_err-replaced-clause-err
returns-in_err-replaced-clause-err c =
    let i = c.self.inside in
    on_err _ _ ((stays i.first.items i.root_line i.limit i.entries.items i.tables i.places i.reserved (vec_capacity i.entries - vec_len i.entries) c.self.invariant.0 c.self.invariant.1 c.self.invariant.2 c.self.invariant.3 c.reserve.new.self.items (vec_capacity c.reserve.new.self - vec_len c.reserve.new.self) c.apply.new.self c.reserve-2.new.self c.reserve.ensures.items (omega (arith, c.reserve.ensures.capacity, c.reserve.ensures.len)) c.in_err-replaced.ensures.err c.apply.ensures.names c.in_err-replaced.ensures.keeps c.reserve-2.ensures.same c.reserve-2.ensures.keeps).same ∙ c.self.view_is)

pub returns-in_err-replaced-clause-room : goal.returns-in_err-replaced-clause-room
returns-in_err-replaced-clause-room c reserved none =
    let i = c.self.inside in
    let is = ap (λ (h : Held). h.run) c.self.view_is in
    let held = ap (λ (h : Held). h.reserved) c.self.view_is ∙ reserved in
    let event = filled i.first.items i.root_line i.limit (entries_in i.tables i.entries.items) i.tables c.self.invariant.0 c.args.self.now.run is c.args.plan.config.task c.args.plan.action (open_takes c.args.self.now.run c.args.plan c.requires.fits c.requires.ready) c.in_ok-event.event c.in_ok-event.ensures.ok in
    absurd (false≢true (subst IsOk c.in_err-replaced.was (c.apply.ensures.succeeds (c.self.invariant.1.tables c.in_ok-event.event (held ∙ ap Some (sym event))))))

pub returns-in_err-reserve-2-clause-room : goal.returns-in_err-reserve-2-clause-room
returns-in_err-reserve-2-clause-room c reserved none =
    let i = c.self.inside in
    let is = ap (λ (h : Held). h.run) c.self.view_is in
    let held = ap (λ (h : Held). h.reserved) c.self.view_is ∙ reserved in
    let event = filled i.first.items i.root_line i.limit (entries_in i.tables i.entries.items) i.tables c.self.invariant.0 c.args.self.now.run is c.args.plan.config.task c.args.plan.action (open_takes c.args.self.now.run c.args.plan c.requires.fits c.requires.ready) c.in_ok-event.event c.in_ok-event.ensures.ok in
    absurd (false≢true (subst IsOk c.in_err-reserve-2.was (c.reserve-2.ensures.succeeds (subst (λ n. HasRoomAs i.places n c.in_ok-event.event.action) c.number_in-number.ensures (c.self.invariant.1.places c.in_ok-event.event (held ∙ ap Some (sym event)))))))

pub overflow_add-result : goal.overflow_add-result
overflow_add-result c =
    let i = c.self.inside in
    let is = ap (λ (h : Held). h.run) c.self.view_is in
    let counted = ap (λ k. k.steps) c.requires.ready.current.here in
    let bound = few_steps i.first.items i.root_line i.limit (entries_in i.tables i.entries.items) i.tables c.self.invariant.0 c.args.self.now.run is c.args.plan.config.task c.args.plan.action (open_takes c.args.self.now.run c.args.plan c.requires.fits c.requires.ready) in
    omega (arith, bound, counted)

pub invariant_of-self-2 : goal.invariant_of-self-2
invariant_of-self-2 c =
    let i = c.self.inside in
    let is = ap (λ (h : Held). h.run) c.self.view_is in
    let may = open_takes c.args.self.now.run c.args.plan c.requires.fits c.requires.ready in
    let event = filled i.first.items i.root_line i.limit (entries_in i.tables i.entries.items) i.tables c.self.invariant.0 c.args.self.now.run is c.args.plan.config.task c.args.plan.action may c.in_ok-event.event c.in_ok-event.ensures.ok in
    let follow = follows i.first.items i.root_line i.limit (entries_in i.tables i.entries.items) i.tables c.self.invariant.0 c.args.self.now.run is c.args.plan.config.task c.args.plan.action may c.in_ok-event.event event in
    let h =
    entered i.first.items i.root_line i.limit i.entries.items i.tables i.places c.self.invariant.0 c.self.invariant.2 c.self.invariant.3 c.args.self.now.run is c.in_ok-event.event follow c.requires.ready.room c.to-to.result c.in_ok-replaced.replaced c.number_in-number.result
    c.reserve.new.self.items c.push_reserved-2.new.self.items c.new.result c.apply.new.self c.count-at.result c.reserve-2.new.self c.push_reserved.new.self c.reserve.ensures.items c.push_reserved-2.ensures.items c.new.ensures c.number_in-number.ensures
    c.in_ok-replaced.ensures.applied c.in_ok-replaced.ensures.replaced c.apply.ensures.names c.reserve-2.ensures.same c.push_reserved.ensures.pushed c.count-at.ensures.count in
    (h.sound', none_reserved _ _ _ _ c.forget.ensures, h.index', h.stored')

pub returns-clause-ok : goal.returns-clause-ok
returns-clause-ok c =
    let i = c.self.inside in
    let is = ap (λ (h : Held). h.run) c.self.view_is in
    let may = open_takes c.args.self.now.run c.args.plan c.requires.fits c.requires.ready in
    let event = filled i.first.items i.root_line i.limit (entries_in i.tables i.entries.items) i.tables c.self.invariant.0 c.args.self.now.run is c.args.plan.config.task c.args.plan.action may c.in_ok-event.event c.in_ok-event.ensures.ok in
    let follow = follows i.first.items i.root_line i.limit (entries_in i.tables i.entries.items) i.tables c.self.invariant.0 c.args.self.now.run is c.args.plan.config.task c.args.plan.action may c.in_ok-event.event event in
    let h =
    entered i.first.items i.root_line i.limit i.entries.items i.tables i.places c.self.invariant.0 c.self.invariant.2 c.self.invariant.3 c.args.self.now.run is c.in_ok-event.event follow c.requires.ready.room c.to-to.result c.in_ok-replaced.replaced c.number_in-number.result
    c.reserve.new.self.items c.push_reserved-2.new.self.items c.new.result c.apply.new.self c.count-at.result c.reserve-2.new.self c.push_reserved.new.self c.reserve.ensures.items c.push_reserved-2.ensures.items c.new.ensures c.number_in-number.ensures
    c.in_ok-replaced.ensures.applied c.in_ok-replaced.ensures.replaced c.apply.ensures.names c.reserve-2.ensures.same c.push_reserved.ensures.pushed c.count-at.ensures.count in
    takes_steps c.args.self.now.run c.args.plan c.to-to.result _ c.in_ok-event.event _ c.requires.ready.current c.requires.ready.room
    (takes_so c.args.self.now.run c.args.plan.config.task c.args.plan.action c.to-to.result _ c.in_ok-event.event event follow h.run) (sym c.to-to.ensures) (ap (λ (v : Event). v.task) event) refl
