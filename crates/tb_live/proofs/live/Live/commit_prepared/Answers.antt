use Rattle.std.proofs.Common.{ap, sym, ◌∙◌, Some}
use Rattle.std.specs.Prelude.{Ok}
use Rattle.tb_model.specs.declared.event.Event.{Event}
use Rattle.tb_core.specs.Outcomes.{event_of}
use Rattle.tb_control.specs.Controls.{behind_step}
use Rattle.tb_live.specs.Entering.{Enters}
use Rattle.tb_live.specs.Session.{Held}
use Rattle.tb_next.proofs.NativeLemmas.{native_fits}
use Rattle.tb_live.proofs.CommitLemmas.{due}
use Rattle.tb_live.proofs.GoingLemmas.{claimed_here, claimed_within, goes_on, still_within}
use Rattle.tb_live.proofs.PreparedLemmas.{held_is, is_held, no_room}
use Rattle.tb_live.proofs.WorkLemmas.{with_claims}
use Rattle.tb_live.proofs.live.Live.commit_prepared.Goals as goal

pub take_event-event-requires : goal.take_event-event-requires
take_event-event-requires c =
    let i = c.self.inside in
    let d = due c.args.seat i.program i.limit i.journal.items i.control i.core i.prepared i.journal.room c.args.self.now.session
    (ap (λ (h : Held). h.session) c.self.view_is) c.self.invariant.0 c.self.invariant.2
    c.args.plan c.requires.may (ap (λ (h : Held). h.prepared) c.self.view_is ∙ c.requires.prepared) in
    is_held i.prepared (event_of i.core.run c.args.plan) d.held

pub enter_readied-requires-clause-fits : goal.enter_readied-requires-clause-fits
enter_readied-requires-clause-fits c =
    let i = c.self.inside in
    let d = due c.args.seat i.program i.limit i.journal.items i.control i.core i.prepared i.journal.room c.args.self.now.session
    (ap (λ (h : Held). h.session) c.self.view_is) c.self.invariant.0 c.self.invariant.2
    c.args.plan c.requires.may (ap (λ (h : Held). h.prepared) c.self.view_is ∙ c.requires.prepared) in
    native_fits i.program i.core.run c.args.plan c.self.invariant.0.fits d.native

pub enter_readied-requires-clause-open : goal.enter_readied-requires-clause-open
enter_readied-requires-clause-open c =
    let i = c.self.inside in
    let d = due c.args.seat i.program i.limit i.journal.items i.control i.core i.prepared i.journal.room c.args.self.now.session
    (ap (λ (h : Held). h.session) c.self.view_is) c.self.invariant.0 c.self.invariant.2
    c.args.plan c.requires.may (ap (λ (h : Held). h.prepared) c.self.view_is ∙ c.requires.prepared) in
    d.readied.is_open

pub enter_readied-requires-clause-event : goal.enter_readied-requires-clause-event
enter_readied-requires-clause-event c =
    let i = c.self.inside in
    let d = due c.args.seat i.program i.limit i.journal.items i.control i.core i.prepared i.journal.room c.args.self.now.session
    (ap (λ (h : Held). h.session) c.self.view_is) c.self.invariant.0 c.self.invariant.2
    c.args.plan c.requires.may (ap (λ (h : Held). h.prepared) c.self.view_is ∙ c.requires.prepared) in
    held_is i.prepared c.take_event-event.result (event_of i.core.run c.args.plan) c.take_event-event.ensures.event d.held

pub enter_readied-requires-clause-reserved : goal.enter_readied-requires-clause-reserved
enter_readied-requires-clause-reserved c =
    let i = c.self.inside in
    let d = due c.args.seat i.program i.limit i.journal.items i.control i.core i.prepared i.journal.room c.args.self.now.session
    (ap (λ (h : Held). h.session) c.self.view_is) c.self.invariant.0 c.self.invariant.2
    c.args.plan c.requires.may (ap (λ (h : Held). h.prepared) c.self.view_is ∙ c.requires.prepared) in
    d.readied.reserved ∙ ap (λ (v : Event). Some v)
    (sym (held_is i.prepared c.take_event-event.result (event_of i.core.run c.args.plan) c.take_event-event.ensures.event d.held))

pub enter_readied-requires-clause-spare : goal.enter_readied-requires-clause-spare
enter_readied-requires-clause-spare c =
    let i = c.self.inside in
    let d = due c.args.seat i.program i.limit i.journal.items i.control i.core i.prepared i.journal.room c.args.self.now.session
    (ap (λ (h : Held). h.session) c.self.view_is) c.self.invariant.0 c.self.invariant.2
    c.args.plan c.requires.may (ap (λ (h : Held). h.prepared) c.self.view_is ∙ c.requires.prepared) in
    d.readied.free

pub take-claim-requires : goal.take-claim-requires
take-claim-requires c =
    let i = c.self.inside in
    let d = due c.args.seat i.program i.limit i.journal.items i.control i.core i.prepared i.journal.room c.args.self.now.session
    (ap (λ (h : Held). h.session) c.self.view_is) c.self.invariant.0 c.self.invariant.2
    c.args.plan c.requires.may (ap (λ (h : Held). h.prepared) c.self.view_is ∙ c.requires.prepared) in
    claimed_within i.control.claims c.args.seat c.args.plan.config.task
    (claimed_here c.args.seat i.program i.limit i.journal.items i.control i.core.run c.args.self.now.session (ap (λ (h : Held). h.session) c.self.view_is)
    (c.self.invariant.0, c.self.invariant.1) c.args.plan c.requires.may d.native)

pub set-requires : goal.set-requires
set-requires c =
    let i = c.self.inside in
    let d = due c.args.seat i.program i.limit i.journal.items i.control i.core i.prepared i.journal.room c.args.self.now.session
    (ap (λ (h : Held). h.session) c.self.view_is) c.self.invariant.0 c.self.invariant.2
    c.args.plan c.requires.may (ap (λ (h : Held). h.prepared) c.self.view_is ∙ c.requires.prepared) in
    let e = held_is i.prepared c.take_event-event.result (event_of i.core.run c.args.plan) c.take_event-event.ensures.event d.held in
    let entered : Enters i.limit c.args.seat i.core.run c.args.plan c.enter_readied.new.core.run i.journal.items c.enter_readied.new.journal.items
    (with_claims i.control c.take-claim.new.self) c.enter_readied.new.control (Ok c.enter_readied.result) = (
      c.enter_readied.ensures.entered,
      d.readied.room,
      c.enter_readied.ensures.control ∙ ap
          (λ v. behind_step c.args.plan.config.at v (with_claims i.control c.take-claim.new.self)) e,
    ) in
    still_within i.limit c.args.seat i.core.run c.args.plan c.enter_readied.new.core.run i.journal.items c.enter_readied.new.journal.items i.control
    c.enter_readied.new.control c.take-claim.new.self (Ok c.enter_readied.result)
    (claimed_within i.control.claims c.args.seat c.args.plan.config.task
    (claimed_here c.args.seat i.program i.limit i.journal.items i.control i.core.run c.args.self.now.session (ap (λ (h : Held). h.session) c.self.view_is)
    (c.self.invariant.0, c.self.invariant.1) c.args.plan c.requires.may d.native)) c.take-claim.ensures.after entered

pub invariant_of-self : goal.invariant_of-self
invariant_of-self c =
    let i = c.self.inside in
    let d = due c.args.seat i.program i.limit i.journal.items i.control i.core i.prepared i.journal.room c.args.self.now.session
    (ap (λ (h : Held). h.session) c.self.view_is) c.self.invariant.0 c.self.invariant.2
    c.args.plan c.requires.may (ap (λ (h : Held). h.prepared) c.self.view_is ∙ c.requires.prepared) in
    let e = held_is i.prepared c.take_event-event.result (event_of i.core.run c.args.plan) c.take_event-event.ensures.event d.held in
    let entered : Enters i.limit c.args.seat i.core.run c.args.plan c.enter_readied.new.core.run i.journal.items c.enter_readied.new.journal.items
    (with_claims i.control c.take-claim.new.self) c.enter_readied.new.control (Ok c.enter_readied.result) = (
      c.enter_readied.ensures.entered,
      d.readied.room,
      c.enter_readied.ensures.control ∙ ap
          (λ v. behind_step c.args.plan.config.at v (with_claims i.control c.take-claim.new.self)) e,
    ) in
    let on = goes_on c.args.seat i.program i.limit i.journal.items i.control i.core.run c.args.self.now.session (ap (λ (h : Held). h.session) c.self.view_is)
    (c.self.invariant.0, c.self.invariant.1) c.args.plan c.requires.may d.native
    c.enter_readied.new.journal.items c.take-claim.new.self c.enter_readied.new.control c.enter_readied.new.core.run c.enter_readied.result
    c.take-claim.result c.set.new.self c.len-place.result i.floor c.enter_readied.new.floor
    c.take-claim.ensures.claim c.take-claim.ensures.after entered c.set.ensures c.len-place.ensures c.enter_readied.ensures.floor c.self.invariant.3 in (
      on.keeps.sound,
      on.keeps.lawful,
      no_room i.limit i.program c.enter_readied.new.core c.enter_readied.new.journal.items c.enter_readied.new.journal.room c.take_event-event.new.place
          c.take_event-event.ensures.after,
      on.floor,
    )

pub returns-clause-place : goal.returns-clause-place
returns-clause-place c =
    let i = c.self.inside in
    let d = due c.args.seat i.program i.limit i.journal.items i.control i.core i.prepared i.journal.room c.args.self.now.session
    (ap (λ (h : Held). h.session) c.self.view_is) c.self.invariant.0 c.self.invariant.2
    c.args.plan c.requires.may (ap (λ (h : Held). h.prepared) c.self.view_is ∙ c.requires.prepared) in
    let e = held_is i.prepared c.take_event-event.result (event_of i.core.run c.args.plan) c.take_event-event.ensures.event d.held in
    let entered : Enters i.limit c.args.seat i.core.run c.args.plan c.enter_readied.new.core.run i.journal.items c.enter_readied.new.journal.items
    (with_claims i.control c.take-claim.new.self) c.enter_readied.new.control (Ok c.enter_readied.result) = (
      c.enter_readied.ensures.entered,
      d.readied.room,
      c.enter_readied.ensures.control ∙ ap
          (λ v. behind_step c.args.plan.config.at v (with_claims i.control c.take-claim.new.self)) e,
    ) in
    let on = goes_on c.args.seat i.program i.limit i.journal.items i.control i.core.run c.args.self.now.session (ap (λ (h : Held). h.session) c.self.view_is)
    (c.self.invariant.0, c.self.invariant.1) c.args.plan c.requires.may d.native
    c.enter_readied.new.journal.items c.take-claim.new.self c.enter_readied.new.control c.enter_readied.new.core.run c.enter_readied.result
    c.take-claim.result c.set.new.self c.len-place.result i.floor c.enter_readied.new.floor
    c.take-claim.ensures.claim c.take-claim.ensures.after entered c.set.ensures c.len-place.ensures c.enter_readied.ensures.floor c.self.invariant.3 in
    on.place

pub returns-clause-session : goal.returns-clause-session
returns-clause-session c =
    let i = c.self.inside in
    let d = due c.args.seat i.program i.limit i.journal.items i.control i.core i.prepared i.journal.room c.args.self.now.session
    (ap (λ (h : Held). h.session) c.self.view_is) c.self.invariant.0 c.self.invariant.2
    c.args.plan c.requires.may (ap (λ (h : Held). h.prepared) c.self.view_is ∙ c.requires.prepared) in
    let e = held_is i.prepared c.take_event-event.result (event_of i.core.run c.args.plan) c.take_event-event.ensures.event d.held in
    let entered : Enters i.limit c.args.seat i.core.run c.args.plan c.enter_readied.new.core.run i.journal.items c.enter_readied.new.journal.items
    (with_claims i.control c.take-claim.new.self) c.enter_readied.new.control (Ok c.enter_readied.result) = (
      c.enter_readied.ensures.entered,
      d.readied.room,
      c.enter_readied.ensures.control ∙ ap
          (λ v. behind_step c.args.plan.config.at v (with_claims i.control c.take-claim.new.self)) e,
    ) in
    let on = goes_on c.args.seat i.program i.limit i.journal.items i.control i.core.run c.args.self.now.session (ap (λ (h : Held). h.session) c.self.view_is)
    (c.self.invariant.0, c.self.invariant.1) c.args.plan c.requires.may d.native
    c.enter_readied.new.journal.items c.take-claim.new.self c.enter_readied.new.control c.enter_readied.new.core.run c.enter_readied.result
    c.take-claim.result c.set.new.self c.len-place.result i.floor c.enter_readied.new.floor
    c.take-claim.ensures.claim c.take-claim.ensures.after entered c.set.ensures c.len-place.ensures c.enter_readied.ensures.floor c.self.invariant.3 in
    on.session
