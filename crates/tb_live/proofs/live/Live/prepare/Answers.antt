use Rattle.std.proofs.Common.{ap, refl, sym, ◌∙◌, subst, option_map, Some}
use Rattle.tb_model.specs.declared.entry.Entry.TheVariants.{Stepped}
use Rattle.tb_core.specs.Outcomes.{event_of, IsOpen}
use Rattle.tb_live.specs.Preparing.{HasRoom, entry_of}
use Rattle.tb_live.specs.Session.{Held}
use Rattle.tb_live.proofs.FloorAfterLemmas.{floor_readied}
use Rattle.tb_live.proofs.RunLemmas.{shown}
use Rattle.tb_live.proofs.StepLemmas.{longer, stays, same_held}
use Rattle.tb_live.proofs.CommitLemmas.{offered_native, native_refused, room_kept, live_prepares}
use Rattle.tb_next.proofs.NativeLemmas.{native_fits}
use Rattle.tb_live.proofs.live.Live.prepare.Goals as goal

pub ready_step-requires-clause-fits : goal.ready_step-requires-clause-fits
ready_step-requires-clause-fits c =
    let i = c.self.inside in
    native_fits i.program i.core.run c.args.plan.now c.self.invariant.0.fits
    (offered_native i.program i.limit i.journal.items i.control i.core.run c.args.self.now.session (ap (λ (h : Held). h.session) c.self.view_is) c.self.invariant.0 c.args.seat c.args.plan.now c.in_default.ensures.none)

pub ready_step-requires-clause-shorter : goal.ready_step-requires-clause-shorter
ready_step-requires-clause-shorter c =
    let i = c.self.inside in
    longer i.program i.limit i.journal.items i.core.run c.self.invariant.0

pub invariant_of-self : goal.invariant_of-self
invariant_of-self c =
    let i = c.self.inside in
    let native = offered_native i.program i.limit i.journal.items i.control i.core.run c.args.self.now.session (ap (λ (h : Held). h.session) c.self.view_is) c.self.invariant.0 c.args.seat c.args.plan.now c.in_default.ensures.none in
    let l = stays i.program i.limit i.journal.items c.ready_step.new.journal.items i.control i.control i.core.run c.ready_step.new.core.run c.args.self.now.session (ap (λ (h : Held). h.session) c.self.view_is) (c.self.invariant.0, c.self.invariant.1) c.ready_step.ensures.run c.ready_step.ensures.entries refl in
    let spare = c.ready_step.new.journal.room in (
      l.keeps.sound,
      l.keeps.lawful,
      subst (HasRoom i.limit i.program c.ready_step.new.core c.ready_step.new.journal.items spare) (sym c.keep.ensures)
          (room_kept i.limit i.program i.core c.ready_step.new.core i.journal.items c.ready_step.new.journal.items spare c.args.plan.now c.in-Ok.event c.in-Ok.copy c.self.invariant.0.fits native c.ready_step.ensures.run c.ready_step.ensures.entries c.in-Ok.ensures.copy c.in-Ok.ensures.readied),
      floor_readied i.program i.core.run c.ready_step.new.core.run i.floor c.ready_step.new.floor c.ready_step.ensures.run c.ready_step.ensures.floor c.self.invariant.3,
    )

pub returns-in-Ok-clause-prepared : goal.returns-in-Ok-clause-prepared
returns-in-Ok-clause-prepared c =
    let i = c.self.inside in
    let p = c.args.plan.now in
    let offered = c.in_default.ensures.none in
    let native = offered_native i.program i.limit i.journal.items i.control i.core.run c.args.self.now.session (ap (λ (h : Held). h.session) c.self.view_is) c.self.invariant.0 c.args.seat p offered in
    let l = stays i.program i.limit i.journal.items c.ready_step.new.journal.items i.control i.control i.core.run c.ready_step.new.core.run c.args.self.now.session (ap (λ (h : Held). h.session) c.self.view_is) (c.self.invariant.0, c.self.invariant.1) c.ready_step.ensures.run c.ready_step.ensures.entries refl in
    let r = c.in-Ok.ensures.readied in
    live_prepares c.args.seat i.program i.limit i.journal.items i.control i.core.run c.args.self.now.session (ap (λ (h : Held). h.session) c.self.view_is) c.self.invariant.0 p offered.claimed native
    (record { session = shown i.program i.limit c.ready_step.new.journal.items i.control; prepared = option_map entry_of c.keep.new.place })
    (Stepped c.args.seat c.in-Ok.event) c.in-Ok.event l.same (ap (option_map entry_of) c.keep.ensures ∙ ap (λ u. Some (Stepped c.args.seat u)) c.in-Ok.ensures.copy) refl
    (r.event ∙ ap (λ z. event_of z p) c.ready_step.ensures.run) (subst (λ z. IsOpen z p) c.ready_step.ensures.run r.is_open) r.room

pub returns-in-Err-clause-refused : goal.returns-in-Err-clause-refused
returns-in-Err-clause-refused c =
    let i = c.self.inside in
    let offered = c.in_default.ensures.none in
    let native = offered_native i.program i.limit i.journal.items i.control i.core.run c.args.self.now.session (ap (λ (h : Held). h.session) c.self.view_is) c.self.invariant.0 c.args.seat c.args.plan.now offered in
    (offered.claimed, native_refused i.program i.limit i.journal.items i.control i.core.run c.args.self.now.session (ap (λ (h : Held). h.session) c.self.view_is) c.self.invariant.0 c.args.seat c.args.plan.now native c.in-Err.refusal c.in-Err.ensures.refused)

pub invariant_of-self-in-Err : goal.invariant_of-self-in-Err
invariant_of-self-in-Err c =
    let i = c.self.inside in
    let l = stays i.program i.limit i.journal.items c.ready_step.new.journal.items i.control i.control i.core.run c.ready_step.new.core.run c.args.self.now.session (ap (λ (h : Held). h.session) c.self.view_is) (c.self.invariant.0, c.self.invariant.1) c.ready_step.ensures.run c.ready_step.ensures.entries refl in
    (l.keeps.sound, l.keeps.lawful, c.ready_step.ensures.serves i.program c.self.invariant.2, floor_readied i.program i.core.run c.ready_step.new.core.run i.floor c.ready_step.new.floor c.ready_step.ensures.run c.ready_step.ensures.floor c.self.invariant.3)

pub returns-in-Err-clause-kept : goal.returns-in-Err-clause-kept
returns-in-Err-clause-kept c =
    let i = c.self.inside in
    same_held i.program i.limit i.journal.items c.ready_step.new.journal.items i.control i.control i.prepared c.ready_step.new.prepared c.args.self.now c.self.view_is c.ready_step.ensures.entries refl c.in-Err.ensures.kept
