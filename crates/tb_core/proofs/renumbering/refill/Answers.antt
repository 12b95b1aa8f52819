use Rattle.std.proofs.Common.{List, Some, arith, ◌∙◌, sym, subst}
use Rattle.tb_places.specs.Places.{HasRoomAs}
use Rattle.tb_steps.specs.Entries.{Entry}
use Rattle.tb_core.specs.Renumbering.{events_in}
use Rattle.tb_core.specs.Soundness.{names_in}
use Rattle.tb_core.specs.Storing.{entries_in}
use Rattle.tb_core.proofs.RenumberLemmas.{refills_first, refills_last, refills_room, refills_named, refills_gone, refills_kept}
use Rattle.tb_core.proofs.StoredLemmas.{entry_there, events_many, stored_at, its_number}
use Rattle.tb_core.proofs.renumbering.refill.Goals.{then-goes, else-goes}
use Rattle.tb_core.proofs.renumbering.refill.Goals as goal

pub push_reserved-requires : goal.push_reserved-requires
push_reserved-requires c =
    let l = c.loop-at in
    let names = names_in c.args._tables.now in
    let es : List Entry = entries_in c.args._tables.now c.args.entries.now in
    let x = c.index-entries-at in
    let w = stored_at names c.args.entries.now es l.at x.result c.requires.stored c.loop-at-test.true x.is in
    let room = refills_room names c.args.first c.args.going.now es l.at l.next l.place l.places l.invariant w.within w.entry w.here in
    subst (λ a. HasRoomAs l.places (Some x.result.task) a) (sym w.stored.action) (subst (λ n. HasRoomAs l.places n w.entry.event.action) (sym (its_number names x.result w.entry c.requires.distinct w.stored)) room)

pub loop-at-preserved : goal.loop-at-preserved
loop-at-preserved c =
    let l = c.loop-at in
    let going = c.args.going.now in
    let names = names_in c.args._tables.now in
    let es : List Entry = entries_in c.args._tables.now c.args.entries.now in
    elim c.if-goes.branch [
      | then-goes w ↦
          let u = entry_there names c.args.entries.now es l.at c.requires.stored c.loop-at-test.true in
          rw (w.places-is, w.next-is, w.place-is) (refills_gone names c.args.first going es l.at l.next l.place l.places l.invariant u.1 u.0 u.2 (sym c.goes.ensures.goes ∙ w.if-goes.true))
      | else-goes w ↦
          let x = w.index-entries-at in
          let u = stored_at names c.args.entries.now es l.at x.result c.requires.stored c.loop-at-test.true x.is in
          let named = refills_named names c.args.first going es l.at l.next l.place l.places l.invariant u.within u.entry u.here in
          rw (w.places-is, w.next-is, w.place-is) (refills_kept names c.args.first going es l.at l.next l.place l.places l.invariant u.within u.entry u.here w.push_reserved.new.self (sym c.goes.ensures.goes ∙ w.if-goes.false)
          (λ events. w.push_reserved.ensures.pushed names events u.entry.event (sym u.stored.action) (its_number names x.result u.entry c.requires.distinct u.stored) named) w.push_reserved.ensures.room)
    ]

pub loop-at-init : goal.loop-at-init
loop-at-init c =
    let names = names_in c.args._tables.now in
    let es : List Entry = entries_in c.args._tables.now c.args.entries.now in
    refills_first names c.args.first c.args.going.now (events_in es) c.args.places.now (omega (arith, c.requires.within, events_many names c.args.entries.now es c.requires.stored)) c.requires.index c.requires.room

pub returns : goal.returns
returns c =
    let l = c.loop-at in
    let names = names_in c.args._tables.now in
    let es : List Entry = entries_in c.args._tables.now c.args.entries.now in
    refills_last names c.args.first c.args.going.now (events_in es) l.at l.next l.place l.places (omega (arith, c.loop-at-test.false, events_many names c.args.entries.now es c.requires.stored)) l.invariant
