use Rattle.std.proofs.Common.{◌≡◌, ◌<◌, ◌-◌, suc, List, length, take, sym, subst, arith}
use Rattle.tb_places.specs.Places.{IsIndexOf}
use Rattle.tb_steps.specs.Entries.{Entry}
use Rattle.tb_core.specs.Renumbering.{events_in}
use Rattle.tb_core.specs.Soundness.{names_in}
use Rattle.tb_core.specs.Storing.{entries_in}
use Rattle.tb_core.proofs.RenumberLemmas.{cuts_first, cuts_more}
use Rattle.tb_core.proofs.StoredLemmas.{events_many, stored_at, its_number}
use Rattle.tb_core.proofs.renumbering.cut.Goals as goal

pub back-init : goal.back-init
back-init c =
    let names = names_in c.args._tables.now in
    let es : List Entry = entries_in c.args._tables.now c.args.entries.now in
    record { cuts = cuts_first names c.args.first (events_in es) (length c.args.entries.now) c.args.places.now c.requires.within (events_many names c.args.entries.now es c.requires.stored) c.requires.index; inside = omega arith }

pub back-preserved : goal.back-preserved
back-preserved c =
    let names = names_in c.args._tables.now in
    let es : List Entry = entries_in c.args._tables.now c.args.entries.now in
    let at = c.back.at - 1 in
    let x = c.index-entries-at in
    let before : c.back.at ≡ suc at = omega (arith, c.back-test.true) in
    let within : at < length c.args.entries.now = omega (arith, before, c.back.invariant.inside) in
    let w = stored_at names c.args.entries.now es at x.result c.requires.stored within x.is in
    record {
      cuts =
          cuts_more names c.args.first es c.back.at at w.entry c.back.places c.pop.new.self c.back.invariant.cuts c.back-test.true before w.here
          (λ events. c.pop.ensures.popped names events w.entry.event (sym w.stored.action) (its_number names x.result w.entry c.requires.distinct w.stored)) c.pop.ensures.room;
      inside = omega (arith, within);
    }

pub returns-clause-index : goal.returns-clause-index
returns-clause-index c =
    subst (λ n. IsIndexOf (names_in c.args._tables.now) (take n (events_in (entries_in c.args._tables.now c.args.entries.now))) c.back.places) (omega (arith, c.back-test.false, c.back.invariant.cuts.from)) c.back.invariant.cuts.index
