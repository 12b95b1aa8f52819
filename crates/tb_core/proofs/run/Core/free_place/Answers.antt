use Rattle.std.proofs.Common.{◌≡◌, get_or, refl, sym, ap, ◌∙◌, subst}
use Rattle.std.specs.Result.{IsErr}
use Rattle.std.proofs.lemmas.Option.{get_or_from_slice_get}
use Rattle.tb_wait.specs.Kin.{place}
use Rattle.tb_model.specs.Facts.{is_of}
use Rattle.tb_places.specs.Where.{places_where}
use Rattle.tb_core.specs.Seen.{Held}
use Rattle.tb_core.specs.Renumbering.{events_in}
use Rattle.tb_core.specs.Soundness.{names_in}
use Rattle.tb_core.proofs.UndoneLemmas.{needed, place_told}
use Rattle.tb_core.specs.Storing.{entries_in}
use Rattle.tb_core.proofs.run.Core.free_place.Goals as goal

pub returns-in_default-first_needer-clause-place : goal.returns-in_default-first_needer-clause-place
returns-in_default-first_needer-clause-place c =
    let i = c.self.inside in
    place_told i.first.items i.root_line i.limit (entries_in i.tables i.entries.items) c.of-entries.result c.args.id.now c.in-Some.at c.args.self.now.run
    (ap (λ (h : Held). h.run) c.self.view_is) (c.of-entries.ensures ∙ ap (entries_in c.self.inside.tables) c.as_slice.ensures.value) c.in-Some.ensures.within c.in-Some.ensures.step

pub returns-in-Err-clause-kept : goal.returns-in-Err-clause-kept
returns-in-Err-clause-kept c =
    let i = c.self.inside in
    needed i.first.items i.root_line i.limit (entries_in i.tables i.entries.items) c.of-entries.result c.of-entries.result c.args.id.now c.in-Some.at c.in-Some-first_needer.by c.args.self.now.run
    (ap (λ (h : Held). h.run) c.self.view_is) c.self.invariant.0.legal (c.of-entries.ensures ∙ ap (entries_in c.self.inside.tables) c.as_slice.ensures.value) (c.of-entries.ensures ∙ ap (entries_in c.self.inside.tables) c.as_slice.ensures.value)
    (c.in-Some.ensures.there.0 refl) c.in-Some.ensures.step c.in-Some-first_needer.ensures.needer c.in-Some-first_needer.ensures.within (λ j h. c.step_among.ensures.long j (subst IsErr (sym c.in-Err.is) refl) h)

pub place_in-requires : goal.place_in-requires
place_in-requires c =
    let i = c.self.inside in
    c.events_of-own.ensures (names_in i.tables) c.args.id.now.task (events_in (entries_in i.tables i.entries.items)) c.place.ensures c.self.invariant.2
    ∙ ap (λ es. places_where (is_of c.args.id.now.task) (events_in es)) (sym (c.of-entries.ensures ∙ ap (entries_in c.self.inside.tables) c.as_slice.ensures.value))

pub step_among-requires-clause-own : goal.step_among-requires-clause-own
step_among-requires-clause-own c = λ e h.
    let i = c.self.inside in
    let by = c.in-Some-first_needer.by in
    let all = c.of-entries.result in
    let whole = (c.of-entries.ensures ∙ ap (entries_in c.self.inside.tables) c.as_slice.ensures.value) in
    let here : e ≡ get_or all by e = sym (get_or_from_slice_get all by e e h) in
    c.events_of-own-2.ensures (names_in i.tables) e.event.task (events_in (entries_in i.tables i.entries.items)) (c.place-2.ensures ∙ ap (place i.tables.waits.tasks) (c.task.ensures e here)) c.self.invariant.2
    ∙ ap (λ es. places_where (is_of e.event.task) (events_in es)) (sym whole)
