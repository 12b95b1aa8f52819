use Rattle.std.proofs.Common.{sym, ap, ◌∙◌}
use Rattle.tb_places.proofs.PlacesLemmas.{index_pushed}
use Rattle.tb_places.specs.Places.{event_mark, event_number, mark_of}
use Rattle.tb_places.proofs.places.Places.push_reserved.Goals as goal

pub returns-clause-pushed : goal.returns-clause-pushed
returns-clause-pushed c names events e same is named index at =
    let mark = ap mark_of same ∙ sym c.mark_of.ensures in
    index_pushed names events e c.args.self.now _ named index
    (c.push_at.ensures.pushed (event_number names) events e index.own (sym is) at)
    (c.push_at-2.ensures.pushed event_mark events e index.marks mark at)
