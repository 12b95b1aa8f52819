use Rattle.std.proofs.Common.{sym, ap, ◌∙◌}
use Rattle.tb_places.proofs.PlacesLemmas.{index_popped}
use Rattle.tb_places.specs.Places.{event_mark, event_number, mark_of}
use Rattle.tb_places.proofs.places.Places.pop.Goals as goal

pub returns-clause-popped : goal.returns-clause-popped
returns-clause-popped c names events e same is index =
    let mark = ap mark_of same ∙ sym c.mark_of.ensures in
    index_popped names events e c.args.self.now _ index
    (c.pop_at.ensures.popped (event_number names) events e index.own (sym is))
    (c.pop_at-2.ensures.popped event_mark events e index.marks mark)
