use Rattle.std.proofs.Common.{subst}
use Rattle.tb_places.specs.Places.{IsIndexOf}
use Rattle.tb_core.specs.Renumbering.{events_in}
use Rattle.tb_core.specs.Soundness.{names_in}
use Rattle.tb_core.specs.Storing.{entries_in}
use Rattle.tb_core.proofs.RenumberLemmas.{left_whole}
use Rattle.tb_core.proofs.renumbering.renumber.Goals as goal

pub close_gaps-requires-clause-index : goal.close_gaps-requires-clause-index
close_gaps-requires-clause-index c = (names_in c.args.tables.now, (events_in (entries_in c.args.tables.now c.args.entries.now), c.requires.index))

pub returns : goal.returns
returns c = subst (λ l. IsIndexOf (names_in c.args.tables.now) l c.refill.new.places) (left_whole c.first_of-first.result c.args.going.now (events_in (entries_in c.args.tables.now c.args.entries.now)) c.first_of-first.ensures.first) c.refill.ensures
