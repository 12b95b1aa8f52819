use Rattle.tb_places.specs.Places.{event_mark, event_number}
use Rattle.tb_places.proofs.GapLemmas.{rows_rise, index_closed}
use Rattle.tb_places.proofs.places.Places.close_gaps.Goals as goal

pub close_gaps-requires-clause-places : goal.close_gaps-requires-clause-places
close_gaps-requires-clause-places c = rows_rise (event_number c.requires.index.0) c.requires.index.1.0 c.args.self.now.own c.requires.index.1.1.own

pub close_gaps-requires-2-clause-places : goal.close_gaps-requires-2-clause-places
close_gaps-requires-2-clause-places c = rows_rise event_mark c.requires.index.1.0 c.args.self.now.marks c.requires.index.1.1.marks

pub returns-clause-closed : goal.returns-clause-closed
returns-clause-closed c names events index = index_closed names events c.args.self.now _ c.args.going.now c.requires.going index c.close_gaps.ensures.lowered c.close_gaps-2.ensures.lowered
