use Rattle.tb_core.specs.Renumbering.{events_in, Refills}
use Rattle.tb_core.specs.Soundness.{names_in}
use Rattle.tb_core.specs.Storing.{entries_in}
use Rattle.tb_core.proofs.renumbering.refill.Given as goal

abbrev pub invariant-loop-at : goal.invariant-loop-at
invariant-loop-at l = Refills (names_in l._tables) l.first l.going (events_in (entries_in l._tables l.entries)) l.at l.next l.place l.places
