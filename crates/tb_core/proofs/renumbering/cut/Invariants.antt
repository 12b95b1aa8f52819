use Rattle.std.proofs.Common.{◌≤◌, length}
use Rattle.tb_core.specs.Renumbering.{events_in, Cuts}
use Rattle.tb_core.specs.Soundness.{names_in}
use Rattle.tb_core.specs.Storing.{entries_in}
use Rattle.tb_core.proofs.renumbering.cut.Given as goal

abbrev pub invariant-back : goal.invariant-back
invariant-back l = record {
  cuts : Cuts (names_in l._tables) l.first (events_in (entries_in l._tables l.entries)) l.at l.places;
  inside : l.at ≤ length l.entries;
}

abbrev pub decreases-back : goal.decreases-back
decreases-back l = l.at
