use Rattle.std.proofs.Common.{◌≡◌, take, reverse}
use Rattle.tb_steps.specs.Scans.{history_of}
use Rattle.tb_races.specs.Racing
use Rattle.tb_order.specs.Walks.{HasRacesTo}
use Rattle.tb_order.proofs.racing.races_among.Given as goal

-- those of the stored steps so far
abbrev pub invariant-loop-at : goal.invariant-loop-at
invariant-loop-at l = record {
  walk : HasRacesTo l.entries l.at l.walk;
  found : l.found.items ≡ reverse (Racing.races (history_of (take l.at l.entries)));
}
