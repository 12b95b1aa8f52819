use Rattle.std.proofs.Common.{◌≡◌, ◌≤◌, length, take}
use Rattle.tb_steps.specs.Scans.{history_of}
use Rattle.tb_races.specs.Racing
use Rattle.tb_order.specs.Walks.{HasRacesTo}
use Rattle.tb_order.proofs.racing.count_races.Given as goal

-- as many as the stored steps so far have
abbrev pub invariant-loop-at : goal.invariant-loop-at
invariant-loop-at l = record {
  walk : HasRacesTo l.entries l.at l.walk;
  count : l.count ≡ length (Racing.races (history_of (take l.at l.entries)));
  few : l.count ≤ l.at;
}
