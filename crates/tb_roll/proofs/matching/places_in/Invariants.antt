use Rattle.std.proofs.Common.{◌≡◌, ◌≤◌, length, vec_capacity}
use Rattle.tb_roll.specs.Comparing.{AreMatched}
use Rattle.tb_roll.proofs.matching.places_in.Given as goal

abbrev pub invariant-loop-at : goal.invariant-loop-at
invariant-loop-at l = record {
  count : length l.places.items ≡ l.at;
  matched : AreMatched l.entries l.places.items l.others;
  room : length l.entries ≤ vec_capacity l.places;
}
