use Rattle.std.proofs.Common.{◌≡◌, ◌≤◌, ◌+◌, length, map, reverse, vec_len}
use Rattle.tb_read.specs.Shown.{shown_line}
use Rattle.tb_read.proofs.FollowLemmas.{WaysFrom}
use Rattle.tb_read.proofs.follow.ways.Given as goal

-- from the line `at` on, each line has its ways
abbrev pub invariant-loop-at : goal.invariant-loop-at
invariant-loop-at l = record {
  within : l.at ≤ length l.lines;
  count : vec_len l.arrivals ≡ length l.lines + 1;
  turn_count : vec_len l.turns ≡ length l.lines;
  found : WaysFrom (map shown_line l.lines) l.at l.arrivals.items l.turns.items (reverse l.levels.items);
}

abbrev pub decreases-loop-at : goal.decreases-loop-at
decreases-loop-at l = l.at
