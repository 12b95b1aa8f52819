use Rattle.std.proofs.Common.{◌≡◌, ◌+◌, ℕ, nat_lt, None, length, slice_index_or, if◌then◌else◌}
use Rattle.std.specs.Option.{option_map}
use Rattle.tb_plan.specs.Strips.{instruction_of}
use Rattle.tb_read.specs.Strips.{private_at}
use Rattle.tb_read.proofs.strip.lines_from.Given as goal

-- the lines so far
abbrev pub invariant-loop-at : goal.invariant-loop-at
invariant-loop-at l = record {
  count : length l.lines ≡ 127;
  lines : (k : ℕ) → option_map instruction_of (slice_index_or l.lines k None) ≡ (if nat_lt k l.at then private_at l.program (l.first + k) else None);
}
