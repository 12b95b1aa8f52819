use Rattle.std.proofs.Common.{◌≡◌, ◌+◌, map, length}
use Rattle.std.specs.List.{position_or_len}
use Rattle.tb_read.specs.Clauses.{begins_clause, argument_count}
use Rattle.tb_read.proofs.clauses.argument_count.Given as goal

-- the words that are left say the rest of what all words say
abbrev pub invariant-loop-left : goal.invariant-loop-left
invariant-loop-left l = record {
  counted : l.count + position_or_len begins_clause (map (λ word. word.now) l.left) ≡ argument_count (map (λ word. word.now) l.words);
  within : l.count + length l.left ≡ length l.words;
}

abbrev pub decreases-loop-left : goal.decreases-loop-left
decreases-loop-left l = length l.left
