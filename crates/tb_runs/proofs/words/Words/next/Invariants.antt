use Rattle.std.proofs.Common.{◌≡◌, length}
use Rattle.tb_read.specs.Text.{line_words}
use Rattle.tb_runs.proofs.words.Words.next.Given as goal

-- what is left has the words of the line
abbrev pub invariant-loop-rest : goal.invariant-loop-rest
invariant-loop-rest l = record {
  words : line_words l.rest ≡ l.fn.self;
}

abbrev pub decreases-loop-rest : goal.decreases-loop-rest
decreases-loop-rest l = length l.rest
