use Rattle.std.proofs.Common.{◌≡◌, ◌++◌, length, map}
use Rattle.std.specs.List.{list_all}
use Rattle.tb_read.specs.Text.{line_words, is_text}
use Rattle.tb_read.proofs.text.split.Given as goal

-- the words so far and those of the rest are those of the line
abbrev pub invariant-loop-rest : goal.invariant-loop-rest
invariant-loop-rest l = record {
  words : map (λ word. word.now) l.words.items ++ line_words l.rest ≡ line_words l.line;
  text : l.text ≡ list_all is_text (map (λ word. word.now) l.words.items);
}

abbrev pub decreases-loop-rest : goal.decreases-loop-rest
decreases-loop-rest l = length l.rest
