use Rattle.std.proofs.Common.{◌≡◌, ◌++◌, map, drop, IsTrue}
use Rattle.std.specs.List.{list_all}
use Rattle.tb_plan.specs.Statements.{is_sound_operand}
use Rattle.tb_read.specs.Clauses.{operand_in}
use Rattle.tb_read.proofs.meaning.operands_of.Given as goal

-- the operands so far and those of the words that are left are those of all words
abbrev pub invariant-loop-word : goal.invariant-loop-word
invariant-loop-word l = record {
  operands : l.operands ++ map operand_in (map (λ word. word.now) (drop l.word-index l.words)) ≡ map operand_in (map (λ word. word.now) l.words);
  sound : IsTrue (list_all is_sound_operand l.operands);
}
