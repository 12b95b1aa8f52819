use Rattle.std.proofs.Common.{◌≡◌, ◌++◌, map, length, IsTrue}
use Rattle.std.specs.List.{list_all}
use Rattle.tb_plan.specs.Statements.{is_sound_clause}
use Rattle.tb_read.specs.Clauses.{clauses_of}
use Rattle.tb_read.proofs.meaning.clauses_of.Given as goal

-- the words that are left say the rest of what all words say
abbrev pub invariant-loop-left : goal.invariant-loop-left
invariant-loop-left l = record {
  clauses : l.clauses ++ clauses_of l.on_wait (map (λ word. word.now) l.left) ≡ clauses_of l.on_wait (map (λ word. word.now) l.words);
  sound : IsTrue (list_all is_sound_clause l.clauses);
}

abbrev pub decreases-loop-left : goal.decreases-loop-left
decreases-loop-left l = length l.left
