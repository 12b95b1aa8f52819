use Rattle.std.proofs.Common.{◌≡◌}
use Rattle.tb_runs.specs.Reading.{items_in}
use Rattle.tb_runs.proofs.ListedLemmas.{behind}
use Rattle.tb_runs.proofs.items.take_items.Given as goal

-- the items so far, and those that the words that are left say, are those of all
abbrev pub invariant-clauses : goal.invariant-clauses
invariant-clauses l = record {
  all : behind l.items (items_in l.on_wait l.cells l.room l.words) ≡ items_in l.on_wait l.cells 64 l.fn.words;
}

abbrev pub decreases-clauses : goal.decreases-clauses
decreases-clauses l = l.room
