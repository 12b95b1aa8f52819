use Rattle.std.proofs.Common.{◌≡◌, ◌≤◌, ◌+◌, ◌++◌, length}
use Rattle.tb_core.specs.Seen.{history}
use Rattle.tb_view.specs.Listing.{joined}
use Rattle.tb_view.proofs.RelationLemmas.{lines_upto}
use Rattle.tb_view.proofs.relations.append_siblings.Given as goal

-- the relations to the children so far; a child gives two lines at most
abbrev pub invariant-children : goal.invariant-children
invariant-children l = record {
  text : l.text ≡ l.initial.text ++ joined (lines_upto (history l.core.run) l.task l.n);
  count : l.count ≡ length (lines_upto (history l.core.run) l.task l.n);
  few : l.count ≤ l.n + l.n;
}
