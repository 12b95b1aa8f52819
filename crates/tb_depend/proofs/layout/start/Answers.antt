use Rattle.std.proofs.Common.{length, ◌≤◌, get_or, subst, sym}
use Rattle.tb_depend.proofs.LayoutLemmas.{row_from, row_to, start_behind}
use Rattle.tb_depend.proofs.layout.start.Goals as goal

pub returns-then-k-eq0-clause-to : goal.returns-then-k-eq0-clause-to
returns-then-k-eq0-clause-to c = row_to 0 c.args.ends.now (length c.args.items.now) c.args.k c.requires.ends c.requires.there

pub returns-clause-start : goal.returns-clause-start
returns-clause-start c = start_behind c.args.ends.now c.args.k c.if-k-eq0.false

pub returns-clause-from : goal.returns-clause-from
returns-clause-from c =
    subst (λ s. s ≤ get_or c.args.ends.now c.args.k 0) (sym (start_behind c.args.ends.now c.args.k c.if-k-eq0.false))
    (row_from 0 c.args.ends.now (length c.args.items.now) c.args.k c.requires.ends c.requires.there)

pub returns-clause-to : goal.returns-clause-to
returns-clause-to c = row_to 0 c.args.ends.now (length c.args.items.now) c.args.k c.requires.ends c.requires.there
