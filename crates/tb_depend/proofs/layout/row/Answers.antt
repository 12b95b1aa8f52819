use Rattle.tb_depend.proofs.LayoutLemmas.{row_of}
use Rattle.tb_depend.proofs.layout.row.Goals as goal

pub returns : goal.returns
returns c = row_of c.args.ends.now c.args.items.now c.args.n c.bounds-from.result.0 c.bounds-from.result.1 c.bounds-from.ensures
