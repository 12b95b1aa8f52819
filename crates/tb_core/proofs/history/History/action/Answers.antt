use Rattle.tb_core.specs.Soundness.{names_in}
use Rattle.tb_core.specs.Storing.{entries_in}
use Rattle.tb_core.proofs.HistoryLemmas.{stored_here}
use Rattle.tb_core.proofs.history.History.action.Goals as goal

pub returns : goal.returns
returns c e is =
    let i = c.self.inside in
    (stored_here (names_in i.tables.now) i.entries.now (entries_in i.tables.now i.entries.now) c.args.self.now i.count c.self.invariant.1 c.self.invariant.0 c.self.view_is c.args.at c.entry_in.result.now e c.requires c.entry_in.ensures is).action
