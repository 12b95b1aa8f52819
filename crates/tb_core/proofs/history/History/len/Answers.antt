use Rattle.std.proofs.Common.{sym}
use Rattle.tb_core.specs.Soundness.{names_in}
use Rattle.tb_core.specs.Storing.{entries_in}
use Rattle.tb_core.proofs.HistoryLemmas.{front_len}
use Rattle.tb_core.proofs.history.History.len.Goals as goal

pub returns : goal.returns
returns c =
    let i = c.self.inside in
    sym (front_len (names_in i.tables.now) i.entries.now (entries_in i.tables.now i.entries.now) c.args.self.now i.count c.self.invariant.1 c.self.invariant.0 c.self.view_is)
