use Rattle.tb_core.specs.Soundness.{names_in}
use Rattle.tb_core.specs.Storing.{entries_in}
use Rattle.tb_core.proofs.HistoryLemmas.{whole_front}
use Rattle.tb_core.proofs.history.History.of.Goals as goal

pub returns : goal.returns
returns c = whole_front (names_in c.args.tables.now) c.args.entries.now (entries_in c.args.tables.now c.args.entries.now) c.requires.stored
