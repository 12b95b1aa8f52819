use Rattle.tb_core.specs.Storing.{entries_in}
use Rattle.tb_core.proofs.LendingLemmas.{front_left}
use Rattle.tb_core.proofs.history.History.is_legal.Goals as goal

pub returns : goal.returns
returns c =
    let i = c.self.inside in
    front_left i.tables.now i.places.now (entries_in i.tables.now i.entries.now) c.args.self.now i.count c.self.invariant.2 c.self.view_is
