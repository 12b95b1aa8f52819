use Rattle.std.proofs.Common.{◌∙◌, map, reverse}
use Rattle.tb_steps.specs.Entries.{departure}
use Rattle.tb_core.specs.Storing.{entries_in}
use Rattle.tb_core.proofs.LendingLemmas.{items_left}
use Rattle.tb_core.proofs.history.History.items.Goals as goal

pub returns : goal.returns
returns c spawned =
    let i = c.self.inside in
    let all = entries_in i.tables.now i.entries.now in
    let left = c.self.invariant.2 in
    c.items.ensures left.cells left.root_line (map departure (reverse all)) left.legal left.state.of_tasks
    ∙ items_left i.tables.now i.places.now all c.args.self.now i.count c.args.task.now left c.self.view_is spawned
