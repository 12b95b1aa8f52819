use Rattle.std.proofs.Common.{◌∙◌, sym, map, reverse}
use Rattle.tb_steps.specs.Entries.{departure}
use Rattle.tb_steps.specs.Scans.{history_of}
use Rattle.tb_core.specs.Storing.{entries_in}
use Rattle.tb_core.proofs.LendingLemmas.{items_left}
use Rattle.tb_core.proofs.NeedingLemmas.{by_items}
use Rattle.tb_core.proofs.history.History.is_met.Goals as goal

pub returns : goal.returns
returns c none t spawned standing =
    let i = c.self.inside in
    let all = entries_in i.tables.now i.entries.now in
    let left = c.self.invariant.2 in
    let front = c.args.self.now in
    sym (by_items (history_of all) (history_of front) t c.args.task.now (items_left i.tables.now i.places.now all front i.count t left c.self.view_is standing)
    (items_left i.tables.now i.places.now all front i.count c.args.task.now left c.self.view_is spawned))
    ∙ c.is_met.ensures left.cells left.root_line (map departure (reverse all)) left.legal left.state.of_tasks none t
