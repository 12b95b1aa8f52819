use Rattle.std.proofs.Common.{sym, ◌∙◌}
use Rattle.tb_lanes.proofs.AfterLemmas.{at_is, at_read}
use Rattle.tb_lanes.proofs.GroupLemmas.{close_from}
use Rattle.tb_races.specs.Orders.{Synchronised}
use Rattle.tb_order.proofs.grouping.first_asked.Goals as goal

pub returns-in-Close : goal.returns-in-Close
returns-in-Close c =
    let entries = c.args.entries.now in
    let p = c.args.at in
    let w = c.requires.at in
    close_from entries c.args.tasks.now c.requires.tasks c.requires.legal p w (sym (c.action.ensures _ (at_is Synchronised entries p w)) ∙ c.in-Close.is) c.opened.result c.opened.ensures.within
    (c.opened.ensures.none _ (at_read Synchronised entries p w))
