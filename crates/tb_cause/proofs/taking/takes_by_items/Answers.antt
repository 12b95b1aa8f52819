use Rattle.std.proofs.Common.{ap, sym, ◌∙◌}
use Rattle.tb_cause.specs.Indexes.{items_told}
use Rattle.tb_cause.specs.Keys.{has, items_any}
use Rattle.tb_cause.proofs.taking.takes_by_items.Goals as goal

pub returns-in_ok-taken-in-Start : goal.returns-in_ok-taken-in-Start
returns-in_ok-taken-in-Start c =
    let I = items_told c.args.indexed.now in
    c.in_ok-taken-in-Start.ensures I (sym c.items_of.ensures) ∙ ap (items_any (has c.args.keys.now) I c.args.task.now) (sym c.in-Start.is)
