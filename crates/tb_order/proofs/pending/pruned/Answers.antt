use Rattle.std.proofs.Common.{filter, ap, ◌∙◌}
use Rattle.tb_order.specs.Pending.{is_left}
use Rattle.tb_order.proofs.LeftLemmas.{part_left}
use Rattle.tb_order.proofs.pending.pruned.Goals as goal

pub returns-clause-part : goal.returns-clause-part
returns-clause-part c =
    let row = c.args.row.now in
    part_left _ row c.in_ok-left.left.items (c.in_ok-left.ensures ∙ ap (λ firsts. filter (is_left firsts) row) c.deref.ensures.value)
