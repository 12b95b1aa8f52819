use Rattle.std.proofs.Common.{◌<◌, sym, subst, length}
use Rattle.tb_ready.proofs.OrderLemmas.{within_order}
use Rattle.tb_ready.proofs.order.marked.Goals as goal

pub name-requires : goal.name-requires
name-requires c =
    subst (λ i. i < length c.args.names.now.tasks) (sym c.at.ensures)
    (within_order c.args.names.now.tasks c.args.order.now.items c.requires.order c.args.k c.requires.there)
