use Rattle.std.proofs.Common.{◌<◌, sym, subst, length}
use Rattle.tb_ready.proofs.OrderLemmas.{within_order}
use Rattle.tb_ready.proofs.order.index_of.Goals as goal

pub returns-then-k-len : goal.returns-then-k-len
returns-then-k-len c =
    subst (λ i. i < length c.args.names.now.tasks) (sym c.at.ensures)
    (within_order c.args.names.now.tasks c.args.order.now.items c.requires c.args.k (subst (λ n. c.args.k < n) c.len.ensures.len c.if-k-len.true))
