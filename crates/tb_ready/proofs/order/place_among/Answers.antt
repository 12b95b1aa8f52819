use Rattle.std.proofs.Common.{subst}
use Rattle.tb_ready.specs.Order.{IsPlace}
use Rattle.tb_ready.proofs.OrderLemmas.{place_here}
use Rattle.tb_ready.proofs.order.place_among.Goals as goal

pub returns-else-is_at-2-clause-within : goal.returns-else-is_at-2-clause-within
returns-else-is_at-2-clause-within c =
    let place = subst (λ n. IsPlace c.args.names.now.tasks c.args.order.now.items n c.place_of.result) c.name.ensures.name c.place_of.ensures in
    (place_here c.args.names.now.tasks c.args.order.now.items c.requires.order c.args.at c.place_of.result c.requires.marked place).0

pub returns-else-is_at-2-clause-is : goal.returns-else-is_at-2-clause-is
returns-else-is_at-2-clause-is c =
    let place = subst (λ n. IsPlace c.args.names.now.tasks c.args.order.now.items n c.place_of.result) c.name.ensures.name c.place_of.ensures in
    (place_here c.args.names.now.tasks c.args.order.now.items c.requires.order c.args.at c.place_of.result c.requires.marked place).1
