use Rattle.std.proofs.Common.{ap, length, arith}
use Rattle.tb_ready.proofs.OrderLemmas.{at_most, ok_unless}
use Rattle.tb_ready.proofs.ready.Ready.reserve_add.Goals as goal

pub overflow_sub-len : goal.overflow_sub-len
overflow_sub-len c =
    let most = at_most c.self.inside.names.tasks c.self.inside.order.items c.self.invariant.0 in
    let same = ap length c.reserve.ensures.tasks in
    omega (arith, most, same)

pub returns-clause-succeeds : goal.returns-clause-succeeds
returns-clause-succeeds c room =
    let most = at_most c.self.inside.names.tasks c.self.inside.order.items c.self.invariant.0 in
    let same = ap length c.reserve.ensures.tasks in
    let was = ap (λ v. v.room) c.self.view_is in
    ok_unless c.reserve-2.result c.reserve-2.ensures.full (λ full. omega (arith, most, same, was, room, full))
