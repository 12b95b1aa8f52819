use Rattle.std.proofs.Common.{arith, ap, ◌∙◌, length, get_or}
use Rattle.std.proofs.lemmas.List.{length-map, get_or-map}
use Rattle.tb_ready.specs.Order.{moved_up}
use Rattle.tb_ready.proofs.OrderLemmas.{order_left, none_moves}
use Rattle.tb_ready.proofs.order.close_gap.Goals as goal

pub returns-then-gone-len-clause-order : goal.returns-then-gone-len-clause-order
returns-then-gone-len-clause-order c =
    order_left c.args.names.now.tasks c.args.order.now.items c.requires.order c.args.order.now.items c.args.gone c.requires.there c.requires.unmarked
    (omega arith) (none_moves c.args.names.now.tasks c.args.order.now.items c.requires.order c.args.gone (omega arith))

pub returns-clause-order : goal.returns-clause-order
returns-clause-order c =
    let items = c.move_up.ensures.items in
    let same = length-map c.args.order.now.items (moved_up c.args.gone) in
    order_left c.args.names.now.tasks c.args.order.now.items c.requires.order c.move_up.new.self.items c.args.gone c.requires.there c.requires.unmarked
    (ap length items ∙ same) (λ a h. (λ i. get_or (items i) a 0) ∙ get_or-map (moved_up c.args.gone) c.args.order.now.items a 0 0 (let n = ap length items in omega (arith, h, n, same)))
