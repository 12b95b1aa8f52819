use Rattle.std.proofs.Common.{arith, sym, ap, ◌∙◌, length, get_or, subst}
use Rattle.std.proofs.lemmas.List.Edits.{length-remove, get_or-remove_below, get_or-remove_above}
use Rattle.tb_ready.specs.Order.{IsOrder}
use Rattle.tb_ready.proofs.OrderLemmas.{order_out}
use Rattle.tb_ready.proofs.order.take_out.Goals as goal

pub returns-clause-order : goal.returns-clause-order
returns-clause-order c =
    let items = c.remove.ensures.items in
    let within = c.place_among-place.ensures.within in
    subst (λ ts. IsOrder ts c.remove.new.self.items) (sym c.set.ensures.tasks)
    (order_out c.args.names.now.tasks c.args.order.now.items c.requires.order c.remove.new.self.items c.place_among-place.result c.args.at
    c.requires.there c.requires.marked within c.place_among-place.ensures.is
    (let n = ap length items in let less = length-remove c.args.order.now.items c.place_among-place.result within in omega (arith, n, less))
    (λ k h. (λ i. get_or (items i) k 0) ∙ get_or-remove_below c.args.order.now.items c.place_among-place.result 0 k h within)
    (λ k h. (λ i. get_or (items i) k 0) ∙ get_or-remove_above c.args.order.now.items c.place_among-place.result 0 k h within))
