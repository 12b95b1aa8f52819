use Rattle.std.proofs.Common.{ap, ◌∙◌, sym, subst, length, arith, false, [], ◌∷◌}
use Rattle.std.proofs.lemmas.List.{length-append}
use Rattle.tb_ready.specs.Order.{IsOrder}
use Rattle.tb_ready.proofs.OrderLemmas.{order_push}
use Rattle.tb_ready.proofs.ready.Ready.add_reserved.Goals as goal

pub invariant_of-self : goal.invariant_of-self
invariant_of-self c =
    let was = ap (λ v. v.room) c.self.view_is in
    let more = ap length c.push.ensures.tasks ∙ length-append c.self.inside.names.tasks ((c.args.name, false) ∷ []) in
    let room = c.requires.room in (
      subst (λ ts. IsOrder ts c.self.inside.order.items) (sym c.push.ensures.tasks)
          (order_push c.self.inside.names.tasks c.self.inside.order.items c.self.invariant.0 c.args.name),
      omega (arith, was, more, room),
    )
