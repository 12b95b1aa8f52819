use Rattle.std.proofs.Common.{◌≡◌, ◌+◌, ◌-◌, arith, sym, ap, ◌∙◌, subst, get_or}
use Rattle.std.proofs.lemmas.List.Edits.{length-insert, get_or-insert_at, get_or-insert_below, get_or-insert_above}
use Rattle.std.specs.List.{insert}
use Rattle.tb_ready.specs.Order.{IsOrder, IsPlace}
use Rattle.tb_ready.proofs.OrderLemmas.{few, order_in}
use Rattle.tb_ready.proofs.order.put_in.Goals as goal

pub insert-requires-clause-within : goal.insert-requires-clause-within
insert-requires-clause-within c = c.place_of-place.ensures.within

pub insert-requires-clause-room : goal.insert-requires-clause-room
insert-requires-clause-room c =
    let room = few c.args.names.now.tasks c.args.order.now.items c.requires.order c.args.at c.requires.there c.requires.unmarked in
    omega (arith, room, c.requires.room)

pub returns-clause-order : goal.returns-clause-order
returns-clause-order c =
    let place =
    subst (λ n. IsPlace c.args.names.now.tasks c.args.order.now.items n c.place_of-place.result) c.name.ensures.name c.place_of-place.ensures in
    let items = c.insert.ensures.items in
    subst (λ ts. IsOrder ts c.insert.new.self.items) (sym c.set.ensures.tasks) (rw items
    (order_in c.args.names.now.tasks c.args.order.now.items c.requires.order c.name.ensures.unique _ c.place_of-place.result c.args.at
    c.requires.there c.requires.unmarked place
    (length-insert c.args.order.now.items c.place_of-place.result c.args.at place.within)
    (get_or-insert_at c.args.order.now.items c.place_of-place.result c.args.at 0 place.within)
    (λ k h. get_or-insert_below c.args.order.now.items c.place_of-place.result c.args.at 0 k h place.within)
    (λ k h. let e : k ≡ k - 1 + 1 = omega arith in
    ap (λ j. get_or (insert c.args.order.now.items c.place_of-place.result c.args.at) j 0) e
    ∙ get_or-insert_above c.args.order.now.items c.place_of-place.result c.args.at 0 (k - 1) (omega arith) place.within)))
