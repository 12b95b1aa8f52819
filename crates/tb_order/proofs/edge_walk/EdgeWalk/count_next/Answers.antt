use Rattle.std.proofs.Common.{ap, arith, reverse, take}
use Rattle.tb_order.proofs.CauseLemmas.{places_told}
use Rattle.tb_order.proofs.DirectLemmas.{direct_nearest}
use Rattle.tb_order.proofs.EdgeLemmas.{count_more, falling_few}
use Rattle.tb_order.proofs.edge_walk.EdgeWalk.count_next.Goals as goal
use Rattle.tb_steps.proofs.FirstLemmas.{there}

pub returns-clause-count : goal.returns-clause-count
returns-clause-count c =
    let entries = c.args.entries.now in
    let n = c.args.at in
    let w = c.requires.at in
    let x = there entries n w in
    let places = c.in_ok-places.places.items in
    let near = ap reverse (direct_nearest entries n w places c.in_ok-places.ensures.places) in
    let more = count_more entries n x.0 w x.1 places (places_told (take n entries) x.0.event (reverse places) near) in
    omega (arith, more, c.len.ensures)

pub returns-clause-few : goal.returns-clause-few
returns-clause-few c =
    let is = c.in_ok-places.ensures.places in
    omega (arith, falling_few c.args.at c.in_ok-places.places.items is.falling (λ i l. (is.each i l).front), c.len.ensures)
