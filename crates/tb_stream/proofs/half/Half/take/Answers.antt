use Rattle.std.proofs.Common.{◌≡◌, ◌+◌, subst, arith, length, ◌∷◌}
use Rattle.tb_stream.specs.Joins.{IsOrder}
use Rattle.tb_stream.specs.Keeping.{AreKept}
use Rattle.tb_stream.proofs.HalfLemmas.{access_is, begins_before, is_event, is_now}
use Rattle.tb_stream.proofs.half.Half.take.Goals as goal

pub returns-clause-newest : goal.returns-clause-newest
returns-clause-newest c exclusion H v half takes r begins =
    let before = half r (begins_before exclusion H v r begins) in
    let now = is_now exclusion H v r begins c.args.tasks.now c.args.action.now c.args.at c.args.task c.args.k takes in
    let event = is_event exclusion H v r begins c.args.tasks.now c.args.action.now c.args.at c.args.task c.args.k takes in
    let placed = c.in_ok-mark.ensures r (length H) before.lanes before.past now takes.at_is in
    (before.lanes, c.in_ok-newest.ensures.newest r (length H) before.lanes placed.lanes placed.added placed.extends event before.kept)

pub returns-clause-half : goal.returns-clause-half
returns-clause-half c exclusion H v half takes r begins =
    let before = half r (begins_before exclusion H v r begins) in
    let now = is_now exclusion H v r begins c.args.tasks.now c.args.action.now c.args.at c.args.task c.args.k takes in
    let event = is_event exclusion H v r begins c.args.tasks.now c.args.action.now c.args.at c.args.task c.args.k takes in
    let placed = c.in_ok-mark.ensures r (length H) before.lanes before.past now takes.at_is in
    let one : length H + 1 ≡ length (v ∷ H) = omega arith in
    let access = access_is exclusion H v r begins c.args.tasks.now c.args.action.now c.args.at c.args.task c.args.k takes placed.lanes _ _ placed.added in record {
      lanes = placed.lanes;
      past = subst (λ m. IsOrder r m placed.lanes c.place.new.order) one placed.past;
      kept = subst (λ m. AreKept r m placed.lanes c.meet.new.kept.entries) one (c.in_ok-newest.ensures.kept r (length H) before.lanes placed.lanes placed.added placed.extends event access before.kept);
    }
