use Rattle.std.proofs.Common.{◌<◌, length, refl, sym, ap, ◌∙◌, arith}
use Rattle.std.proofs.lemmas.Bool.{or_left}
use Rattle.std.proofs.lemmas.Option.{slice_get_read}
use Rattle.tb_races.specs.Orders.{counts_some}
use Rattle.tb_lanes.specs.Linking.{order_of}
use Rattle.tb_lanes.proofs.ClockLemmas.{or_if}
use Rattle.tb_lanes.proofs.LinkLemmas.{end_linked}
use Rattle.tb_order.proofs.waiting.waits.Goals as goal
use Rattle.tb_steps.proofs.FirstLemmas.{there}

pub returns-then-are_of_one : goal.returns-then-are_of_one
returns-then-are_of_one c end =
    let entries = c.args.entries.now in
    let inside : c.args.end < length entries = omega (arith, c.requires.at, c.requires.end) in
    let x = there entries c.args.at c.requires.at in
    let y = there entries c.args.end inside in
    sym
    (end_linked (order_of c.args.exclusion) entries c.args.at c.args.end c.requires.at inside x.0 y.0 x.1 y.1 end
    ∙ or_left _ _ (sym (c.are_of_one.ensures x.0 y.0 x.1 y.1) ∙ c.if-are_of_one.true))

pub returns : goal.returns
returns c end =
    let entries = c.args.entries.now in
    let inside : c.args.end < length entries = omega (arith, c.requires.at, c.requires.end) in
    let x = there entries c.args.at c.requires.at in
    let y = there entries c.args.end inside in
    c.counts.ensures
    ∙ ap (counts_some (order_of c.args.exclusion))
    (c.waiting_kind.ensures x.0 y.0 (slice_get_read entries (length entries) c.args.at x.0 refl c.requires.at x.1) (slice_get_read entries (length entries) c.args.end y.0 refl inside y.1))
    ∙ sym
    (end_linked (order_of c.args.exclusion) entries c.args.at c.args.end c.requires.at inside x.0 y.0 x.1 y.1 end
    ∙ or_if _ _ (sym (c.are_of_one.ensures x.0 y.0 x.1 y.1) ∙ c.if-are_of_one.false))
