use Rattle.std.proofs.Common.{◌≡◌, ◌-◌, sym, ◌∙◌, arith}
use Rattle.std.proofs.lemmas.Bool.{false≢true}
use Rattle.tb_lanes.specs.Clocks.{origin}
use Rattle.tb_lanes.specs.Clocks as is
use Rattle.tb_lanes.proofs.ClockLemmas.{within_any}
use Rattle.tb_lanes.proofs.JoinLemmas.{from_origin, not_from_origin}
use Rattle.tb_order.proofs.joining.origin_reaches.Goals as goal

pub returns-then-origin-early : goal.returns-then-origin-early
returns-then-origin-early c asked o entries are inside told =
    let e : c.index-origin.result.now ≡ origin c.args.tasks.now c.args.at =
    within_any c.args.tasks.now.origins.items c.args.at 0 c.index-origin.result.now (omega (arith, c.requires.at, c.requires.shaped.origins_listed)) c.index-origin.ensures in
    (λ h. absurd (false≢true h), λ a. sym (not_from_origin o entries (origin c.args.tasks.now c.args.at) c.args.early (omega (arith, e, c.if-origin-early.true)) inside))

pub returns : goal.returns
returns c asked o entries are inside told =
    let e : c.index-origin.result.now ≡ origin c.args.tasks.now c.args.at =
    within_any c.args.tasks.now.origins.items c.args.at 0 c.index-origin.result.now (omega (arith, c.requires.at, c.requires.shaped.origins_listed)) c.index-origin.ensures in
    let low = c.requires.shaped.low c.args.at c.requires.at in
    let r = c.reaches.ensures asked o entries c.args.at are told (omega (arith, e, low, c.if-origin-early.false)) in
    let from : is.origin_reaches o entries (origin c.args.tasks.now c.args.at) c.args.early ≡ is.reaches o entries (c.index-origin.result.now - 1) c.args.early =
    from_origin o entries (origin c.args.tasks.now c.args.at) c.index-origin.result.now c.args.early (sym e) (omega (arith, e, c.if-origin-early.false)) in
    (λ h. from ∙ r.0 h, λ a. r.1 a ∙ sym from)
