use Rattle.std.proofs.Common.{◌≡◌, ◌-◌, sym, ◌∙◌, arith}
use Rattle.tb_lanes.specs.Clocks.{origin}
use Rattle.tb_lanes.proofs.ClockLemmas.{within_any}
use Rattle.tb_lanes.proofs.OwnLemmas.{no_items_told, items_told}
use Rattle.tb_order.proofs.waiting.items_of.Goals as goal

pub returns-then-origin-eq0 : goal.returns-then-origin-eq0
returns-then-origin-eq0 c n l i v is =
    let t = c.requires.tasks in
    let e : c.index-origin.result.now ≡ origin c.args.tasks.now c.args.at = within_any c.args.tasks.now.origins.items c.args.at 0 c.index-origin.result.now (omega (arith, t.shaped.origins_listed, t.numbers_listed, c.requires.at)) c.index-origin.ensures in
    sym (no_items_told c.args.entries.now c.args.tasks.now t c.args.at c.requires.at v is c.requires.legal n i (sym e ∙ c.if-origin-eq0.true))

pub named_items-requires : goal.named_items-requires
named_items-requires c =
    let t = c.requires.tasks in
    let e : c.index-origin.result.now ≡ origin c.args.tasks.now c.args.at = within_any c.args.tasks.now.origins.items c.args.at 0 c.index-origin.result.now (omega (arith, t.shaped.origins_listed, t.numbers_listed, c.requires.at)) c.index-origin.ensures in
    omega (arith, e, t.shaped.low c.args.at (omega (arith, t.numbers_listed, c.requires.at)), c.requires.at)

pub returns : goal.returns
returns c n l i v is =
    let t = c.requires.tasks in
    let e : c.index-origin.result.now ≡ origin c.args.tasks.now c.args.at = within_any c.args.tasks.now.origins.items c.args.at 0 c.index-origin.result.now (omega (arith, t.shaped.origins_listed, t.numbers_listed, c.requires.at)) c.index-origin.ensures in
    let low = t.shaped.low c.args.at (omega (arith, t.numbers_listed, c.requires.at)) in
    items_told c.args.entries.now c.args.tasks.now t c.args.at c.requires.at v is c.requires.legal n (c.index-origin.result.now - 1) l i (omega (arith, e, low, c.requires.at)) (omega (arith, e, c.if-origin-eq0.false)) c.named_items.result.now c.named_items.ensures
