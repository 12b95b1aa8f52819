use Rattle.std.proofs.Common.{length, subst, arith}
use Rattle.tb_depend.specs.Layout.{IsRow}
use Rattle.tb_depend.proofs.NearestLemmas.{near_all, near_more, near_none}
use Rattle.tb_depend.proofs.nearest.near_numbers.Goals as goal

pub loop-item-init : goal.loop-item-init
loop-item-init c =
    let items = c.args.chain.now.items in
    let row = subst (λ xs. IsRow c.args.ends.now (length xs) c.args.n c.bounds-from.result.0 c.bounds-from.result.1) c.items.ensures c.bounds-from.ensures in
    near_none c.args.ends.now items c.requires c.args.n c.bounds-from.result.0 c.bounds-from.result.1 row c.new-near.result.items c.new-near.ensures.items

pub loop-item-preserved : goal.loop-item-preserved
loop-item-preserved c =
    let items = c.args.chain.now.items in
    let row = subst (λ xs. IsRow c.args.ends.now (length xs) c.args.n c.bounds-from.result.0 c.bounds-from.result.1) c.items.ensures c.bounds-from.ensures in
    near_more c.args.ends.now items c.requires c.args.n c.bounds-from.result.0 c.bounds-from.result.1 row c.loop-item.item c.item.result c.loop-item.near.items c.add_near.new.near.items
    (omega (arith, c.loop-item.auto.item)) c.loop-item-test.true c.item.ensures c.in_ok-add_near.ensures c.loop-item.invariant

pub returns : goal.returns
returns c =
    let items = c.args.chain.now.items in
    let row = subst (λ xs. IsRow c.args.ends.now (length xs) c.args.n c.bounds-from.result.0 c.bounds-from.result.1) c.items.ensures c.bounds-from.ensures in
    near_all c.args.ends.now items c.requires c.args.n c.bounds-from.result.0 c.bounds-from.result.1 row c.loop-item.near.items c.loop-item.item (omega (arith, c.loop-item-test.false)) c.loop-item.invariant
