use Rattle.std.proofs.Common.{◌≡◌, ◌<◌, length, refl, sym, ap, ◌∙◌, arith}
use Rattle.tb_order.specs.Pending.{first_of}
use Rattle.tb_lanes.proofs.ClockLemmas.{within_any}
use Rattle.tb_order.proofs.LaneMoreLemmas.{pending_moved}
use Rattle.tb_order.proofs.pending.settle.Goals as goal

pub returns-then-lane-len-clause-pending : goal.returns-then-lane-len-clause-pending
returns-then-lane-len-clause-pending c tasks n lane are =
    let old = c.args.pending.now in
    let k = c.args.lane in
    let inside : k < length old.firsts.items = omega (arith, c.if-lane-len.true, c.len.ensures, old.firsts.ok) in
    let first : c.index.result.now ≡ first_of old k = within_any old.firsts.items k 0 c.index.result.now inside c.index.ensures in
    let moved = c.first_asked-first.ensures.pending tasks n lane are in
    pending_moved old _ k c.first_asked-first.result inside refl refl refl refl c.args.entries.now tasks n c.args.from lane are (moved.0 ∙ ap lane first)
    (λ q l e f h. moved.1 q l (e ∙ ap lane (sym first)) (omega (arith, first, f)) h)
