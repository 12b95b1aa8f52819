use Rattle.std.proofs.Common.{arith}
use Rattle.tb_wait.proofs.NumbersLemmas.{below_len, search_up, search_down}
use Rattle.tb_wait.proofs.many.gap.Goals as goal

pub loop-low-init : goal.loop-low-init
loop-low-init c =
    let len = c.args.items.now.ok.0 in
    let most = below_len c.args.n c.args.items.now.items in
    record { low = omega arith; high = omega (arith, most, len, c.len-high.ensures); within = omega (arith, len, c.len-high.ensures) }

pub loop-low-preserved-then-number_at-n : goal.loop-low-preserved-then-number_at-n
loop-low-preserved-then-number_at-n c =
    let h = c.loop-low.invariant in
    let up = search_up 0 c.args.items.now.items c.requires.0 c.args.n c.probe-middle.result 0 c.requires.1
    (omega (arith, c.probe-middle.ensures.below, h.within)) (omega (arith, c.number_at.ensures, c.if-number_at-n.true)) in
    record { low = omega (arith, up); high = h.high; within = h.within }

pub loop-low-preserved : goal.loop-low-preserved
loop-low-preserved c =
    let h = c.loop-low.invariant in
    let down = search_down 0 c.args.items.now.items c.requires.0 c.args.n c.probe-middle.result 0 c.requires.1
    (omega (arith, c.probe-middle.ensures.below, h.within)) (omega (arith, c.number_at.ensures, c.if-number_at-n.false)) in
    record { low = h.low; high = down; within = omega (arith, c.probe-middle.ensures.below, h.within) }
