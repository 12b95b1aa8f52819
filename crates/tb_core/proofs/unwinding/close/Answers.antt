use Rattle.std.proofs.Common.{◌<◌, ◌∙◌, length, sym, arith}
use Rattle.tb_core.proofs.CloseLemmas.{closes_first, closes_gone, closes_kept}
use Rattle.tb_core.proofs.unwinding.close.Goals.{then-goes, else-goes}
use Rattle.tb_core.proofs.unwinding.close.Goals as goal

pub loop-at-init : goal.loop-at-init
loop-at-init c = closes_first c.args.going.now c.args.entries.now.items c.first_of-stay.result c.first_of-stay.ensures.first

pub loop-at-preserved : goal.loop-at-preserved
loop-at-preserved c =
    let l = c.loop-at in
    let going = c.args.going.now in
    let old = c.args.entries.now.items in
    let within : l.at < length old = omega (arith, c.loop-at-test.true, c.len-at-end.ensures, c.args.entries.now.ok.0, c.args.entries.now.ok.1) in
    elim c.if-goes.branch [
      | then-goes w ↦ rw (w.entries-is, w.stay-is, w.next-is) (closes_gone going old l.entries.items l.at l.stay l.next l.invariant within (sym c.goes.ensures.goes ∙ w.if-goes.true))
      | else-goes w ↦ rw (w.entries-is, w.stay-is, w.next-is) (closes_kept going old l.entries.items l.at l.stay l.next l.invariant within w.swap.new.self.items w.swap.ensures.by_index.3 (sym c.goes.ensures.goes ∙ w.if-goes.false))
    ]
