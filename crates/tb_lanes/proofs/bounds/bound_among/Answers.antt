use Rattle.std.proofs.Common.{sym, ap, ◌∙◌, subst, arith}
use Rattle.tb_lanes.specs.Bounds.{IsRising, bound_in}
use Rattle.tb_lanes.proofs.BoundLemmas.{among_more}
use Rattle.tb_lanes.proofs.bounds.bound_among.Goals as goal

pub loop-row-preserved : goal.loop-row-preserved
loop-row-preserved c up =
    let l = c.loop-row in
    let v = c.row-item.result in
    let rising : IsRising v.items = subst IsRising (ap (λ w. w.items) (sym c.row-item.is)) (up l.row-index v c.loop-row-test.true) in
    let told = c.bound.ensures (subst IsRising (sym c.deref.ensures.value) rising) ∙ ap (λ r. bound_in r c.args.lane) c.deref.ensures.value in
    omega (arith, among_more c.args.rows.now l.row-index v c.args.lane c.loop-row-test.true c.row-item.is, told, c.max-most.ensures, l.invariant up)
