use Rattle.std.proofs.Common.{◌≡◌, ◌<◌, length, None, true, refl, sym, ◌∙◌, subst, arith}
use Rattle.tb_lanes.specs.Clocks.{is_end_at}
use Rattle.tb_stream.specs.Seen.{IsOf}
use Rattle.tb_stream.proofs.OverLemmas.{child_is, items_are, order_on, order_over}
use Rattle.tb_stream.proofs.SeenLemmas.{ends_here, id_at}
use Rattle.tb_stream.proofs.placing.note_over.Goals as goal

pub returns-in_ok-note_rows-clause-past : goal.returns-in_ok-note_rows-clause-past
returns-in_ok-note_rows-clause-past c r n lanes added old facts event =
    let k = added.clocks_are.within in
    let w : n < length r.entries = omega (arith, k) in
    let over : is_end_at r.entries n ≡ true = ends_here r n w c.args.action.now event ∙ sym c.is_end.ensures ∙ c.if-is_end.true in
    let task = subst (λ p. IsOf r p c.args.mark.task) added.at added.full.task in
    let id = id_at r n n c.args.mark.task (omega arith) (omega (arith, w)) task w in
    let child = child_is r n w c.parent-parent.result (c.parent-parent.ensures r.legal.cells _ _ facts id) in
    let items = items_are r n w _ (c.items-items.ensures r.legal.cells _ _ facts id) in
    order_over r n lanes c.args.order.now old c.args.mark added over _ refl refl (c.in_ok-note_end.ensures r n lanes None added old.ends) (c.in_ok-note_rows.ensures r n lanes added over child items old.rows)

pub returns-else-is_end-clause-past : goal.returns-else-is_end-clause-past
returns-else-is_end-clause-past c r n lanes added old facts event =
    let k = added.clocks_are.within in
    let w : n < length r.entries = omega (arith, k) in
    order_on r n lanes c.args.order.now old c.args.mark added (ends_here r n w c.args.action.now event ∙ sym c.is_end.ensures ∙ c.if-is_end.false)
