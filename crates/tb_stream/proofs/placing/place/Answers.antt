use Rattle.std.proofs.Common.{refl, subst, sym}
use Rattle.tb_stream.specs.Joins.{IsNow}
use Rattle.tb_stream.specs.Placing.{with_step}
use Rattle.tb_stream.specs.Seen.{IsAdded}
use Rattle.tb_stream.proofs.GrowLemmas.{lane_kept}
use Rattle.tb_stream.proofs.OverLemmas.{old_ends}
use Rattle.tb_stream.proofs.placing.place.Goals as goal

pub returns : goal.returns
returns c r n lanes past now is =
    let begun = c.begin-first.ensures.begun r n lanes past.clocks is now.within now.task in
    let now2 = subst (IsNow r n c.args.tasks.now c.args.action.now) (sym c.begin-first.ensures.task) now in
    let fin = c.in_ok-mark.ensures.past r n lanes past now2 begun in
    let placed = c.in_ok-mark.ensures.placed r n lanes past now2 begun in
    let mark = c.in_ok-mark.mark in
    let next = with_step lanes n c.finish.new.order.clocks.rows.items mark in
    let added = c.in_ok-add.ensures.added r n lanes fin.clocks placed now.action in
    let old = old_ends r n lanes c.finish.new.order fin now.within mark placed _ c.in_ok-add.ensures.rows refl refl refl in record {
      lanes = next;
      extends = lane_kept r n now.within lanes c.finish.new.order.clocks fin.clocks mark placed;
      past = c.in_ok-note_over.ensures.past r n next added old now.facts now.action;
      added = subst (λ k. IsAdded r n next k mark) (sym c.in_ok-note_over.ensures.clocks) added;
    }
