use Rattle.std.proofs.Common.{◌≡◌, ◌≤◌, [], ◌∷◌, ◌++◌, All, None, length, map, ap, subst, ◌∙◌, arith, append_assoc, length-append}
use Rattle.std.specs.Vec.Iter.{into_iter_items}
use Rattle.tb_work.specs.declared.receipt.Receipt.{Receipt}
use Rattle.tb_work.specs.Receipts.{all_receipts, Stands, IsRow}
use Rattle.tb_work.proofs.Standing.{After, gap_append, all_append, all_one, receipts_more, count_more}
use Rattle.tb_work.proofs.closing.take_seats.Goals as goal

pub loop-seat-preserved : goal.loop-seat-preserved
loop-seat-preserved g c =
    let at = c.loop-seat in
    let i = at.invariant in
    let s = c.in-Some.seat in
    let journal = c.args.journal.now.items in
    let from : Receipt → Type 0 = λ r. g.N.Team.slots.first ≤ r.place in
    let n = length journal in
    let more = receipts_more at.yielded s in
    let count = count_more at.yielded s in
    let steps : into_iter_items at.seat-iterator ≡ s ∷ into_iter_items c.next.new.self = c.in-Some.ensures.steps.0 in
    let short = ap length steps in
    let gone = c.in-Some.ensures.steps.1 in
    let p = c.into_parts-kept.ensures in
    let e = c.take_all.ensures in (
      append_assoc at.yielded (s ∷ []) _ ∙ rw (← steps) i.0,
      omega (arith, i.1, gone, short),
      e.told ∙ i.2,
      rw more (e.receipts ∙ ap (λ l. l ++ map (λ k. k.receipt) c.into_parts-kept.result.0.items) i.3 ∙ ap (λ l. all_receipts at.yielded ++ l) p.kept),
      omega (arith, e.len, i.4, count, p.len),
      e.capacity ∙ i.5,
      rw more (all_append (Stands journal) (all_receipts at.yielded) s.receipts i.6 (subst (All (Stands journal)) p.kept e.stands)),
      rw more (all_append from (all_receipts at.yielded) s.receipts i.7 (subst (All from) p.kept e.at)),
      rw more (gap_append n (all_receipts at.yielded) s.receipts None at.gap c.take_all.new.gap i.8 (subst (λ l. After n l at.gap c.take_all.new.gap) p.kept e.gap)),
      omega (arith, i.9, c.audit.ensures.parts, c.merge.ensures.parts, p.parts, length-append at.yielded (s ∷ [])),
      omega (arith, i.10, c.audit.ensures.amount, c.merge.ensures.amount, p.amount, count),
      c.audit.ensures.total ∙ i.11,
      all_append IsRow at.yielded (s ∷ []) i.12 (all_one IsRow s p.row),
    )
