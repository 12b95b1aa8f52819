use Rattle.std.proofs.Common.{◌≡◌, ◌≤◌, [], ◌∷◌, ◌++◌, length, map, ap, ◌∙◌, arith, append_assoc, length-append}
use Rattle.std.proofs.lemmas.List.{map-append}
use Rattle.std.specs.Vec.Iter.{into_iter_items}
use Rattle.tb_work.specs.declared.kept.Kept.{Kept}
use Rattle.tb_work.specs.declared.receipt.Receipt.{Receipt}
use Rattle.tb_work.specs.Receipts.{Stands}
use Rattle.tb_work.proofs.Standing.{gap_append, all_append, all_one}
use Rattle.tb_work.proofs.closing.take_all.Goals as goal

pub loop-one-preserved : goal.loop-one-preserved
loop-one-preserved g c =
    let at = c.loop-one in
    let i = at.invariant in
    let x = c.in-Some.one in
    let n = length c.args.journal.now.items in
    let K : Type 0 = Kept g.row.N.Denot g.N.Team g.N.Ledger in
    let f : K → Receipt = λ k. k.receipt in
    let r = x.receipt in
    let had = map f at.yielded in
    let more : map f (at.yielded ++ x ∷ []) ≡ had ++ r ∷ [] = map-append f at.yielded (x ∷ []) in
    let steps : into_iter_items at.one-iterator ≡ x ∷ into_iter_items c.next.new.self = c.in-Some.ensures.steps.0 in
    let short = ap length steps in
    let gone = c.in-Some.ensures.steps.1 in
    let e = c.take_in.ensures in (
      append_assoc at.yielded (x ∷ []) _ ∙ rw (← steps) i.0,
      omega (arith, i.1, gone, short),
      e.told ∙ i.2,
      rw more (e.receipts ∙ ap (λ l. l ++ r ∷ []) i.3 ∙ append_assoc _ had (r ∷ [])),
      omega (arith, e.len, i.4, length-append at.yielded (x ∷ [])),
      e.capacity ∙ i.5,
      rw more (all_append (Stands c.args.journal.now.items) had (r ∷ []) i.6 (all_one (Stands c.args.journal.now.items) r e.stands)),
      rw more (all_append (λ x. g.N.Team.slots.first ≤ x.place) had (r ∷ []) i.7 (all_one (λ x. g.N.Team.slots.first ≤ x.place) r e.at)),
      rw more (gap_append n had (r ∷ []) c.args.gap.now at.gap c.take_in.new.gap i.8 e.gap),
    )
