use Rattle.std.proofs.Common.{◌≡◌, false, le-leb, sym, ap, ◌∙◌, arith}
use Rattle.std.proofs.lemmas.Bool.{both_ways}
use Rattle.tb_model.specs.Facts.{is_end}
use Rattle.tb_lanes.specs.Clocks.{ends_so, is_end_at}
use Rattle.tb_order.specs.Pending.{until_of}
use Rattle.tb_lanes.proofs.ClockLemmas.{within_any}
use Rattle.tb_lanes.proofs.FrontLemmas.{entry_read}
use Rattle.tb_order.proofs.PendingLemmas.{not_pending}
use Rattle.tb_order.proofs.pending.may_be_asked.Goals as goal
use Rattle.tb_order.proofs.pending.may_be_asked.Goals.{then-index-from, else-index-from}
use Rattle.tb_steps.proofs.FirstLemmas.{there}

pub returns-else-is_end : goal.returns-else-is_end
returns-else-is_end c late tasks until =
    let entries = c.args.entries.now in
    let pending = c.args.pending.now in
    let q = c.args.early in
    let u = there entries q c.requires.early in
    let listed : c.index.result.now ≡ until_of pending q = within_any pending.until.items q 0 c.index.result.now (omega (arith, c.requires.early, c.requires.listed)) c.index.ensures in
    (elim c.if-index-from.branch [
      | then-index-from w ↦ absurd (both_ways c.if-index-from.value c.if-is_end.false (w.value-is ∙ le-leb c.args.from c.index.result.now w.if-index-from.true))
      | else-index-from w ↦
          let over : is_end_at entries q ≡ false = ap ends_so (entry_read entries q u.0 c.requires.early u.1) ∙ ap is_end (sym (c.action-action.ensures u.0 u.1)) ∙ sym w.is_end.ensures ∙ sym w.value-is ∙ c.if-is_end.false in
          not_pending entries tasks q c.args.from over (λ p l m e. omega (arith, l, until p q m e, listed, w.if-index-from.false)) (c.is_current.ensures late)
    ])
