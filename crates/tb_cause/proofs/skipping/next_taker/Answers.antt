use Rattle.std.proofs.Common.{◌∙◌, sym, subst, arith}
use Rattle.std.proofs.lemmas.Bool.{false≢true}
use Rattle.tb_model.specs.Facts.{is_print}
use Rattle.tb_cause.specs.Keys.{Task, has}
use Rattle.tb_cause.specs.Skipping.{ArePassed}
use Rattle.tb_cause.proofs.SkippingLemmas.{fewer, left_out}
use Rattle.tb_cause.proofs.skipping.next_taker.Goals as goal

pub returns-then-keys : goal.returns-then-keys
returns-then-keys c =
    let entries = c.args.indexed.now in
    let from = c.args.from in
    left_out entries c.history_is_legal.ensures.legal c.args._places.now (has c.args.keys.now) c.requires.given (c.are_few.ensures c.if-not-are_few.false) from c.next_of-next.result c.in_ok-next.next c.next_touch-next.result
    (subst (λ n. ArePassed (λ t. has c.args.keys.now (Task t)) entries from n c.next_of-next.result) c.len.ensures c.next_of-next.ensures)
    c.in_ok-next.ensures c.next_touch-next.ensures c.min.result (omega (arith, c.min.ensures, c.next_touch-next.ensures.low, c.next_print.ensures.from)) (omega (arith, c.min.ensures))
    (λ x. fewer (λ v. is_print v.action) entries from c.next_print.result c.min.result (omega (arith, c.min.ensures)) c.next_print.ensures.none)

pub returns-else-keys : goal.returns-else-keys
returns-else-keys c =
    let entries = c.args.indexed.now in
    let from = c.args.from in
    left_out entries c.history_is_legal.ensures.legal c.args._places.now (has c.args.keys.now) c.requires.given (c.are_few.ensures c.if-not-are_few.false) from c.next_of-next.result c.in_ok-next.next c.next_touch-next.result
    (subst (λ n. ArePassed (λ t. has c.args.keys.now (Task t)) entries from n c.next_of-next.result) c.len.ensures c.next_of-next.ensures)
    c.in_ok-next.ensures c.next_touch-next.ensures c.next_touch-next.result c.next_touch-next.ensures.low (omega arith)
    (λ x. absurd (false≢true (sym c.if-keys.false ∙ x)))
