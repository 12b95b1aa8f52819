use Rattle.std.proofs.Common.{refl, sym, ap, not, drop, codes, arith}
use Rattle.std.proofs.lemmas.Result.{err_from_is_err_and}
use Rattle.tb_runs.specs.Reading.{begins, item_in}
use Rattle.tb_runs.proofs.ListedLemmas.{behind_none, one_more, one_faulty, too_many, all_read}
use Rattle.tb_runs.proofs.items.take_items.Goals as goal

pub clauses-init : goal.clauses-init
clauses-init c = record { all = rw c.new-items.ensures (behind_none _) }

pub returns-in_err-item-clause-err : goal.returns-in_err-item-clause-err
returns-in_err-item-clause-err c fault is =
    let p = err_from_is_err_and c.from_residual.result c.from_residual.ensures.1 in
    let q = one_faulty (λ words. not (begins (codes "depend") words)) (λ words. item_in c.args.on_wait c.args.cells (drop 1 words)) _ c.in_err-item.field-0.0 _ _ _
    (ap not (sym c.clauses-test.ensures.next)) (rw (← c.clauses-test.ensures.rest) c.in_err-item.ensures.err) c.clauses.invariant.all in
    cc

pub returns-then-room-eq0-clause-err : goal.returns-then-room-eq0-clause-err
returns-then-room-eq0-clause-err c fault is =
    let q = too_many (λ words. not (begins (codes "depend") words)) (λ words. item_in c.args.on_wait c.args.cells (drop 1 words)) _ c.in_ok-item.item c.clauses.room c.clauses.words c.take_item.new.words _
    (ap not (sym c.clauses-test.ensures.next)) (rw (← c.clauses-test.ensures.rest) c.in_ok-item.ensures.ok) c.if-room-eq0.true c.clauses.invariant.all in
    cc

pub clauses-preserved : goal.clauses-preserved
clauses-preserved c = record {
  all = rw c.in_ok-push.ensures.ok
      (one_more (λ words. not (begins (codes "depend") words)) (λ words. item_in c.args.on_wait c.args.cells (drop 1 words)) _ _ _ _ _ _ _
      (ap not (sym c.clauses-test.ensures.next)) (rw (← c.clauses-test.ensures.rest) c.in_ok-item.ensures.ok) (omega arith) refl c.clauses.invariant.all);
}

pub returns-clause-ok : goal.returns-clause-ok
returns-clause-ok c =
    rw c.clauses-test.ensures.rest
    (all_read (λ words. not (begins (codes "depend") words)) (λ words. item_in c.args.on_wait c.args.cells (drop 1 words)) _ _ _ _ (ap not (sym c.clauses-test.ensures.next)) c.clauses.invariant.all)
