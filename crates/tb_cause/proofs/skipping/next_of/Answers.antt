use Rattle.std.proofs.Common.{⊎_elim, sym, subst, arith}
use Rattle.tb_model.specs.Names.{Name, same_name}
use Rattle.tb_model.specs.Facts.{is_of}
use Rattle.tb_model.proofs.TestLemmas.{same_true}
use Rattle.tb_core.specs.Lending.{IsNoneBetween}
use Rattle.tb_cause.proofs.SkippingLemmas.{any_next, fewer}
use Rattle.tb_cause.proofs.skipping.next_of.Goals as goal

pub loop-n-preserved : goal.loop-n-preserved
loop-n-preserved c =
    let l = c.loop-n in
    let entries = c.args.indexed.now in
    let from = c.args.from in
    let next = c.min-next.result in
    let task = c.index.result.now in
    record {
      low = omega (arith, c.min-next.ensures, l.invariant.low, c.next_of.ensures.from);
      high = omega (arith, c.min-next.ensures, l.invariant.high);
      none = λ t h.
          ⊎_elim (λ old. fewer (is_of t) entries from l.next next (omega (arith, c.min-next.ensures)) (l.invariant.none t old))
          (λ here. fewer (is_of t) entries from c.next_of.result next (omega (arith, c.min-next.ensures)) (subst (λ (u : Name). IsNoneBetween (is_of u) entries from c.next_of.result) (sym (same_true t task here)) c.next_of.ensures.none))
          (any_next (same_name t) c.args.set.now.keys l.n task c.index.ensures h);
    }
