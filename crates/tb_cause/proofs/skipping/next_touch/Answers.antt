use Rattle.std.proofs.Common.{ℕ, ⊎_elim, nat_eq, sym, subst, arith}
use Rattle.std.proofs.lemmas.Bool.{eqb-true}
use Rattle.tb_model.specs.Facts.{touches}
use Rattle.tb_core.specs.Lending.{IsNoneBetween}
use Rattle.tb_cause.proofs.SkippingLemmas.{any_next, fewer}
use Rattle.tb_cause.proofs.skipping.next_touch.Goals as goal

pub loop-n-preserved : goal.loop-n-preserved
loop-n-preserved c =
    let l = c.loop-n in
    let entries = c.args.indexed.now in
    let from = c.args.from in
    let next = c.min-next.result in
    let cell = c.index.result.now in
    record {
      low = omega (arith, c.min-next.ensures, l.invariant.low, c.next_touch.ensures.from);
      high = omega (arith, c.min-next.ensures, l.invariant.high);
      none = λ d h.
          ⊎_elim (λ old. fewer (λ v. touches d v.action) entries from l.next next (omega (arith, c.min-next.ensures)) (l.invariant.none d old))
          (λ here. fewer (λ v. touches d v.action) entries from c.next_touch.result next (omega (arith, c.min-next.ensures))
          (subst (λ (u : ℕ). IsNoneBetween (λ v. touches u v.action) entries from c.next_touch.result) (sym (eqb-true d cell here)) c.next_touch.ensures.none))
          (any_next (nat_eq d) c.args.set.now.keys l.n cell c.index.ensures h);
    }
