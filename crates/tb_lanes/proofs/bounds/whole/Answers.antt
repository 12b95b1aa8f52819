use Rattle.std.proofs.Common.{sym, ap, subst, arith}
use Rattle.tb_lanes.specs.Bounds.{IsRising, bound_in}
use Rattle.tb_lanes.proofs.BoundLemmas.{split_bound, split_rising}
use Rattle.tb_lanes.proofs.bounds.whole.Goals as goal

pub join-preserved : goal.join-preserved
join-preserved c =
    let l = c.join in
    let e = c.in-Some.ensures.items in record {
      bounds = λ k.
          omega (arith, split_bound l.left.items c.pop.new.self.items c.in-Some.last e k, c.in_ok-whole.ensures.bounds k, ap (λ r. bound_in r k) c.deref.ensures.value, ap (λ r. bound_in r k) c.deref-in-Some.ensures.value, l.invariant.bounds k);
      rising = λ up. (split_rising l.left.items c.pop.new.self.items c.in-Some.last e (l.invariant.rising up)).0;
      whole = λ up. c.in_ok-whole.ensures.rising (subst IsRising (sym c.deref.ensures.value) (split_rising l.left.items c.pop.new.self.items c.in-Some.last e (l.invariant.rising up)).1) (subst IsRising (sym c.deref-in-Some.ensures.value) (l.invariant.whole up));
    }
