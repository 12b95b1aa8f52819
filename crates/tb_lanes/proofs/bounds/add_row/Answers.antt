use Rattle.std.proofs.Common.{sym, ap, ◌∙◌, subst, arith, option_to_list, ◌++◌}
use Rattle.tb_lanes.specs.Bounds.{IsRising, bound_in}
use Rattle.tb_lanes.proofs.BoundLemmas.{split_bound, split_rising}
use Rattle.tb_lanes.proofs.bounds.add_row.Goals as goal

pub halve-preserved : goal.halve-preserved
halve-preserved c =
    let l = c.halve in
    let e = c.pop.ensures.items ∙ ap (λ r. c.pop.new.self.items ++ option_to_list r) c.unwrap-last.ensures in record {
      bounds = λ k.
          omega (arith, split_bound l.rows.items c.pop.new.self.items c.unwrap-last.result e k, c.in_ok-whole.ensures.bounds k, ap (λ r. bound_in r k) c.deref.ensures.value, ap (λ r. bound_in r k) c.deref-in-halve.ensures.value, l.invariant.bounds k);
      rising = λ up last. (split_rising l.rows.items c.pop.new.self.items c.unwrap-last.result e (l.invariant.rising up last)).0;
      whole = λ up last. c.in_ok-whole.ensures.rising (subst IsRising (sym c.deref.ensures.value) (split_rising l.rows.items c.pop.new.self.items c.unwrap-last.result e (l.invariant.rising up last)).1) (subst IsRising (sym c.deref-in-halve.ensures.value) (l.invariant.whole up last));
    }

pub returns-clause-bounds : goal.returns-clause-bounds
returns-clause-bounds c k = split_bound c.push.new.self.items c.halve.rows.items c.halve.whole c.in_ok-push.ensures.items k ∙ c.halve.invariant.bounds k
