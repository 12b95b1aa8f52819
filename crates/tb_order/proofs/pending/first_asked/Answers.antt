use Rattle.std.proofs.Common.{◌≡◌, ◌≢◌, ◌<◌, sym, ap, ◌∙◌, arith}
use Rattle.std.proofs.lemmas.Bool.{both_ways}
use Rattle.tb_order.specs.Needed.{is_pending}
use Rattle.tb_order.specs.Pending.{next_of}
use Rattle.tb_lanes.proofs.ClockLemmas.{within_any}
use Rattle.tb_order.proofs.pending.first_asked.Goals as goal

pub on-preserved : goal.on-preserved
on-preserved c =
    let pending = c.args.pending.now in
    let at = c.on.asked in
    let next = c.index-asked.result.now in
    let next_is : next ≡ next_of pending at = within_any pending.nexts.items at 0 next c.on.invariant.inside c.index-asked.ensures in record {
      inside = omega (arith, next_is, c.requires.linked.nexts_in at c.on.invariant.inside);
      passed = λ tasks n lane are.
          let p = c.on.invariant.passed tasks n lane are in
          let here : at < n = omega (arith, c.on.invariant.inside, are.listed) in (
            ap lane next_is ∙ are.same at here ∙ p.0,
            λ q l e f h.
                let le = p.1 q l e f h in
                let other : q ≢ at = λ s. both_ways (is_pending c.args.entries.now tasks c.args.from at) (c.may_be_asked.ensures c.if-not-may_be_asked.true tasks are.until) (ap (is_pending c.args.entries.now tasks c.args.from) (sym s) ∙ h) in
                omega (arith, next_is, are.next at q here (omega (arith, le, other)) l (e ∙ sym p.0)),
          );
    }
