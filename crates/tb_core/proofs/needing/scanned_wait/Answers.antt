use Rattle.std.proofs.Common.{◌≡◌, ◌<◌, ◌∙◌, length, false, sym, subst, arith}
use Rattle.tb_core.specs.Needing.{may_wait_for}
use Rattle.tb_steps.proofs.FirstLemmas.{there}
use Rattle.tb_core.proofs.NeedingLemmas.{none_waits}
use Rattle.tb_core.proofs.needing.scanned_wait.Goals as goal

pub past-init : goal.past-init
past-init c = record { from = omega arith; within = c.requires.from; none = λ k v u low high. absurd (omega (arith, low, high)) }

pub past-preserved : goal.past-preserved
past-preserved c =
    let es = c.args.entries.now in
    let at = c.args.at in
    let next = c.past.next in
    let inside : next < length es = omega (arith, c.past-test.true, c.len-end.ensures) in
    let within : at < length es = omega (arith, c.requires.at, c.requires.from) in
    let u = there es at within in
    let w = there es next inside in
    let some = c.args.is_met in
    let apart : may_wait_for some w.0.event.action w.0.event.task u.0.event.task ≡ false =
    subst (λ a. may_wait_for some a w.0.event.task u.0.event.task ≡ false) (c.action.ensures w.0 w.1)
    (subst (λ t. may_wait_for some c.action.result.now t u.0.event.task ≡ false) (c.task.ensures w.0 w.1)
    (subst (λ t. may_wait_for some c.action.result.now c.task.result.now t ≡ false) (c.task-ended.ensures u.0 u.1) (sym c.may_wait_for.ensures ∙ c.if-may_wait_for.false))) in
    record {
      from = omega (arith, c.past.invariant.from);
      within = omega (arith, inside);
      none = none_waits some es at c.args.from next u.0 w.0 c.is_legal.ensures c.requires.at c.past.invariant.from inside u.1 w.1 (c.requires.end u.0 u.1) c.requires.starts apart c.past.invariant.none;
    }
