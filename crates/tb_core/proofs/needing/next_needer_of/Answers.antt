use Rattle.std.proofs.Common.{◌<◌, length, sym, ◌∙◌, arith}
use Rattle.tb_steps.proofs.FirstLemmas.{there}
use Rattle.tb_core.proofs.NeedingLemmas.{none_own, none_own_next}
use Rattle.tb_core.proofs.needing.next_needer_of.Goals as goal

pub own-init : goal.own-init
own-init c = record {
  from = omega (arith, c.min-next.ensures, c.next_of.ensures.from, c.requires.from);
  to = omega (arith, c.min-next.ensures);
  none = none_own c.args.entries.now c.args.at c.args.from c.next_of.result c.min-next.result c.args.task.now (omega (arith, c.min-next.ensures)) c.next_of.ensures.none;
}

pub own-preserved : goal.own-preserved
own-preserved c =
    let es = c.args.entries.now in
    let at = c.args.at in
    let next = c.own.next in
    let inside : next < length es = omega (arith, c.own-test.true, c.requires.to) in
    let within : at < length es = omega (arith, c.requires.at, c.requires.from, c.requires.to, inside, c.own.invariant.from) in
    let u = there es at within in
    let w = there es next inside in
    record {
      from = omega (arith, c.min-next-in-own.ensures, c.next_of-in-own.ensures.from, c.own.invariant.from, c.own-test.true);
      to = omega (arith, c.min-next-in-own.ensures);
      none = none_own_next es at c.args.from next c.next_of-in-own.result c.min-next-in-own.result c.args.task.now u.0 w.0 within inside u.1 w.1
          (sym (c.needs.ensures w.0 u.0 w.1 u.1) ∙ c.if-needs.false) (omega (arith, c.min-next-in-own.ensures)) c.own.invariant.none c.next_of-in-own.ensures.none;
    }
