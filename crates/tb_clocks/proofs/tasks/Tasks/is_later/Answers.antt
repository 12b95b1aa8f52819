use Rattle.std.proofs.Common.{arith, sym, ◌∙◌}
use Rattle.tb_clocks.specs.Known.{parent_of}
use Rattle.tb_clocks.proofs.TreeLemmas.{found, goes_up, none_further}
use Rattle.tb_clocks.proofs.tasks.Tasks.is_later.Goals.{else-parent-task-via-then-parent-task+else-low-ordinal, else-parent-task-via-else-parent-task}
use Rattle.tb_clocks.proofs.tasks.Tasks.is_later.Goals as goal

pub returns-then-low-ordinal : goal.returns-then-low-ordinal
returns-then-low-ordinal c cells H t m a id other =
    let led = c.up.invariant.led cells H t m a id other in
    sym (led.2 ∙ found cells H t c.args.task c.args.low a.legal id led.0 c.up.at c.in-Some.parent c.in-Some.ordinal led.1 (c.in-Some.ensures.up cells H led.0 a led.1) c.in-Some.ensures.lower c.if-parent-task.true c.if-low-ordinal.true)

pub up-preserved : goal.up-preserved
up-preserved c = record {
  led = λ cells H t m a id other.
      let led = c.up.invariant.led cells H t m a id other in
      let above = c.in-Some.ensures.up cells H led.0 a led.1 in (
        parent_of led.0,
        above.parent,
        led.2 ∙ goes_up cells H t c.args.task c.args.low a.legal id led.0 c.up.at c.in-Some.parent c.in-Some.ordinal led.1 above c.in-Some.ensures.lower
            (λ p q. elim c.else-parent-task.branch [ else-parent-task-via-then-parent-task+else-low-ordinal w ↦ absurd (omega (arith, q, w.if-low-ordinal.false)) | else-parent-task-via-else-parent-task w ↦ w.if-parent-task.false p ]),
      );
}

pub returns : goal.returns
returns c cells H t m a id other =
    let led = c.up.invariant.led cells H t m a id other in
    sym (led.2 ∙ none_further cells H t c.args.task c.args.low a.legal id led.0 c.up.at led.1 c.up-test.false)
