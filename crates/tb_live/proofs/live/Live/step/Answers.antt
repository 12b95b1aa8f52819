use Rattle.std.proofs.Common.{ap}
use Rattle.tb_next.proofs.ComingLemmas.{next_of}
use Rattle.tb_live.proofs.FloorAfterLemmas.{floor_after}
use Rattle.tb_live.proofs.StepLemmas.{longer, live_steps, enters_held}
use Rattle.tb_live.specs.Session.{Held}
use Rattle.tb_live.proofs.live.Live.step.Goals as goal

pub enter_step-requires-clause-next : goal.enter_step-requires-clause-next
enter_step-requires-clause-next c =
    let i = c.self.inside in
    next_of i.program i.core.run c.args.task.now c.in-Ok.coming c.in-Ok.ensures.ok

pub enter_step-requires-clause-shorter : goal.enter_step-requires-clause-shorter
enter_step-requires-clause-shorter c =
    let i = c.self.inside in
    longer i.program i.limit i.journal.items i.core.run c.self.invariant.0

pub invariant_of-self : goal.invariant_of-self
invariant_of-self c =
    let i = c.self.inside in
    let k = c.in-Ok.ensures.ok in
    let l = live_steps i.program i.limit i.journal.items i.control i.core.run c.args.self.now.session (ap (λ (h : Held). h.session) c.self.view_is) (c.self.invariant.0, c.self.invariant.1) c.args.task.now k.plan k.of_task
    c.enter_step.new.journal.items c.enter_step.new.control c.enter_step.new.core.run c.enter_step.result (c.enter_step.ensures.entered k.plan k.says k.of_task.current)
    in (
      l.keeps.sound,
      l.keeps.lawful,
      c.enter_step.ensures.serves i.program c.self.invariant.2,
      floor_after i.limit 0 i.program i.core.run c.enter_step.new.core.run c.args.task.now k.plan i.journal.items c.enter_step.new.journal.items i.control c.enter_step.new.control c.enter_step.result c.self.invariant.0.fits k.of_task
          (c.enter_step.ensures.entered k.plan k.says k.of_task.current) i.floor c.enter_step.new.floor c.enter_step.ensures.carried c.enter_step.ensures.stays c.self.invariant.3,
    )

pub returns-clause-stepped : goal.returns-clause-stepped
returns-clause-stepped c =
    let i = c.self.inside in
    let k = c.in-Ok.ensures.ok in
    (live_steps i.program i.limit i.journal.items i.control i.core.run c.args.self.now.session (ap (λ (h : Held). h.session) c.self.view_is) (c.self.invariant.0, c.self.invariant.1) c.args.task.now k.plan k.of_task
    c.enter_step.new.journal.items c.enter_step.new.control c.enter_step.new.core.run c.enter_step.result (c.enter_step.ensures.entered k.plan k.says k.of_task.current)).answer

pub returns-clause-kept : goal.returns-clause-kept
returns-clause-kept c =
    let i = c.self.inside in
    let k = c.in-Ok.ensures.ok in
    enters_held i.program i.limit i.journal.items c.enter_step.new.journal.items i.control c.enter_step.new.control i.prepared c.enter_step.new.prepared c.args.self.now c.self.view_is 0 i.core.run c.enter_step.new.core.run k.plan c.enter_step.result (c.enter_step.ensures.entered k.plan k.says k.of_task.current) c.enter_step.ensures.kept
