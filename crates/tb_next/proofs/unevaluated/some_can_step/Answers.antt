use Rattle.std.proofs.Common.{refl, sym, ◌∙◌, ap}
use Rattle.std.specs.Prelude.{is_some}
use Rattle.tb_core.specs.Seen.{history}
use Rattle.tb_core.proofs.WalkLemmas.{fewer}
use Rattle.tb_next.proofs.ReadyLemmas.{passed_on, none_ready, next_ready}
use Rattle.tb_next.proofs.unevaluated.some_can_step.Goals as goal

pub tasks-init : goal.tasks-init
tasks-init c u h = tt

pub tasks-smaller : goal.tasks-smaller
tasks-smaller c = fewer (history c.args.core.now.run) _ c.in-Some.task.now (c.in-Some.ensures.found c.in-Some.task.now refl)

pub tasks-preserved : goal.tasks-preserved
tasks-preserved c =
    passed_on c.args.program.now (history c.args.core.now.run) _ c.tasks.invariant c.in-Some.task.now c.in-Some.ensures (sym c.can_step.ensures ∙ c.if-can_step.false)

pub returns-then-can_step : goal.returns-then-can_step
returns-then-can_step c =
    sym (ap is_some (next_ready c.args.program.now (history c.args.core.now.run) _ c.tasks.invariant c.in-Some.task.now c.in-Some.ensures (sym c.can_step.ensures ∙ c.if-can_step.true)))

pub returns : goal.returns
returns c = sym (ap is_some (none_ready c.args.program.now (history c.args.core.now.run) _ c.tasks.invariant c.in_default.ensures))
