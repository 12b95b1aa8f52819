use Rattle.tb_work.proofs.Plans.{planned_alone, planned_on}
use Rattle.tb_work.proofs.shared.Shared.plans_of.Goals as goal

pub returns-then-is_none : goal.returns-then-is_none
returns-then-is_none g c = planned_alone g.N.Team.program c.args.task.now _ c.new-plans.result.items _ c.new-plans.ensures.items c.in_ok-push.ensures.items c.in_ok-plan.ensures.instr c.in_ok-plan.ensures.config

pub returns : goal.returns
returns g c = planned_on g.N.Team.program c.args.task.now c.strip-strip.result c.plan_burst.result c.strip-strip.ensures c.plan_burst.ensures
