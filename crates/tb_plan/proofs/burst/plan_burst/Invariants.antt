use Rattle.std.proofs.Common.{◌-◌, ◌++◌, ◌∷◌, List}
use Rattle.tb_plan.specs.declared.planned.Plan.{Plan}
use Rattle.tb_plan.specs.Bursts.{Follow, IsBurst}
use Rattle.tb_plan.proofs.burst.plan_burst.Given as goal

-- what follows the last plan completes the burst
abbrev pub invariant-loop : goal.invariant-loop
invariant-loop l = (rest : List Plan) → Follow (63 - l.counter) l.strip l.last rest → IsBurst 63 l.strip l.instr l.config (l.plans.items ++ l.last ∷ rest)
