use Rattle.std.proofs.Common.{◌≡◌, ◌++◌, map, drop}
use Rattle.tb_model.specs.Program.{value}
use Rattle.tb_plan.proofs.evaluation.args_at.Given as goal

-- the arguments so far and those of the operands that are left are those of all operands
abbrev pub invariant-loop-operand : goal.invariant-loop-operand
invariant-loop-operand l = l.args ++ map (value l.regs) (drop l.operand-index l.operands) ≡ map (value l.regs) l.operands
