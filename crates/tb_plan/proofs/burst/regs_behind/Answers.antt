use Rattle.std.proofs.Common.{arith, to_z-of_z}
use Rattle.tb_plan.proofs.burst.regs_behind.Goals as goal

pub returns-in-Let : goal.returns-in-Let
returns-in-Let c = grind (arith, to_z-of_z, c.in-Let.is)

pub returns-in-Test : goal.returns-in-Test
returns-in-Test c = grind (arith, c.in-Test.is)

pub returns-in_default : goal.returns-in_default
returns-in_default c = grind (arith, c.in_default.not-Let, c.in_default.not-Test)
