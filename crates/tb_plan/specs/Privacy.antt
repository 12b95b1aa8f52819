-- Statements that a task takes by itself.
use Rattle.std.specs.Prelude.{Bool, true, false, Option, Some, None, if◌then◌else◌}
use Rattle.tb_model.specs.declared.statement.Statement.{Statement}
use Rattle.tb_model.specs.declared.statement.Statement.TheVariants.{Let as DoLet, Compute as DoCompute, Test as DoTest}
use Rattle.tb_plan.specs.declared.private.Private.{Private}
use Rattle.tb_plan.specs.declared.private.Private.TheVariants.{Let, Compute, Test}

-- the statement reads and writes registers of its task, and nothing else
abbrev pub is_private : Statement → Bool
is_private (DoLet r a) = true
is_private (DoCompute r a o b) = true
is_private (DoTest c) = true
is_private _ = false

abbrev pub private_statement : Statement → Option Statement
private_statement s = if is_private s then Some s else None

abbrev pub statement_of : Private → Statement
statement_of (Let r a) = DoLet r a
statement_of (Compute r a o b) = DoCompute r a o b
statement_of (Test c) = DoTest c
