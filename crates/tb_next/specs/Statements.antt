-- Which statements are a `let` with an operator, and which are a `task` line.
use Rattle.std.specs.Prelude.{⊤}
use Rattle.tb_model.specs.declared.statement.Statement.{Statement}
use Rattle.tb_model.specs.declared.statement.Statement.TheVariants.{Compute, Task}

abbrev pub IsCompute : Statement → Type 0
IsCompute (Compute reg left operator right) = ⊤
IsCompute _ = ⊥

abbrev pub IsTask : Statement → Type 0
IsTask (Task line args depends condition) = ⊤
IsTask _ = ⊥
