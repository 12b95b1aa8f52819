-- Where a task is, as a contract sees it.
use Rattle.std.specs.Prelude.{ℕ, ℤ, List}
use Rattle.tb_undo.specs.Tasks.{Task}

-- a task's line, how many steps it has executed, and its registers
pub record Standing : Type 0 where
  pub at : ℕ
  pub steps : ℕ
  pub regs : List ℤ

abbrev pub standing_of : Task → Standing
standing_of k = record { at = k.at; steps = k.steps; regs = k.regs }
