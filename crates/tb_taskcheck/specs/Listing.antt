-- The list of the unended tasks.
use Rattle.std.specs.Prelude.{◌≡◌, ℕ, List, length}
use Rattle.tb_model.specs.Names.{Name}
use Rattle.tb_taskcheck.specs.Report.{names_text}
use Rattle.tb_taskcheck.specs.Unended.{AreUnended}
use Rattle.tb_verdict.specs.Texts.{Sofar, history_in}

-- so many names are unended, and the text has each on a line
pub record ListsUnended (s : Sofar) (out : List ℕ) (n : ℕ) : Type 0 where
  pub names : List Name
  pub all : AreUnended (history_in s) names
  pub text : out ≡ names_text names
  pub count : n ≡ length names
