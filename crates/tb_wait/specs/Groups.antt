-- The groups of a task. No public clause cites this module.
use Rattle.std.specs.Prelude.{ℕ, List}

-- how many children a task had at the beginning of each open group, the innermost first, and of each closed group, the last
-- closed first, and how many more groups fit with no memory
pub record Groups : Type 0 where
  pub groups : List ℕ
  pub shut : List ℕ
  pub room : ℕ
