use Rattle.std.proofs.Common.{◌≡◌, ◌<◌, ◌+◌, ◌-◌, ℕ, length}
use Rattle.tb_places.specs.Rows.{row_of, GrowsRooms}
use Rattle.tb_places.specs.declared.rows.Rows.{Rows}
use Rattle.tb_places.proofs.rows.Rows.grow.Given as goal

-- what is added is empty, and nothing is where the row is there
pub record Grown (n : ℕ) (old new : Rows) : Type 0 where
  pub same : (k : ℕ) → row_of new k ≡ row_of old k
  pub keeps : GrowsRooms old new
  pub there : n < length old.rows.items → new ≡ old

abbrev pub invariant-loop-self : goal.invariant-loop-self
invariant-loop-self l = Grown l.n l.initial.self l.self

abbrev pub decreases-loop-self : goal.decreases-loop-self
decreases-loop-self l = (l.n + 1) - l.self.rows.len
