use Rattle.std.proofs.Common.{◌≡◌, ◌<◌, ◌≤◌, ℕ, List, length}
use Rattle.tb_places.specs.Renumbering.{lowered}
use Rattle.tb_places.specs.Rows.{row_of, KeepsRooms}
use Rattle.tb_places.specs.declared.rows.Rows.{Rows}
use Rattle.tb_places.proofs.rows.Rows.close_gaps.Given as goal

-- the rows in front of this one are done
pub record Closed (n : ℕ) (going : List ℕ) (old new : Rows) : Type 0 where
  pub done : (k : ℕ) → k < n → row_of new k ≡ lowered going (row_of old k)
  pub rest : (k : ℕ) → n ≤ k → row_of new k ≡ row_of old k
  pub len : length new.rows.items ≡ length old.rows.items
  pub room : KeepsRooms old new

abbrev pub invariant-loop-n : goal.invariant-loop-n
invariant-loop-n l = Closed l.n l.going l.fn.self l.self
