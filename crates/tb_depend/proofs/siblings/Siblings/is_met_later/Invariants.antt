use Rattle.std.proofs.Common.{◌<◌, ◌≤◌, ◌-◌, ℕ, length}
use Rattle.tb_depend.specs.Met.{IsFreeOf}
use Rattle.tb_depend.proofs.siblings.Siblings.is_met_later.Given as goal

abbrev pub invariant-later : goal.invariant-later
invariant-later l = (m : ℕ) → l.n < m → m ≤ l.k → IsFreeOf l.self.siblings m l.n

abbrev pub decreases-later : goal.decreases-later
decreases-later l = length l.self.siblings - l.k
