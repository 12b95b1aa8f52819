use Rattle.std.proofs.Common.{◌≡◌, ◌<◌, ◌-◌, ℕ, false}
use Rattle.tb_model.specs.Items.{is_apart, some_meet}
use Rattle.tb_depend.specs.Relations.{items_at}
use Rattle.tb_depend.proofs.siblings.Siblings.is_met_earlier.Given as goal

abbrev pub invariant-front : goal.invariant-front
invariant-front l = (m : ℕ) → m < l.k → some_meet is_apart (items_at l.self.siblings l.n) (items_at l.self.siblings m) ≡ false

abbrev pub decreases-front : goal.decreases-front
decreases-front l = l.n - l.k
