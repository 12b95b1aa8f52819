-- A step changes the row of its task.
use Rattle.std.specs.Prelude.{◌≡◌, ◌⊎◌, ℕ, List, slice_get, slice_set, [], ◌∷◌, Option, Some, None}
use Rattle.tb_model.specs.declared.action.Action.{Action}
use Rattle.tb_model.specs.declared.action.Action.TheVariants.{Spawn}
use Rattle.tb_clocks.specs.Known.{advanced, child_known, generated, known, ordinal_of}
use Rattle.tb_clocks.specs.declared.row.Row.{Row}

-- the row at the id became this one
pub record Sets (task : ℕ) (old new : List Row) (row changed : Row) : Type 0 where
  pub was : slice_get old task ≡ Some row
  pub is : new ≡ slice_set old task changed
  pub parent : changed.parent ≡ row.parent
  pub ordinal : changed.ordinal ≡ row.ordinal

-- the task of the row executed the step
abbrev pub Advances : ℕ → ℕ → Action → List Row → List Row → Type 0
Advances task at a old new = (row : Row) × (changed : Row) × Sets task old new row changed × (known changed ≡ advanced at a (known row))

-- the row says what it said
abbrev pub Stays : ℕ → List Row → List Row → Type 0
Stays task old new = (new ≡ old) ⊎ ((row : Row) × (changed : Row) × Sets task old new row changed × (known changed ≡ known row))

-- a row for the child that the action of this task generates, where it generates one
abbrev pub IsChildRow : ℕ → Action → Option Row → Type 0
IsChildRow task (Spawn s) None = ⊥
IsChildRow task (Spawn s) (Some r) = (known r ≡ child_known s.items) × (r.parent ≡ task) × (r.ordinal ≡ ordinal_of s.child)
IsChildRow task a None = (generated a ≡ [])
IsChildRow task a (Some r) = ⊥

abbrev pub rows_of : Option Row → List Row
rows_of None = []
rows_of (Some r) = r ∷ []
