-- The last values of the cells, where only those are stored that were given one.
use Rattle.std.specs.Prelude.{◌≡◌, ◌<◌, ℕ, ℤ, List, length, nat_eq, unwrap_or, ⊤}
use Rattle.std.specs.Map.{lookup}
use Rattle.tb_model.specs.declared.action.Action.{Action}
use Rattle.tb_model.specs.declared.action.Action.TheVariants.{Store}
use Rattle.tb_model.specs.Facts.{History, last, stored_or}
use Rattle.tb_model.specs.Legal.{Cells, first_number}
use Rattle.tb_model.specs.Program.{zero_ℤ}

-- a cell without one holds 0
abbrev pub value_in : List (ℕ × ℤ) → ℕ → ℤ
value_in values c = unwrap_or (lookup (nat_eq c) values) zero_ℤ

-- these are the last values of a history's cells
abbrev pub AreValues : Cells → History → List (ℕ × ℤ) → Type 0
AreValues first H values = (c : ℕ) → c < length first → value_in values c ≡ last (first_number first c) c H

-- both say the same of each cell
abbrev pub AreSameValues : List (ℕ × ℤ) → List (ℕ × ℤ) → Type 0
AreSameValues old new = (c : ℕ) → value_in new c ≡ value_in old c

-- each cell has what the action stored there, or what it had
abbrev pub Stores : Action → List (ℕ × ℤ) → List (ℕ × ℤ) → Type 0
Stores a old new = (c : ℕ) → value_in new c ≡ stored_or c a (value_in old c)

-- the action's value takes no memory
abbrev pub HasRoomFor : Action → ℕ → Type 0
HasRoomFor (Store c x) room = 0 < room
HasRoomFor _ room = ⊤
