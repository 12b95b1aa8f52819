-- How the items of all children lie in one list. No public clause cites this module.
use Rattle.std.specs.Prelude.{◌≡◌, ℕ, zero, suc, List, [], ◌∷◌, ◌<◌, ◌≤◌, ◌-◌, ◌⊎◌, length, replicate, slice_index, Option, Some, None, Box}
use Rattle.std.specs.Box.{box_value}
use Rattle.std.specs.List.{slice_range}
use Rattle.tb_model.specs.declared.item.Item.{Item}
use Rattle.tb_depend.specs.Table.{Table}

-- the items of each child, where the first child's begin here and each child's end at its index
abbrev pub rows_from : ℕ → List ℕ → List Item → List (List Item)
rows_from start [] items = []
rows_from start (e ∷ ends) items = slice_range items start e ∷ rows_from e ends items

-- the ends don't fall, and the last one is the end of the list
abbrev pub AreEnds : ℕ → List ℕ → ℕ → Type 0
AreEnds start [] len = start ≡ len
AreEnds start (e ∷ ends) len = (start ≤ e) × AreEnds e ends len

-- where the items of the child after the first k begin
abbrev pub start_at : ℕ → List ℕ → ℕ → ℕ
start_at start ends zero = start
start_at start ends (suc k) = slice_index ends k

-- where the last child's items end
abbrev pub end_of : ℕ → List ℕ → ℕ
end_of start [] = start
end_of start (e ∷ ends) = end_of e ends

-- the items of the nth child begin and end at these indexes, and there are none where there is no
-- such child
pub record IsRow (ends : List ℕ) (len n from to : ℕ) : Type 0 where
  pub order : from ≤ to
  pub within : to ≤ len
  pub there : ((0 < n) × (n ≤ length ends) × (from ≡ start_at 0 ends (n - 1)) × (to ≡ slice_index ends (n - 1))) ⊎ (((n ≡ 0) ⊎ (length ends < n)) × (from ≡ 0) × (to ≡ 0))

-- so many children without items, with capacity for so many in all
abbrev pub bare_table : ℕ → ℕ → Table
bare_table count room = record { siblings = replicate count []; places = room - count; item_places = 0; link_places = 0; cells = []; number_places = room }

-- what is seen of the children, of which there are no lists while none has an item
abbrev pub seen : {Z : Type 0} → ℕ → ℕ → Option (Box Table Z) → Table
seen count room None = bare_table count room
seen count room (Some lists) = box_value lists
