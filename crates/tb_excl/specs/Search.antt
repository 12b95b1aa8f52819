-- How the least holder is found. No public clause cites this module.
use Rattle.std.specs.Prelude.{◌≡◌, ◌<◌, ℕ, List, [], ◌∷◌, Option, Some, None, if◌then◌else◌, nat_lt, Box}
use Rattle.std.specs.Box.{box_value}
use Rattle.indexmap.specs.IndexMap.{IndexMap}
use Rattle.tb_model.specs.declared.place.Place.{Place}
use Rattle.tb_model.specs.declared.place.Place.TheVariants.{Cell, All}
use Rattle.tb_model.specs.declared.item.Item.{Item}
use Rattle.tb_model.specs.Names.{Name}
use Rattle.tb_excl.specs.Holders.{Holders, holder, is_exclusive}

abbrev pub seen : Name → List (ℕ × Option ℕ) → Option ℕ → Holders
seen parent cells all = record { parent = parent; cells = cells; all = all }

-- the cells that may not be there yet, each with its holder
abbrev pub entries_in : {S Z : Type 0} → Option (Box (IndexMap ℕ (Option ℕ) S) Z) → List (ℕ × Option ℕ)
entries_in None = []
entries_in (Some map) = (box_value map).entries

-- children are counted from 1
abbrev pub AreFromOne : Holders → Type 0
AreFromOne holders = (p : Place) (n : ℕ) → holder holders p ≡ Some n → 0 < n

abbrev pub lesser : Option ℕ → Option ℕ → Option ℕ
lesser None b = b
lesser (Some m) None = Some m
lesser (Some m) (Some n) = if nat_lt n m then Some n else Some m

-- the least holder of one of these cells
abbrev pub least_held : Holders → List ℕ → Option ℕ
least_held holders [] = None
least_held holders (c ∷ cells) = lesser (holder holders (Cell c)) (least_held holders cells)

-- the least holder of a location that an item of this location meets
abbrev pub holder_at : Holders → List ℕ → Place → Option ℕ
holder_at holders cells (Cell c) = lesser (holder holders (Cell c)) holders.all
holder_at holders cells All = lesser (least_held holders cells) holders.all

-- the least holder that the items exclude
abbrev pub least_holder : Holders → List ℕ → List Item → Option ℕ
least_holder holders cells [] = None
least_holder holders cells (i ∷ items) =
    if is_exclusive i.kind then lesser (holder_at holders cells i.place) (least_holder holders cells items) else least_holder holders cells items
