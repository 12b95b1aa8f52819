-- Where the elements of a list on the heap are. No public clause cites this module.
use Rattle.std.specs.Prelude.{List, [], ◌∷◌, Option, Some, None, Box}
use Rattle.std.specs.Box.{box_value}
use Rattle.tb_model.specs.declared.heaped.Heaped.{Heaped}
use Rattle.tb_model.specs.declared.heaped.Heaped.TheVariants.{Zero, One, Many}

abbrev pub items_in : {T : Type 0} → Heaped T → List T
items_in Zero = []
items_in (One x) = box_value x ∷ []
items_in (Many b) = (box_value b).items

-- a value that may not be there
abbrev pub value_in : {T Z : Type 0} → Option (Box T Z) → Option T
value_in None = None
value_in (Some b) = Some (box_value b)
