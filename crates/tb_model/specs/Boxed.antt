-- Where the elements of a list are. No public clause cites this module.
use Rattle.std.specs.Prelude.{List, [], ◌∷◌}
use Rattle.std.specs.Box.{box_value}
use Rattle.std.specs.Arc.{arc_value}
use Rattle.tb_model.specs.declared.listed.Listed.{Listed}
use Rattle.tb_model.specs.declared.listed.Listed.TheVariants.{Zero, One, Many, Shared}

abbrev pub items_in : {T : Type 0} → Listed T → List T
items_in Zero = []
items_in (One x) = x ∷ []
items_in (Many b) = (box_value b).items
items_in (Shared a) = (arc_value a).items
