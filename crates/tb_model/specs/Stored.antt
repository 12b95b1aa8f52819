-- Where the ordinals of a name are. No public clause cites this module.
use Rattle.std.specs.Prelude.{◌<◌, ◌≤◌, ◌++◌, ℕ, List, [], length, ⊤}
use Rattle.std.specs.Arc.{arc_value}
use Rattle.tb_model.specs.declared.stored.Stored.{Stored}
use Rattle.tb_model.specs.declared.stored.Stored.TheVariants.{Zero, One, Two, Three, Few, Shared, Deep}
use Rattle.tb_model.specs.declared.lent.Lent.{Lent}
use Rattle.tb_model.specs.declared.lent.Lent.TheVariants.{Slice, Spread}
use Rattle.tb_model.specs.Blocks.{far_numbers, IsSplit}

abbrev pub numbers_in : Stored → List ℕ
numbers_in Zero = []
numbers_in (One a) = a
numbers_in (Two a) = a
numbers_in (Three a) = a
numbers_in (Few a) = a
numbers_in (Shared a) = (arc_value a).items
numbers_in (Deep a) = (arc_value a).near.items ++ far_numbers (arc_value a).far.items

-- what is lent of a name
abbrev pub lent_numbers : Lent → List ℕ
lent_numbers (Slice numbers) = numbers.now
lent_numbers (Spread numbers) = numbers

-- what is on the heap is more than would be in the value, and blocks are there for more than one
abbrev pub IsShortest : Stored → Type 0
IsShortest Zero = ⊤
IsShortest (One a) = ⊤
IsShortest (Two a) = ⊤
IsShortest (Three a) = ⊤
IsShortest (Few a) = 3 < length a
IsShortest (Shared a) = (3 < length (arc_value a).items) × (length (arc_value a).items ≤ 128)
IsShortest (Deep a) = (0 < length (arc_value a).far.items) × IsSplit (arc_value a).near.items (arc_value a).far.items
