-- The least name with a property, by the order of names.
use Rattle.std.specs.Prelude.{◌≡◌, ◌≢◌, Option, Some}
use Rattle.std.specs.declared.cmp.Ordering.TheVariants.{Greater}
use Rattle.tb_model.specs.Names.{Name, name_cmp}

-- t is u, or comes in front of it
abbrev pub IsAtMost : Name → Name → Type 0
IsAtMost t u = name_cmp t u ≢ Greater

-- o is the least name with the property, and None exactly where no name has it
pub record IsLeastName (P : Name → Type 0) (o : Option Name) : Type 0 where
  pub found : (t : Name) → o ≡ Some t → P t
  pub least : (t : Name) → P t → (u : Name) × (o ≡ Some u) × IsAtMost u t
