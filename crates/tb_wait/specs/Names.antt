-- The names of the tasks that were ever generated, by their indexes. No public clause cites this
-- module.
use Rattle.std.specs.Prelude.{◌≡◌, ◌<◌, ℕ, List, Option, IfSome, is_some, length}
use Rattle.std.specs.List.{position, list_any}
use Rattle.tb_model.specs.Names.{Name, same_name}

-- the names, and how many more fit with no memory
pub record Names : Type 0 where
  pub keys : List Name
  pub spare : ℕ

-- o is the first index of t among the names, and None where it isn't there
pub record IsFirstPlace (names : List Name) (t : Name) (o : Option ℕ) : Type 0 where
  pub index : o ≡ position (same_name t) names
  pub found : is_some o ≡ list_any (same_name t) names
  pub within : IfSome o (λ i. i < length names)
