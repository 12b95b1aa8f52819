-- The tasks of a history that haven't ended, in the order of names.
use Rattle.std.specs.Prelude.{List, [], ◌∷◌, IsTrue, Some, ⊤}
use Rattle.std.specs.List.{AllByRecursion, list_any}
use Rattle.tb_model.specs.Facts.{History}
use Rattle.tb_model.specs.Names.{Name, same_name}
use Rattle.tb_model.specs.State.{is_unended}
use Rattle.tb_ready.specs.Tasks.{IsBehind}

-- each name comes after those in front of it
abbrev pub Rises : List Name → Type 0
Rises [] = ⊤
Rises (t ∷ ts) = AllByRecursion (IsBehind (Some t)) ts × Rises ts

-- these are all unended tasks and no others, in their order
pub record AreUnended (H : History) (ts : List Name) : Type 0 where
  pub rise : Rises ts
  pub each : AllByRecursion (λ t. IsTrue (is_unended H t)) ts
  pub whole : (t : Name) → IsTrue (is_unended H t) → IsTrue (list_any (same_name t) ts)
