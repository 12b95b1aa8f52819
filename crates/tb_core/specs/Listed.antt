-- Lists of tasks, in the order of names.
use Rattle.std.specs.Prelude.{List, [], ◌∷◌, IsTrue, Some, ⊤}
use Rattle.std.specs.List.{AllByRecursion, list_any}
use Rattle.tb_model.specs.Names.{Name, same_name}
use Rattle.tb_ready.specs.Tasks.{IsBehind}

-- each name comes after those in front of it
abbrev pub Rises : List Name → Type 0
Rises [] = ⊤
Rises (t ∷ ts) = AllByRecursion (IsBehind (Some t)) ts × Rises ts

-- these are all names with the property and no others, in their order
pub record AreAll (P : Name → Type 0) (ts : List Name) : Type 0 where
  pub rise : Rises ts
  pub each : AllByRecursion P ts
  pub whole : (t : Name) → P t → IsTrue (list_any (same_name t) ts)
