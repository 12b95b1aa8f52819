-- What a contract sees of the table of tasks.
use Rattle.std.specs.Prelude.{◌≡◌, ℕ, Bool, false, not, ◌&&◌, List, [], ◌∷◌, ◌++◌, Option, Some, None, is_some, unwrap_or, IsTrue, if◌then◌else◌, ⊤}
use Rattle.std.specs.declared.cmp.Ordering.TheVariants.{Less}
use Rattle.std.specs.List.{list_any, filter}
use Rattle.std.specs.Map.{lookup, set_value}
use Rattle.std.specs.Ordering.{is_le}
use Rattle.tb_model.specs.Names.{Name, same_name, name_cmp}

-- the names in the order of spawning, each with its mark, and how many more can be added with no memory
pub record Tasks : Type 0 where
  pub tasks : List (Name × Bool)
  pub room : ℕ

-- the mark of a name, where it is there
abbrev pub mark_of : List (Name × Bool) → Name → Option Bool
mark_of tasks name = lookup (same_name name) tasks

-- with one more name after the others, unmarked, unless it is there
abbrev pub with_name : List (Name × Bool) → Name → List (Name × Bool)
with_name tasks name = if is_some (mark_of tasks name) then tasks else tasks ++ (name, false) ∷ []

-- without the name
abbrev pub without_name : List (Name × Bool) → Name → List (Name × Bool)
without_name tasks name = filter (λ (e : Name × Bool). not (same_name name e.0)) tasks

-- with this mark of the name, where it is there
abbrev pub with_mark : List (Name × Bool) → Name → Bool → List (Name × Bool)
with_mark tasks name mark = set_value (same_name name) tasks mark

-- the name is marked, and none of those to skip
abbrev pub is_candidate : List (Name × Bool) → List Name → Name → Bool
is_candidate tasks skip name = unwrap_or (mark_of tasks name) false && not (list_any (λ s. same_name s name) skip)

-- the least candidate, and none exactly where there is no candidate
abbrev pub IsLeast : List (Name × Bool) → List Name → Option Name → Type 0
IsLeast tasks skip None = (name : Name) → is_candidate tasks skip name ≡ false
IsLeast tasks skip (Some least) =
    IsTrue (is_candidate tasks skip least)
    × ((name : Name) → IsTrue (is_candidate tasks skip name) → IsTrue (is_le (name_cmp least name)))

-- the name comes after the other, where there is one
abbrev pub IsBehind : Option Name → Name → Type 0
IsBehind None name = ⊤
IsBehind (Some after) name = name_cmp after name ≡ Less

-- the name is marked, and comes after the other
pub record IsMarkedBehind (tasks : List (Name × Bool)) (after : Option Name) (name : Name) : Type 0 where
  pub marked : IsTrue (unwrap_or (mark_of tasks name) false)
  pub behind : IsBehind after name
