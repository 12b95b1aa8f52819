-- Names of tasks: the path from the task up to the root. The root is the empty list.
use Rattle.std.specs.Prelude.{ℕ, List, [], ◌∷◌, Bool, true, false, ◌&&◌, ◌||◌, ◌==◌, nat_lt, Option, Some, None, reverse, ⊤, ◌<◌}
use Rattle.std.specs.declared.cmp.Ordering.{Ordering}
use Rattle.std.specs.Cmp.Lexicographic.{slice_cmp}
use Rattle.std.specs.Ordering.{nat_cmp}

abbrev pub Name : Type 0
Name = List ℕ

-- the nth child of t
abbrev pub child : Name → ℕ → Name
child t n = n ∷ t

-- children are counted from 1
abbrev pub AreFromOne : Name → Type 0
AreFromOne [] = ⊤
AreFromOne (n ∷ t) = (0 < n) × AreFromOne t

abbrev pub parent : Name → Option Name
parent [] = None
parent (n ∷ t) = Some t

abbrev pub same_name : Name → Name → Bool
same_name [] [] = true
same_name [] (n ∷ u) = false
same_name (m ∷ t) [] = false
same_name (m ∷ t) (n ∷ u) = (m == n) && same_name t u

-- u is a child of t
abbrev pub is_child : Name → Name → Bool
is_child t [] = false
is_child t (n ∷ u) = same_name u t

-- u and t are children of one task, and u comes first in the order of spawning
abbrev pub is_elder : Name → Name → Bool
is_elder [] t = false
is_elder (m ∷ u) [] = false
is_elder (m ∷ u) (n ∷ t) = nat_lt m n && same_name u t

-- m is c, or a descendant of c
abbrev pub is_within : Name → Name → Bool
is_within c [] = same_name c []
is_within c (n ∷ m) = same_name c (n ∷ m) || is_within c m

-- the order of names: ordinal by ordinal from the root, a parent before its children
abbrev pub name_cmp : Name → Name → Ordering
name_cmp a b = slice_cmp nat_cmp (reverse a) (reverse b)
