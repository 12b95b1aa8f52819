-- The walk from a task up to the root.
use Rattle.std.specs.Prelude.{◌≡◌, ◌-◌, ℕ, drop, length, Option, Some, None, List, [], ◌∷◌}
use Rattle.tb_model.specs.Facts.{History}
use Rattle.tb_model.specs.Names.{Name}
use Rattle.tb_clocks.specs.Known.{HasId, ordinal_of, parent_of}
use Rattle.tb_clocks.specs.declared.group.Group.{Group}

-- the id of t's parent, and t's ordinal among its children
pub record IsAbove (H : History) (t : Name) (p n : ℕ) : Type 0 where
  pub parent : HasId H p (parent_of t)
  pub ordinal : n ≡ ordinal_of t

abbrev pub IsStepUp : History → Name → Option (ℕ × ℕ) → Type 0
IsStepUp H t None = t ≡ []
IsStepUp H t (Some above) = IsAbove H t above.0 above.1

-- the innermost of these groups
abbrev pub first_of : List Group → Option Group
first_of [] = None
first_of (g ∷ gs) = Some g

-- the first n events
abbrev pub older : ℕ → History → History
older n H = drop (length H - n) H
