-- How the table lies in a map from names to keys, and a slab of marks. No public clause cites this module.
use Rattle.std.specs.Prelude.{◌≡◌, ℕ, zero, suc, ◌<◌, Bool, true, false, not, ◌&&◌, List, [], ◌∷◌, Option, None, is_some, unwrap_or, slice_index_or, nat_eq, if◌then◌else◌, length}
use Rattle.tb_model.specs.Names.{Name}

-- the mark at a key
abbrev pub mark_in : List (Option Bool) → ℕ → Bool
mark_in slots key = unwrap_or (slice_index_or slots key None) false

abbrev pub tasks_of : List (Name × ℕ) → List (Option Bool) → List (Name × Bool)
tasks_of [] slots = []
tasks_of (e ∷ es) slots = (e.0, mark_in slots e.1) ∷ tasks_of es slots

-- some entry has the key
abbrev pub has_key : List (Name × ℕ) → ℕ → Bool
has_key [] key = false
has_key (e ∷ es) key = if nat_eq e.1 key then true else has_key es key

-- each entry's key has a mark, and no two entries share a key
abbrev pub are_kept : List (Name × ℕ) → List (Option Bool) → Bool
are_kept [] slots = true
are_kept (e ∷ es) slots = is_some (slice_index_or slots e.1 None) && (not (has_key es e.1) && are_kept es slots)

-- the name and the mark at an index
abbrev pub name_at : List (Name × Bool) → ℕ → Name
name_at [] i = []
name_at (t ∷ ts) zero = t.0
name_at (t ∷ ts) (suc i) = name_at ts i

abbrev pub mark_at : List (Name × Bool) → ℕ → Bool
mark_at [] i = false
mark_at (t ∷ ts) zero = t.1
mark_at (t ∷ ts) (suc i) = mark_at ts i

-- the mark at an index is this
abbrev pub set_at : List (Name × Bool) → ℕ → Bool → List (Name × Bool)
set_at [] i mark = []
set_at (t ∷ ts) zero mark = (t.0, mark) ∷ ts
set_at (t ∷ ts) (suc i) mark = t ∷ set_at ts i mark

-- no name is at two indexes
abbrev pub AreUnique : List (Name × Bool) → Type 0
AreUnique tasks = (i j : ℕ) → i < length tasks → j < length tasks → name_at tasks i ≡ name_at tasks j → i ≡ j

-- the name is at the index
pub record StandsAt (tasks : List (Name × Bool)) (name : Name) (at : ℕ) : Type 0 where
  pub within : at < length tasks
  pub is : name_at tasks at ≡ name
