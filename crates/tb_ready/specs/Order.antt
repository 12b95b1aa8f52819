-- The order of the marked names, as a list of their indexes. No public clause cites this module.
use Rattle.std.specs.Prelude.{◌≡◌, ℕ, suc, ◌-◌, ◌<◌, ◌≤◌, Bool, true, false, List, [], ◌∷◌, Option, length, nat_lt, slice_index, if◌then◌else◌}
use Rattle.std.specs.declared.cmp.Ordering.TheVariants.{Less}
use Rattle.std.specs.Ordering.{is_lt}
use Rattle.tb_model.specs.Names.{Name, name_cmp}
use Rattle.tb_ready.specs.Layout.{name_at, mark_at}
use Rattle.tb_ready.specs.Tasks.{IsBehind}

abbrev pub count_marked : List (Name × Bool) → ℕ
count_marked [] = 0
count_marked (t ∷ ts) = if t.1 then suc (count_marked ts) else count_marked ts

-- the indexes of all marked names, by rising name
pub record IsOrder (tasks : List (Name × Bool)) (order : List ℕ) : Type 0 where
  pub rising : (a b : ℕ) → a < b → b < length order → name_cmp (name_at tasks (slice_index order a)) (name_at tasks (slice_index order b)) ≡ Less
  pub marked : (a : ℕ) → a < length order → mark_at tasks (slice_index order a) ≡ true
  pub all : (i : ℕ) → mark_at tasks i ≡ true → (a : ℕ) × (a < length order) × (slice_index order a ≡ i)
  pub counted : length order ≡ count_marked tasks

-- where the name goes: lesser names in front of it, and none after
pub record IsPlace (tasks : List (Name × Bool)) (order : List ℕ) (name : Name) (place : ℕ) : Type 0 where
  pub within : place ≤ length order
  pub below : (a : ℕ) → a < place → name_cmp (name_at tasks (slice_index order a)) name ≡ Less
  pub above : (a : ℕ) → place ≤ a → a < length order → is_lt (name_cmp (name_at tasks (slice_index order a)) name) ≡ false

-- the index of the first name after this one: none comes after it in front of the index, and all do
-- from there on
pub record IsFirstBehind (tasks : List (Name × Bool)) (order : List ℕ) (after : Option Name) (place : ℕ) : Type 0 where
  pub passed : (a : ℕ) → a < place → IsBehind after (name_at tasks (slice_index order a)) → ⊥
  pub behind : (a : ℕ) → place ≤ a → a < length order → IsBehind after (name_at tasks (slice_index order a))

-- the index that a name has once the one at this index is gone
abbrev pub moved_up : ℕ → ℕ → ℕ
moved_up gone i = if nat_lt gone i then i - 1 else i
