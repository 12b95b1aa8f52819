-- The relations of a task's children, read off its own actions.
use Rattle.std.specs.Prelude.{ℕ, suc, List, [], ◌∷◌, Bool, false, ◌&&◌, ◌||◌, ◌==◌, nat_lt, nat_le, length, if◌then◌else◌}
use Rattle.tb_model.specs.declared.item.Item.{Item}
use Rattle.tb_model.specs.declared.action.Action.{Action}
use Rattle.tb_model.specs.declared.action.Action.TheVariants.{Spawn}
use Rattle.tb_model.specs.Names.{Name, same_name}
use Rattle.tb_model.specs.Items.{is_before, is_apart, some_meet, has_no_items}
use Rattle.tb_model.specs.Legal.{spawn_count}

-- the items of the nth child
abbrev pub nth_items : ℕ → List Action → List Item
nth_items n [] = []
nth_items n (Spawn s ∷ acts) = if n == suc (spawn_count acts) then s.items else nth_items n acts
nth_items n (_ ∷ acts) = nth_items n acts

-- the nth child depends on the mth
abbrev pub child_before : List Action → ℕ → ℕ → Bool
child_before acts m n = nat_lt m n && some_meet is_before (nth_items n acts) (nth_items m acts)

-- the mth child and the nth exclude each other
abbrev pub child_apart : List Action → ℕ → ℕ → Bool
child_apart acts m n =
    (nat_lt m n && some_meet is_apart (nth_items n acts) (nth_items m acts))
    || (nat_lt n m && some_meet is_apart (nth_items m acts) (nth_items n acts))

-- a `taskwait` with these items waits for the nth child
abbrev pub child_covered : List Action → List Item → ℕ → Bool
child_covered acts items n = has_no_items items || some_meet is_before items (nth_items n acts)

-- ---- the members of an open group, known by one ordinal

-- how many children the task had generated at its kth action
abbrev pub children_at : ℕ → List Action → ℕ
children_at k [] = 0
children_at k (a ∷ acts) = if nat_le k (length acts) then children_at k acts else spawn_count (a ∷ acts)

-- m is a child of t with an ordinal above n, or a descendant of one
abbrev pub is_later : Name → ℕ → Name → Bool
is_later t n [] = false
is_later t n (j ∷ m) = (nat_lt n j && same_name t m) || is_later t n m
