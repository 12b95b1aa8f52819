-- How the children of one task relate to each other, by the items of each in the order of spawning.
-- OpenMP 5.2, 15.9.5 depend Clause, and 15.5 taskwait Construct.
use Rattle.std.specs.Prelude.{ℕ, zero, suc, List, [], ◌∷◌, ◌++◌, Bool, ◌&&◌, ◌||◌, nat_lt, length, slice_index_or}
use Rattle.tb_model.specs.declared.item.Item.{Item}
use Rattle.tb_model.specs.declared.action.Action.{Action}
use Rattle.tb_model.specs.declared.action.Action.TheVariants.{Spawn}
use Rattle.tb_model.specs.Items.{is_before, is_apart, some_meet, has_no_items}
use Rattle.tb_depend.specs.Numbers.{numbers_where}

-- the items of the nth child, and none where there is no such child
abbrev pub items_at : List (List Item) → ℕ → List Item
items_at siblings zero = []
items_at siblings (suc k) = slice_index_or siblings k []

-- the nth child depends on the mth
abbrev pub depends : List (List Item) → ℕ → ℕ → Bool
depends siblings n m = nat_lt m n && some_meet is_before (items_at siblings n) (items_at siblings m)

-- the nth child and the mth exclude each other
abbrev pub excludes : List (List Item) → ℕ → ℕ → Bool
excludes siblings n m =
    (nat_lt m n && some_meet is_apart (items_at siblings n) (items_at siblings m))
    || (nat_lt n m && some_meet is_apart (items_at siblings m) (items_at siblings n))

-- a `taskwait` with these items waits for the nth child
abbrev pub is_covered : List (List Item) → List Item → ℕ → Bool
is_covered siblings items n = has_no_items items || some_meet is_before items (items_at siblings n)

-- the ordinals of the children on which the nth depends
abbrev pub preds_of : List (List Item) → ℕ → List ℕ
preds_of siblings n = numbers_where (depends siblings n) (length siblings)

-- the ordinals of the children that the nth excludes, before it and after it
abbrev pub apart_of : List (List Item) → ℕ → List ℕ
apart_of siblings n = numbers_where (excludes siblings n) (length siblings)

-- the ordinals of the children that a `taskwait` with these items waits for
abbrev pub covered_by : List (List Item) → List Item → List ℕ
covered_by siblings items = numbers_where (is_covered siblings items) (length siblings)

-- the items of a task's children in the order of spawning, read off its own actions, the newest first
abbrev pub spawned_items : List Action → List (List Item)
spawned_items [] = []
spawned_items (Spawn s ∷ acts) = spawned_items acts ++ s.items ∷ []
spawned_items (_ ∷ acts) = spawned_items acts
