-- The table of dependences: an item of a new task against an item of an earlier sibling.
-- OpenMP 5.2, 15.9.5 depend Clause.
use Rattle.std.specs.Prelude.{◌≡◌, ◌⊎◌, List, [], ◌∷◌, Bool, true, false, ◌&&◌, ◌==◌}
use Rattle.std.specs.List.{Any, list_any}
use Rattle.tb_model.specs.declared.kind.Kind.{Kind}
use Rattle.tb_model.specs.declared.kind.Kind.TheVariants.{In, Out, Inout, Mutexinoutset, Inoutset}
use Rattle.tb_model.specs.declared.place.Place.{Place}
use Rattle.tb_model.specs.declared.place.Place.TheVariants.{Cell, All}
use Rattle.tb_model.specs.declared.item.Item.{Item}

-- nothing follows, the new task depends on the earlier one, or the two exclude each other
pub data Relation : Type 0 where
  Free : Relation
  Before : Relation
  Apart : Relation

-- the new task's kind first, then the earlier one's
abbrev pub relation : Kind → Kind → Relation
relation In In = Free
relation In _ = Before
relation Out _ = Before
relation Inout _ = Before
relation Mutexinoutset Mutexinoutset = Apart
relation Mutexinoutset _ = Before
relation Inoutset Inoutset = Free
relation Inoutset _ = Before

-- the earlier task comes before the new one
abbrev pub is_before : Relation → Bool
is_before Before = true
is_before Free = false
is_before Apart = false

-- the two tasks exclude each other
abbrev pub is_apart : Relation → Bool
is_apart Apart = true
is_apart Free = false
is_apart Before = false

-- the two name one storage location: one cell, or one of them is all memory
abbrev pub same_place : Place → Place → Bool
same_place (Cell c) (Cell d) = c == d
same_place (Cell c) All = true
same_place All p = true

-- the new item and the earlier one match, and their entry of the table passes the test
abbrev pub meets : (Relation → Bool) → Item → Item → Bool
meets test new old = same_place new.place old.place && test (relation new.kind old.kind)

-- some item of the new task and some item of the earlier one do: every pair counts
abbrev pub some_meet : (Relation → Bool) → List Item → List Item → Bool
some_meet test new old = list_any (λ i. list_any (meets test i) old) new

-- a `taskwait` without a depend clause names no items
abbrev pub has_no_items : List Item → Bool
has_no_items [] = true
has_no_items (i ∷ items) = false

-- ---- the same as a rule, which the tests above decide

-- one cell, or one of the two is all memory
abbrev pub IsOnePlace : Place → Place → Type 0
IsOnePlace p q = (p ≡ q) ⊎ ((p ≡ All) ⊎ (q ≡ All))

-- some pair of items names one storage location and has this entry in the table
abbrev pub Relates : Relation → List Item → List Item → Type 0
Relates r new old =
    Any (λ (i : Item). Any (λ (j : Item). IsOnePlace i.place j.place × (relation i.kind j.kind ≡ r)) old) new
