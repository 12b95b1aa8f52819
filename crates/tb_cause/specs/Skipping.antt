-- Which stored steps a pass leaves out: those that take none of the keys.
use Rattle.std.specs.Prelude.{◌≡◌, ◌<◌, ◌≤◌, ℕ, List, Bool, false, IsTrue, get_or, length, take}
use Rattle.tb_model.specs.Names.{Name, is_child}
use Rattle.tb_model.specs.Facts.{is_of, touches}
use Rattle.tb_steps.specs.Entries.{Entry}
use Rattle.tb_core.specs.Lending.{IsNoneBetween}
use Rattle.tb_steps.specs.Scans.{history_of}
use Rattle.tb_cause.specs.Indexes.{items_told}
use Rattle.tb_cause.specs.Keys.{Key, Item, takes_any}

-- none of the stored steps from the one index on, in front of the other, asks for one of the keys
pub record LeavesOut (f : Key → Bool) (entries : List Entry) (from next : ℕ) : Type 0 where
  pub low : from ≤ next
  pub high : next ≤ length entries
  pub none : (k : ℕ) (e : Entry) → from ≤ k → k < next → e ≡ get_or entries k e → takes_any f (items_told entries) (history_of (take k entries)) e.event ≡ false

-- there is no key of an end by a depend item
abbrev pub HasNoItems : (Key → Bool) → Type 0
HasNoItems f = (p : Name) (n c : ℕ) → f (Item p n c) ≡ false

-- the next of the stored steps is not in front of this index, and no later than the end: none in
-- between is of one of these tasks
pub record ArePassed (test : Name → Bool) (entries : List Entry) (from end next : ℕ) : Type 0 where
  pub low : from ≤ next
  pub high : next ≤ end
  pub none : (t : Name) → IsTrue (test t) → IsNoneBetween (is_of t) entries from next

-- the next of the stored steps is not in front of this index, and no later than the end: none in
-- between is of a parent of one of these tasks
pub record AreParentsPassed (test : Name → Bool) (entries : List Entry) (from end next : ℕ) : Type 0 where
  pub low : from ≤ next
  pub high : next ≤ end
  pub none : (p u : Name) → IsTrue (test u) → IsTrue (is_child p u) → IsNoneBetween (is_of p) entries from next

-- the next of the stored steps is not in front of this index, and no later than the end: none in
-- between touches one of these cells
pub record AreTouchesPassed (test : ℕ → Bool) (entries : List Entry) (from end next : ℕ) : Type 0 where
  pub low : from ≤ next
  pub high : next ≤ end
  pub none : (c : ℕ) → IsTrue (test c) → IsNoneBetween (λ v. touches c v.action) entries from next
