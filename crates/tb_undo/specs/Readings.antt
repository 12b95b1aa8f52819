-- What the tables say of a task: which parent and siblings it has.
use Rattle.std.specs.Prelude.{◌≡◌, ◌<◌, ◌≤◌, ℕ, List, ◌∷◌, Option, Some, IsTrue, drop}
use Rattle.tb_model.specs.declared.item.Item.{Item}
use Rattle.tb_model.specs.Names.{Name, child}
use Rattle.tb_model.specs.Facts.{History, own}
use Rattle.tb_model.specs.State.{is_unended, is_unended_child}
use Rattle.tb_depend.specs.Relations.{spawned_items}
use Rattle.tb_ready.specs.Tasks.{IsBehind}

-- t is the nth child of its parent, whose children have these items
pub record IsNthOf (H : History) (t : Name) (n : ℕ) (children : List (List Item)) : Type 0 where
  pub name : t ≡ n ∷ drop 1 t
  pub named : children ≡ spawned_items (own (drop 1 t) H)

-- t was generated and hasn't ended, and its name comes after the other, where there is one
pub record IsUnendedBehind (H : History) (after : Option Name) (t : Name) : Type 0 where
  pub unended : IsTrue (is_unended H t)
  pub behind : IsBehind after t

-- the least ordinal above `low` of an unended child of t, and None exactly where there is none
pub record IsNextChild (H : History) (t : Name) (low : ℕ) (o : Option ℕ) : Type 0 where
  pub found : (n : ℕ) → o ≡ Some n → (low < n) × IsTrue (is_unended_child H t (child t n))
  pub least : (n : ℕ) → low < n → IsTrue (is_unended_child H t (child t n)) → (m : ℕ) × (o ≡ Some m) × (m ≤ n)
