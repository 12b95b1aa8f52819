-- What blocks a task's action, with ordinals in place of the names of its children and siblings.
use Rattle.std.specs.Prelude.{◌≡◌, ◌<◌, ℕ, zero, suc, Bool, true, Option, Some, None, IsTrue, List, drop, length}
use Rattle.tb_model.specs.declared.action.Action.{Action}
use Rattle.tb_model.specs.Names.{Name, child}
use Rattle.tb_model.specs.Hindrances.{Hindrance}
use Rattle.tb_model.specs.Hindrances as hindrance
use Rattle.tb_depend.specs.Relations.{spawned_items}
use Rattle.tb_wait.specs.Kin.{Tasks as Waits, Kin, kin, IsUnendedChild}
use Rattle.tb_undo.specs.declared.obstacle.Obstacle.{Obstacle}
use Rattle.tb_undo.specs.declared.obstacle.Obstacle.TheVariants as obstacle
use Rattle.tb_undo.specs.Tasks.{Task}
use Rattle.tb_undo.specs.State.{undeferred_at}
pub use Rattle.tb_undo.specs.Undeferred.{is_first}

-- the child of t's parent with this ordinal
abbrev pub sibling : Name → ℕ → Name
sibling t m = child (drop 1 t) m

-- the obstacle of t as a hindrance, with names in place of ordinals
abbrev pub hindrance_by : Name → Obstacle → Hindrance
hindrance_by t (obstacle.Undeferred n) = hindrance.Undeferred (child t n)
hindrance_by t (obstacle.Waiting m) = hindrance.Waiting (sibling t m)
hindrance_by t (obstacle.Excluded m) = hindrance.Excluded (sibling t m)
hindrance_by t (obstacle.Children n) = hindrance.Children (child t n)
hindrance_by t (obstacle.Group m) = hindrance.Group m.now

-- what is stored of a task says that it is over, or there is no such task
abbrev pub is_kin_over : Option Kin → Bool
is_kin_over None = true
is_kin_over (Some k) = k.over

-- the nth child of t is over, or there is no such child
abbrev pub is_child_over : Waits → Name → ℕ → Bool
is_child_over tasks t zero = true
is_child_over tasks t (suc k) = is_kin_over (kin tasks (child t (suc k)))

-- the nth child of t isn't over, and passes the test
pub record IsUnendedWhere (tasks : Waits) (t : Name) (test : ℕ → Bool) (n : ℕ) : Type 0 where
  pub from_one : 0 < n
  pub unended : IsUnendedChild tasks t (child t n)
  pub passes : IsTrue (test n)

-- what is stored of a task with these actions, as far as it says who is in the way
pub record IsKnown (acts : List Action) (k : Task) : Type 0 where
  pub steps : k.steps ≡ length acts
  pub undeferred : k.undeferred ≡ undeferred_at acts
  pub children : k.children ≡ spawned_items acts
