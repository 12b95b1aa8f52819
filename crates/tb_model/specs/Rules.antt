-- The eight rules of a legal history, each over the whole list.
use Rattle.std.specs.Prelude.{◌≡◌, ◌≢◌, ◌⊎◌, ℕ, ℤ, List, [], ◌∷◌, ◌++◌, IsTrue}
use Rattle.tb_model.specs.declared.item.Item.{Item}
use Rattle.tb_model.specs.declared.action.Action.{Action}
use Rattle.tb_model.specs.declared.action.Action.TheVariants.{Start, Load, Wait, Close}
use Rattle.tb_model.specs.Names.{Name}
use Rattle.tb_model.specs.Facts.{History, HasEnded, IsSpawned, own, last, before, apart, is_member, covers, holds}
use Rattle.tb_model.specs.Legal.{Cells, first_number, Continues}

-- this action of t is in H, and front is before it
pub record Stands (H : History) (t : Name) (a : Action) (front : History) : Type 0 where
  pub later : History
  pub split : H ≡ later ++ record { task = t; action = a } ∷ front

pub record Rules (cells : Cells) (H : History) : Type 0 where
  -- each task's events are a beginning of a run of a body
  pub own_order : (t : Name) (a : Action) (front : History) → Stands H t a front → Continues cells t (own t front) a
  -- each start but the root's follows the task's spawn
  pub spawned : (t : Name) (front : History) → Stands H t Start front → t ≢ [] → IsSpawned front t
  -- each load has the value of the last store to its cell before it
  pub loaded : (t : Name) (r c : ℕ) (front : History) (x : ℤ) → Stands H t (Load r c x) front → x ≡ last (first_number cells c) c front
  -- each start of t follows the end of every u that is before t
  pub behind : (t u : Name) (front : History) → Stands H t Start front → IsTrue (before H u t) → HasEnded front u
  -- of two started tasks that exclude each other, one ends before the other starts
  pub alone : (t u : Name) (front front' : History) → Stands H t Start front → Stands H u Start front' → IsTrue (apart H u t) → HasEnded front u ⊎ HasEnded front' t
  -- each wait follows the ends of all children spawned before it by its task that it covers
  pub waited : (t u : Name) (items : List Item) (front : History) → Stands H t (Wait items) front → IsTrue (covers H t items u) → IsSpawned front u → HasEnded front u
  -- the event of a task that follows its spawn of an undeferred child comes after the end of that
  -- child
  pub resumed : (t u : Name) (a : Action) (front : History) → Stands H t a front → IsTrue (holds (own t front) u) → HasEnded front u
  -- each close follows the ends of all members of its group
  pub closed : (t m : Name) (front : History) → Stands H t Close front → IsTrue (is_member (own t front) m) → IsSpawned H m → HasEnded front m
