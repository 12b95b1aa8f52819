-- What a listed race says.
use Rattle.std.specs.Prelude.{◌≡◌, ◌∷◌, ◌++◌, Bool, true, false, Some, IsTrue}
use Rattle.tb_model.specs.declared.event.Event.{Event}
use Rattle.tb_model.specs.Facts.{History}
use Rattle.tb_model.specs.Needs.{step_of}
use Rattle.tb_races.specs.declared.race.Race.{Race}
use Rattle.tb_races.specs.Orders.{Order, Synchronised, WithExclusion}
use Rattle.tb_races.specs.Racing.{conflict, IsRace}

-- where a race is said to be apart all count, else those that exclusion leaves
abbrev pub order_of : Bool → Order
order_of true = Synchronised
order_of false = WithExclusion

-- r says of v, after H, with which event it races, over what, and whether exclusion separates the
-- two: it is the newest such event, and where it says apart v has no race that isn't
pub record IsRow (H : History) (v : Event) (r : Race) : Type 0 where
  pub between : History
  pub event : Event
  pub front : History
  pub split : H ≡ between ++ event ∷ front
  pub earlier : r.earlier ≡ step_of front event
  pub later : r.later ≡ step_of H v
  pub conflict : conflict v event ≡ Some r.conflict
  pub race : IsRace (order_of r.apart) (v ∷ H) (event ∷ front)
  pub newest : (newer : History) (w : Event) (older : History) → between ≡ newer ++ w ∷ older → IsRace (order_of r.apart) (v ∷ H) (w ∷ (older ++ event ∷ front)) → ⊥
  pub apart : IsTrue r.apart → (G : History) → IsRace WithExclusion (v ∷ H) G → ⊥
