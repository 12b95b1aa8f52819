-- What a rollback answers.
use Rattle.std.specs.Prelude.{◌≡◌, List, ◌∷◌, IsTrue, IsFalse}
use Rattle.tb_model.specs.declared.action.Action.{Action}
use Rattle.tb_model.specs.declared.step_id.StepId.{StepId}
use Rattle.tb_model.specs.Equivalent.{stands}
use Rattle.tb_core.specs.declared.removed.Removed.{Removed}
use Rattle.tb_core.specs.Seen.{Seen, history}
use Rattle.tb_roll.specs.declared.roll_refusal.RollRefusal.{RollRefusal}
use Rattle.tb_roll.specs.declared.roll_refusal.RollRefusal.TheVariants.{Memory, NoSuchStep, Full}

-- the step was there, and it is returned first
pub record TellsFirst (s : Seen) (e : StepId) (answer : List Removed) : Type 0 where
  pub stood : IsTrue (stands e (history s))
  pub action : Action
  pub others : List Removed
  pub first : answer ≡ (record { id = e; action = action }) ∷ others

-- why a step isn't taken back with all that need it: here no journal can be full
abbrev pub Stays : Seen → StepId → RollRefusal → Type 0
Stays s e Memory = IsTrue (stands e (history s))
Stays s e NoSuchStep = IsFalse (stands e (history s))
Stays s e Full = ⊥
