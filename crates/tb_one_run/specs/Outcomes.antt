-- What the laws of races speak of.
use Rattle.std.specs.Prelude.{◌≡◌, ℤ, [], ◌∷◌, ◌++◌, Bool, false, ◌||◌}
use Rattle.tb_model.specs.declared.action.Action.{Action}
use Rattle.tb_model.specs.declared.action.Action.TheVariants.{Load}
use Rattle.tb_model.specs.declared.event.Event.{Event}
use Rattle.tb_model.specs.Facts.{History, prepend_if}
use Rattle.tb_model.specs.Needs.{step_of}
use Rattle.tb_model.specs.Legal.{Cells}
use Rattle.tb_model.specs.Program.{Program, LegalFor, IsNext}
use Rattle.tb_model.specs.Hindrances.{number_read}
use Rattle.tb_races.specs.Orders.{Order, comes_after}
use Rattle.tb_races.specs.Racing.{IsRace}

-- no task can step
abbrev pub IsFinished : Program → History → Type 0
IsFinished P H = (v : Event) → IsNext P H v → ⊥

-- two events of H race, by the order: each is named by itself with all in front of it
pub record HasRace (o : Order) (H : History) : Type 0 where
  pub newer : History
  pub later : History
  pub earlier : History
  pub split : H ≡ newer ++ later
  pub race : IsRace o later earlier

-- ---- the run that leads to two events

-- the events that pass; each is tested with all in front of it
abbrev pub passing : (History → Bool) → History → History
passing p [] = []
passing p (v ∷ H) = prepend_if (p (v ∷ H)) v (passing p H)

-- the newest event of X comes in front of that of H
abbrev pub is_in_front : Order → History → History → Bool
is_in_front o [] X = false
is_in_front o (v ∷ H) [] = false
is_in_front o (v ∷ H) (u ∷ X) = comes_after o (step_of X u) H v

-- the events of H that come in front of the newest of F or of that of G
abbrev pub leading : Order → History → History → History → History
leading o F G H = passing (λ X. is_in_front o F X || is_in_front o G X) H

-- the action, where a load reads x
abbrev pub with_number : ℤ → Action → Action
with_number x (Load r c y) = Load r c x
with_number x a = a

-- the event, where a load reads what its cell has after H
abbrev pub as_read_at : Cells → History → Event → Event
as_read_at cells H v = record { task = v.task; action = with_number (number_read cells H v.action) v.action }

-- the event, where a load reads what its cell of the program has after H
abbrev pub as_read : Program → History → Event → Event
as_read P H v = as_read_at P.cells H v

-- H is a run of the program, after which both tasks can step next: the one to e, the other to f,
-- but for the value that f reads
pub record IsReal (P : Program) (H : History) (e f : Event) : Type 0 where
  pub run : LegalFor P H
  pub earlier : IsNext P H e
  pub later : IsNext P H (as_read P H f)
