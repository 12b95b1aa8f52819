-- The runs of a program as a reversible transition system: steps, and undos of steps that nothing needs.
use Rattle.std.specs.Prelude.{◌≡◌, ◌≢◌, ℕ, suc, List, [], ◌∷◌, ◌++◌, Bool, true, false, ◌&&◌, ◌==◌, if◌then◌else◌, length, Option, Some, None, IsFalse}
use Rattle.tb_model.specs.declared.action.Action.{Action}
use Rattle.tb_model.specs.declared.event.Event.{Event}
use Rattle.tb_model.specs.declared.step_id.StepId.{StepId}
use Rattle.tb_model.specs.declared.entry.Entry.{Entry}
use Rattle.tb_model.specs.declared.entry.Entry.TheVariants.{Opened, Stepped, Rolled}
use Rattle.tb_model.specs.Facts.{History, own, apart, is_start, prepend_if}
use Rattle.tb_model.specs.Needs.{needs, step_of, is_removed, without}
use Rattle.tb_model.specs.Equivalent.{Equivalent, needs_in, needs_step}
use Rattle.tb_model.specs.Reordering.{IsUnneeded}
use Rattle.tb_model.specs.Journal.{hist}
use Rattle.tb_model.specs.Program.{Program, LegalFor, IsNext}
use Rattle.tb_causal.specs.Systems.{System}

-- a step, or the undo of one: by its id and what it did
pub data Label : Type 0 where
  Step : StepId → Action → Label
  Undo : StepId → Action → Label

-- a step and its undo take each other back
abbrev pub inverse : Label → Label
inverse (Step i a) = Undo i a
inverse (Undo i a) = Step i a

abbrev pub is_undo : Label → Bool
is_undo (Step i a) = false
is_undo (Undo i a) = true

-- the step as an event
abbrev pub event : StepId → Action → Event
event i a = record { task = i.task; action = a }

-- the kth of a task's actions, which are listed from the newest
abbrev pub kth : ℕ → List Action → Option Action
kth k [] = None
kth k (a ∷ acts) = if k == suc (length acts) then Some a else kth k acts

-- a step is its task's next one by the program; what is undone is in the history, with this action,
-- and nothing there needs it
abbrev pub Enabled : Program → History → Label → Type 0
Enabled P H (Step i a) = (i.k ≡ suc (length (own i.task H))) × IsNext P H (event i a)
Enabled P H (Undo i a) = IsUnneeded i H × (kth i.k (own i.task H) ≡ Some a)

-- a step comes at the end; an undo takes its step out, wherever it is
abbrev pub target : History → Label → History
target H (Step i a) = event i a ∷ H
target H (Undo i a) = without i H

-- the two events start tasks that exclude each other
abbrev pub exclude : History → Event → Event → Bool
exclude H v w = (is_start v.action && is_start w.action) && apart H v.task w.task

-- Two transitions from H are independent where neither takes from the other what it needs: of two
-- steps neither directly needs the other after it, and they don't start tasks that exclude each
-- other; a step doesn't directly need what is undone; two undos are of different steps, of which
-- neither directly needs the other
abbrev pub Independent : History → Label → Label → Type 0
Independent H (Step i a) (Step j b) =
    let v = event i a in
    let w = event j b in IsFalse (needs (v ∷ H) w v) × IsFalse (needs (w ∷ H) v w) × IsFalse (exclude H v w)
Independent H (Step i a) (Undo j b) = IsFalse (needs_step H (event i a) j H)
Independent H (Undo i a) (Step j b) = IsFalse (needs_step H (event j b) i H)
Independent H (Undo i a) (Undo j b) = (i ≢ j) × IsFalse (needs_in i j H) × IsFalse (needs_in j i H)

-- the runs of P, by steps and undos
abbrev pub runs : Program → System
runs P = record {
  State = History;
  IsState = LegalFor P;
  Same = Equivalent;
  Label = Label;
  Enabled = Enabled P;
  target = target;
  inverse = inverse;
  is_backward = is_undo;
  Independent = Independent;
}

-- the steps of a history, the first one first
abbrev pub steps_of : History → List Label
steps_of [] = []
steps_of (v ∷ H) = steps_of H ++ Step (step_of H v) v.action ∷ []

-- the undos of a rollback: of the step and all that need it, the newest first
abbrev pub undos : StepId → History → List Label
undos e [] = []
undos e (v ∷ H) = prepend_if (is_removed e H v) (Undo (step_of H v) v.action) (undos e H)

-- what a journal did: its steps, and the undos of its rollbacks
abbrev pub path_of : List Entry → List Label
path_of [] = []
path_of (Opened ∷ J) = []
path_of (Stepped seat v ∷ J) = path_of J ++ Step (step_of (hist J) v) v.action ∷ []
path_of (Rolled seat e ∷ J) = path_of J ++ undos e (hist J)
