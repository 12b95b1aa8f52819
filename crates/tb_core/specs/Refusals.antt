-- The refusals by their codes, and by what the definitions say of a task whose step is blocked.
use Rattle.std.specs.Prelude.{ℕ, Option, Some, None}
use Rattle.tb_model.specs.Hindrances as definition
use Rattle.tb_model.specs.Hindrances.{Refusal, By}
use Rattle.tb_core.specs.declared.step_refusal.StepRefusal.{StepRefusal}
use Rattle.tb_core.specs.declared.step_refusal.StepRefusal.TheVariants.{Memory, NoSuchTask, Ended, Waiting, Excluded, Children, Group, Full, Stale, Undeferred}
use Rattle.tb_core.specs.declared.undo_refusal.UndoRefusal.{UndoRefusal}
use Rattle.tb_core.specs.declared.undo_refusal.UndoRefusal.TheVariants.{Memory as NoMemory, NoSuchStep, Needed, Full as JournalFull}

abbrev pub step_number : StepRefusal → ℕ
step_number Memory = 0
step_number NoSuchTask = 1
step_number Ended = 2
step_number (Waiting pred) = 3
step_number (Excluded by) = 4
step_number (Children first) = 5
step_number (Group first) = 6
step_number Full = 7
step_number (Stale now) = 8
step_number (Undeferred child) = 13

abbrev pub undo_number : UndoRefusal → ℕ
undo_number NoMemory = 0
undo_number NoSuchStep = 1
undo_number (Needed by) = 2
undo_number JournalFull = 3

-- what a step's refusal says of its task, where it says more than that memory or the journal has no
-- capacity
abbrev pub told_by : StepRefusal → Option Refusal
told_by NoSuchTask = Some definition.NoSuchTask
told_by Ended = Some definition.Ended
told_by (Undeferred u) = Some (By (definition.Undeferred u))
told_by (Waiting u) = Some (By (definition.Waiting u))
told_by (Excluded u) = Some (By (definition.Excluded u))
told_by (Children u) = Some (By (definition.Children u))
told_by (Group u) = Some (By (definition.Group u))
told_by Memory = None
told_by Full = None
told_by (Stale now) = None
