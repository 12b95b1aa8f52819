-- What a refusal names.
use Rattle.std.specs.Prelude.{◌≡◌, ◌<◌, ⊤, Some, length}
use Rattle.tb_model.specs.Names.{Name}
use Rattle.tb_model.specs.Hindrances.{Hindrance, By, Undeferred, Waiting, Excluded, Children, Group}
use Rattle.tb_plan.specs.declared.config.Config.{Config}
use Rattle.tb_undo.specs.Standings.{Standing}
use Rattle.tb_undo.specs.declared.obstacle.Obstacle.{Obstacle}
use Rattle.tb_undo.specs.declared.obstacle.Obstacle.TheVariants as obstacle
use Rattle.tb_core.specs.declared.step_refusal.StepRefusal.{StepRefusal}
use Rattle.tb_core.specs.declared.step_refusal.StepRefusal.TheVariants.{Memory, Stale}
use Rattle.tb_core.specs.Refusals.{told_by}

abbrev pub config_with : Name → Standing → Config
config_with t s = record { task = t; steps = s.steps; at = s.at; regs = s.regs }

-- the refusal says the situation, or that there was no memory for it
abbrev pub IsStaleAnswer : Config → StepRefusal → Type 0
IsStaleAnswer now (Stale c) = c ≡ now
IsStaleAnswer now Memory = ⊤
IsStaleAnswer now _ = ⊥

-- a copy of the name may be refused: it has more than three ordinals
abbrev pub IsLongName : Name → Type 0
IsLongName t = 3 < length t

-- what blocks a task has such a name
abbrev pub IsLong : Hindrance → Type 0
IsLong (Undeferred u) = IsLongName u
IsLong (Waiting u) = IsLongName u
IsLong (Excluded u) = IsLongName u
IsLong (Children u) = IsLongName u
IsLong (Group u) = IsLongName u

-- the refusal names what blocks the task, or says that there was no memory for the name, which is
-- long
abbrev pub IsNamed : Hindrance → StepRefusal → Type 0
IsNamed h Memory = IsLong h
IsNamed h r = told_by r ≡ Some (By h)

-- children are counted from 1
abbrev pub IsNumbered : Obstacle → Type 0
IsNumbered (obstacle.Undeferred n) = 0 < n
IsNumbered (obstacle.Waiting n) = 0 < n
IsNumbered (obstacle.Excluded n) = 0 < n
IsNumbered (obstacle.Children n) = 0 < n
IsNumbered (obstacle.Group m) = ⊤
