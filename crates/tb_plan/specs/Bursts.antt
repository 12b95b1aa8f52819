-- Private statements, evaluated one after another for a task.
use Rattle.std.specs.Prelude.{◌≡◌, ℕ, ℤ, zero, suc, nat_lt, List, [], ◌∷◌, Option, Some, None, slice_set, if◌then◌else◌}
use Rattle.std.specs.Option.{option_map}
use Rattle.tb_model.specs.declared.action.Action.{Action}
use Rattle.tb_model.specs.declared.action.Action.TheVariants.{Let, Test}
use Rattle.tb_model.specs.Program.{Instr as Instruction}
use Rattle.tb_plan.specs.declared.instr.Instr.{Instr}
use Rattle.tb_plan.specs.declared.config.Config.{Config}
use Rattle.tb_plan.specs.declared.planned.Plan.{Plan}
use Rattle.tb_plan.specs.declared.strip.Strip.{Strip}
use Rattle.tb_plan.specs.Plans.{instruction, line_behind}
use Rattle.tb_plan.specs.Strips.{strip_at}

-- the registers after an action that is private: a `let` sets one, a test none
abbrev pub regs_by : List ℤ → Action → Option (List ℤ)
regs_by regs (Let r x) = Some (slice_set regs r x)
regs_by regs (Test answer) = Some regs
regs_by regs _ = None

abbrev pub regs_behind : Plan → Option (List ℤ)
regs_behind p = regs_by p.config.regs p.action

-- the task's situation after the plan, with these registers
abbrev pub config_with : Plan → List ℤ → Config
config_with p regs = record { task = p.config.task; steps = suc p.config.steps; at = line_behind p.instr p.config p.action; regs = regs }

-- the task's situation after a private action, where its count of steps is one of 32 bits
abbrev pub config_behind : Plan → Option Config
config_behind p = if nat_lt p.config.steps 4294967295 then option_map (config_with p) (regs_behind p) else None

-- what is in the strip where the task is then
abbrev pub found : Strip → Option Config → Option Instruction
found s None = None
found s (Some c) = strip_at s c.at

-- the plan of the private statement that the task takes after the plan p, where it is in the strip
abbrev pub IsFollower : Strip → Plan → Option Plan → Type 0
IsFollower s p None = found s (config_behind p) ≡ None
IsFollower s p (Some q) = (config_behind p ≡ Some q.config) × (strip_at s q.config.at ≡ Some (instruction q.instr)) × (q.instr.cells ≡ p.instr.cells)

-- each plan follows the one in front of it; the last has no follower, or so many follow the plan p
abbrev pub Follow : ℕ → Strip → Plan → List Plan → Type 0
Follow zero s p qs = qs ≡ []
Follow (suc most) s p [] = IsFollower s p None
Follow (suc most) s p (q ∷ qs) = IsFollower s p (Some q) × Follow most s q qs

-- the plan of the instruction in the situation, and the plans that follow, at most so many
abbrev pub IsBurst : ℕ → Strip → Instr → Config → List Plan → Type 0
IsBurst most s i c [] = ⊥
IsBurst most s i c (p ∷ ps) = (p.instr ≡ i) × (p.config ≡ c) × Follow most s p ps
