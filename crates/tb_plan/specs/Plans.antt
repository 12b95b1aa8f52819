-- A statement, evaluated for a task.
use Rattle.std.specs.Prelude.{◌≡◌, ℕ, List, ℤ, Bool, true, ◌&&◌, nat_lt, nat_le, length}
use Rattle.std.specs.List.{list_all}
use Rattle.tb_model.specs.declared.place.Place.{Place}
use Rattle.tb_model.specs.declared.place.Place.TheVariants.{Cell, All}
use Rattle.tb_model.specs.declared.item.Item.{Item}
use Rattle.tb_model.specs.Names.{Name}
use Rattle.tb_model.specs.declared.action.Action.{Action}
use Rattle.tb_model.specs.declared.action.Action.TheVariants.{Start, Let, Load, Store, Print, Spawn, Wait, Open, Close, Test, End, Fault}
use Rattle.tb_model.specs.Program.{action_of, moved, zero_ℤ, Instr as Instruction, Config as Situation}
use Rattle.tb_plan.specs.declared.instr.Instr.{Instr}
use Rattle.tb_plan.specs.declared.config.Config.{Config}

-- an instruction, and a situation, as the definitions see them
abbrev pub instruction : Instr → Instruction
instruction i = record { statement = i.statement; next = i.next; otherwise = i.otherwise }

abbrev pub situation : Config → Situation
situation c = record { line = c.at; regs = c.regs }

-- the action of the statement for a task with these registers, at any cells of that number; a load reads 0 and a child is
-- the first until the step fills them in
abbrev pub IsActionOf : Instr → Name → List ℤ → Action → Type 0
IsActionOf i t regs a = (cells : List ℤ) → length cells ≡ i.cells → a ≡ action_of cells t 1 regs zero_ℤ i.statement

-- the action of the statement for the task of a situation, at any cells of that number
abbrev pub IsEvaluation : Instr → Config → Action → Type 0
IsEvaluation i c a = IsActionOf i c.task c.regs a

abbrev pub is_place : ℕ → Place → Bool
is_place cells (Cell c) = nat_lt c cells
is_place cells All = true

abbrev pub is_placed : ℕ → Item → Bool
is_placed cells i = is_place cells i.place

-- the registers of the action are r0 to r15, its cells are those of the program, and it has at most
-- 16 arguments
abbrev pub names_allowed : ℕ → Action → Bool
names_allowed cells Start = true
names_allowed cells (Let r x) = nat_lt r 16
names_allowed cells (Load r c x) = nat_lt r 16 && nat_lt c cells
names_allowed cells (Store c x) = nat_lt c cells
names_allowed cells (Print x) = true
names_allowed cells (Spawn s) = nat_le (length s.args) 16 && list_all (is_placed cells) s.items
names_allowed cells (Wait items) = list_all (is_placed cells) items
names_allowed cells Open = true
names_allowed cells Close = true
names_allowed cells (Test answer) = true
names_allowed cells End = true
names_allowed cells Fault = true

-- the line at which the action leaves the task
abbrev pub line_behind : Instr → Config → Action → ℕ
line_behind i c a = (moved (instruction i) (situation c) a).line
