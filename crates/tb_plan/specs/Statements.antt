-- What holds of each statement of a program that was accepted.
use Rattle.std.specs.Prelude.{ℕ, Bool, true, false, ◌&&◌, nat_lt, nat_le, length, Option, Some, None}
use Rattle.std.specs.List.{list_all}
use Rattle.tb_model.specs.declared.operand.Operand.{Operand}
use Rattle.tb_model.specs.declared.operand.Operand.TheVariants.{Number, Register}
use Rattle.tb_model.specs.declared.condition.Condition.{Condition}
use Rattle.tb_model.specs.declared.address.Address.{Address}
use Rattle.tb_model.specs.declared.address.Address.TheVariants.{Cell, All}
use Rattle.tb_model.specs.declared.clause.Clause.{Clause}
use Rattle.tb_model.specs.declared.statement.Statement.{Statement}
use Rattle.tb_model.specs.declared.statement.Statement.TheVariants.{Start, Let, Compute, Load, Store, Print, Task, Taskwait, Taskgroup, EndTaskgroup, Test, End}

-- r0 to r15
abbrev pub is_register : ℕ → Bool
is_register r = nat_lt r 16

abbrev pub is_sound_operand : Operand → Bool
is_sound_operand (Number x) = true
is_sound_operand (Register r) = is_register r

abbrev pub is_sound_condition : Condition → Bool
is_sound_condition c = is_sound_operand c.left && is_sound_operand c.right

abbrev pub is_sound_test : Option Condition → Bool
is_sound_test None = true
is_sound_test (Some c) = is_sound_condition c

abbrev pub is_sound_address : Address → Bool
is_sound_address (Cell a) = is_sound_operand a
is_sound_address All = true

abbrev pub is_sound_clause : Clause → Bool
is_sound_clause c = is_sound_address c.address

-- the registers of the statement are r0 to r15, and it has at most 16 arguments
abbrev pub is_sound : Statement → Bool
is_sound Start = true
is_sound (Let r a) = is_register r && is_sound_operand a
is_sound (Compute r a o b) = is_register r && (is_sound_operand a && is_sound_operand b)
is_sound (Load r a) = is_register r && is_sound_operand a
is_sound (Store a b) = is_sound_operand a && is_sound_operand b
is_sound (Print a) = is_sound_operand a
is_sound (Task line args depends c) = nat_le (length args) 16 && (list_all is_sound_operand args && (list_all is_sound_clause depends && is_sound_test c))
is_sound (Taskwait depends) = list_all is_sound_clause depends
is_sound Taskgroup = true
is_sound EndTaskgroup = true
is_sound (Test c) = is_sound_condition c
is_sound End = true

-- an `if` or a `while`
abbrev pub is_test : Statement → Bool
is_test (Test c) = true
is_test _ = false
