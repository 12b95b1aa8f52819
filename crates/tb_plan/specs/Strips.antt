-- Private statements that are close to one another.
use Rattle.std.specs.Prelude.{ℕ, ◌-◌, nat_le, Option, Some, None, slice_index_or, if◌then◌else◌}
use Rattle.std.specs.Option.{option_map}
use Rattle.tb_model.specs.Program.{Instr as Instruction}
use Rattle.tb_plan.specs.Privacy.{is_private, statement_of}
use Rattle.tb_plan.specs.declared.private_line.PrivateLine.{PrivateLine}
use Rattle.tb_plan.specs.declared.strip.Strip.{Strip}

abbrev pub private_instr : Instruction → Option Instruction
private_instr i = if is_private i.statement then Some i else None

abbrev pub instruction_of : PrivateLine → Instruction
instruction_of p = record { statement = statement_of p.statement; next = p.next; otherwise = p.otherwise }

-- the private statement of line n, where the strip has it
abbrev pub strip_at : Strip → ℕ → Option Instruction
strip_at s n = if nat_le s.first n then option_map instruction_of (slice_index_or s.lines (n - s.first) None) else None
