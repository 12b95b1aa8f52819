-- The private statements around a line of a program.
use Rattle.std.specs.Prelude.{◌≡◌, ℕ, zero, suc, ◌-◌, Bool, true, false, ◌&&◌, nat_le, Option, None, if◌then◌else◌}
use Rattle.tb_model.specs.declared.statement.Statement.{Statement}
use Rattle.tb_model.specs.declared.statement.Statement.TheVariants.{Start}
use Rattle.tb_model.specs.Program.{Program, instr_at, Instr as Instruction}
use Rattle.tb_plan.specs.Strips.{private_instr, strip_at}
use Rattle.tb_plan.specs.declared.strip.Strip.{Strip}

-- the instruction of a line, where its statement is private
abbrev pub private_at : Program → ℕ → Option Instruction
private_at P n = private_instr (instr_at P n)

-- ---- a body's lines

abbrev pub is_first : Statement → Bool
is_first Start = true
is_first _ = false

abbrev pub begins_body : Program → ℕ → Bool
begins_body P n = is_first (instr_at P n).statement

-- the first line of the body of line n, but at most so many lines in front of it
unfoldable pub first_line : Program → ℕ → ℕ → ℕ
first_line P n zero = n
first_line P n (suc most) = if begins_body P n then n else first_line P (n - 1) most

-- the last line in front of the next body, but at most so many lines after line n
unfoldable pub last_line : Program → ℕ → ℕ → ℕ
last_line P n zero = n
last_line P n (suc most) = if begins_body P (suc n) then n else last_line P (suc n) most

-- line m is one of the body of line n, and at most 63 lines away from it
abbrev pub is_near : Program → ℕ → ℕ → Bool
is_near P n m = nat_le (first_line P n 63) m && nat_le m (last_line P n 63)

-- ---- the strip

-- the strip has the private statements of the lines close by, and no others
abbrev pub IsStripOf : Program → ℕ → Strip → Type 0
IsStripOf P n s = (m : ℕ) → strip_at s m ≡ (if is_near P n m then private_at P m else None)
