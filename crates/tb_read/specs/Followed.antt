-- Programs whose statements are followed by statements of the same body.
use Rattle.std.specs.Prelude.{◌≡◌, ℕ, Bool, true, false}
use Rattle.tb_model.specs.declared.statement.Statement.{Statement}
use Rattle.tb_model.specs.declared.statement.Statement.TheVariants.{End}
use Rattle.tb_model.specs.Program.{Program, instr_at}
use Rattle.tb_model.specs.WellFormed.{Begins}
use Rattle.tb_read.specs.Meaning.{IsPosition}

abbrev pub is_last : Statement → Bool
is_last End = true
is_last _ = false

-- a line whose statement isn't the end of a body is one at which a task can be, and so are the
-- lines that follow; each line has the line that begins its body, which the lines that follow share
pub record IsFollowed (P : Program) : Type 0 where
  pub stands : (n : ℕ) → is_last (instr_at P n).statement ≡ false → IsPosition P n
  pub next : (n : ℕ) → is_last (instr_at P n).statement ≡ false → IsPosition P (instr_at P n).next
  pub otherwise : (n : ℕ) → is_last (instr_at P n).statement ≡ false → IsPosition P (instr_at P n).otherwise
  pub body : ℕ → ℕ
  pub begins : (n : ℕ) → Begins P n → body n ≡ n
  pub next_within : (n : ℕ) → is_last (instr_at P n).statement ≡ false → body (instr_at P n).next ≡ body n
  pub otherwise_within : (n : ℕ) → is_last (instr_at P n).statement ≡ false → body (instr_at P n).otherwise ≡ body n
