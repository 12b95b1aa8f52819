-- What the reader's lists show.
use Rattle.std.specs.Prelude.{◌≡◌, ◌≢◌, ℕ, List, slice_get, Option, Some, None, ⊤}
use Rattle.tb_model.specs.Program.{no_instr, Instr as Instruction}
use Rattle.tb_plan.specs.Plans.{instruction}
use Rattle.tb_plan.specs.declared.instr.Instr.{Instr}
use Rattle.tb_read.specs.Flow.{Line as Shown}
use Rattle.tb_read.specs.Flow.Line.{Passed as IsPassed, Stands as IsStanding, Else as IsElse, EndIf as IsEndIf, EndWhile as IsEndWhile}
use Rattle.tb_read.specs.declared.line.Line.{Line}
use Rattle.tb_read.specs.declared.line.Line.TheVariants.{Passed, Stands, Else, EndIf, EndWhile}

-- what a line of a text shows
abbrev pub shown_line : Line → Shown
shown_line Passed = IsPassed
shown_line (Stands parsed) = IsStanding parsed.statement
shown_line Else = IsElse
shown_line EndIf = IsEndIf
shown_line (EndWhile from) = IsEndWhile from

-- a line's instruction; a line without one shows none
abbrev pub shown_instr : Option Instr → Instruction
shown_instr None = no_instr
shown_instr (Some i) = instruction i

-- an instruction knows its line and the count of cells
abbrev pub IsPlaced : ℕ → ℕ → Option Instr → Type 0
IsPlaced cells n None = ⊤
IsPlaced cells n (Some i) = (i.line ≡ n) × (i.cells ≡ cells) × (instruction i ≢ no_instr)

abbrev pub ArePlaced : ℕ → List (Option Instr) → Type 0
ArePlaced cells instrs = (n : ℕ) (slot : Option Instr) → slice_get instrs n ≡ Some slot → IsPlaced cells n slot
