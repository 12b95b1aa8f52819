-- What an accepted text means: what each line is, and the program.
use Rattle.std.specs.Prelude.{◌≡◌, ◌≢◌, true, false, ℕ, ℤ, zero, suc, ◌<◌, ◌==◌, List, [], ◌∷◌, ◌++◌, if◌then◌else◌, nat_le, length, map, slice_get, slice_index_or, Option, Some, None, unwrap_or, codes}
use Rattle.tb_model.specs.declared.operand.Operand.{Operand}
use Rattle.tb_model.specs.declared.operator.Operator.{Operator}
use Rattle.tb_model.specs.declared.operator.Operator.TheVariants.{Plus}
use Rattle.tb_model.specs.declared.statement.Statement.{Statement}
use Rattle.tb_model.specs.declared.statement.Statement.TheVariants.{Start as DoStart, Let as DoLet, Compute as DoCompute, Load as DoLoad, Store as DoStore, Print as DoPrint, Task as DoTask, Taskwait as DoTaskwait, Taskgroup as DoTaskgroup, EndTaskgroup as DoEndTaskgroup, Test as DoTest, End as DoEnd}
use Rattle.tb_model.specs.Program.{Program, Instr, instr_at, no_instr}
use Rattle.tb_read.specs.Text.{line_words}
use Rattle.tb_read.specs.Word.{Word, word_at, register_of, operator_of}
use Rattle.tb_read.specs.Grammar.{head_of}
use Rattle.tb_read.specs.Clauses.{operand_in, condition_in, args_of, clause_words, clauses_of, test_of}
use Rattle.tb_read.specs.Headings.{headings_from, heading_of}
use Rattle.tb_read.specs.Context.{Context, Setting}
use Rattle.tb_read.specs.Reading.{setting_at, context_at}
use Rattle.tb_read.specs.Flow.{Line, LeadsTo}
use Rattle.tb_read.specs.Flow.Line.{Passed, Stands, Else as Turns, EndIf, EndWhile}
use Rattle.tb_read.specs.declared.heading.Heading.{Heading}
use Rattle.tb_read.specs.declared.head.Head.{Head}
use Rattle.tb_read.specs.declared.head.Head.TheVariants.{Body, End, Let, Load, Store, Print, Task, Taskwait, Taskgroup, If, Else, While}
use Rattle.tb_read.specs.declared.block.Block.{Block}
use Rattle.tb_read.specs.declared.block.Block.TheVariants.{Bodied, Tested, Turned, Looped, Grouped}

-- ---- statements; in a line without a fault no word is missing and none is wrong

abbrev pub register_at : List Word → ℕ → ℕ
register_at words at = unwrap_or (register_of (word_at words at)) 0

abbrev pub operand_at : List Word → ℕ → Operand
operand_at words at = operand_in (word_at words at)

abbrev pub operator_at : List Word → ℕ → Operator
operator_at words at = unwrap_or (operator_of (word_at words at)) Plus

-- two words after `let` are a copy, four a computation
abbrev pub let_of : List Word → Statement
let_of words =
    if length words == 2 then DoLet (register_at words 0) (operand_at words 1)
    else DoCompute (register_at words 0) (operand_at words 1) (operator_at words 2) (operand_at words 3)

-- an `if` or a `while`
abbrev pub test_in : List Word → Statement
test_in words = DoTest (condition_in (word_at words 0) (word_at words 1) (word_at words 2))

-- a text whose bodies begin further down isn't accepted
abbrev pub line_of : Option Heading → ℕ
line_of None = 0
line_of (Some heading) = if nat_le heading.line 65536 then heading.line else 0

-- a `task` line: the body by the line that begins it, the arguments, the depend clauses, the `if` clause
abbrev pub task_of : Setting → List Word → Statement
task_of here [] = DoTask 0 [] [] None
task_of here (name ∷ words) = DoTask (line_of (here.heading name)) (args_of words) (clauses_of false (clause_words words)) (test_of (clause_words words))

-- an `end`, by the block that it closes
abbrev pub end_of : List Block → Line
end_of [] = Passed
end_of (Bodied line ∷ blocks) = Stands DoEnd
end_of (Tested ∷ blocks) = EndIf
end_of (Turned ∷ blocks) = EndIf
end_of (Looped line ∷ blocks) = EndWhile line
end_of (Grouped ∷ blocks) = Stands DoEndTaskgroup

-- what a line with this first word is
abbrev pub line_by : Setting → Context → Option Head → List Word → Line
line_by here context (Some Body) words = Stands DoStart
line_by here context (Some End) words = end_of context.open_blocks
line_by here context (Some Let) words = Stands (let_of words)
line_by here context (Some Load) words = Stands (DoLoad (register_at words 0) (operand_at words 1))
line_by here context (Some Store) words = Stands (DoStore (operand_at words 0) (operand_at words 1))
line_by here context (Some Print) words = Stands (DoPrint (operand_at words 0))
line_by here context (Some Task) words = Stands (task_of here words)
line_by here context (Some Taskwait) words = Stands (DoTaskwait (clauses_of true words))
line_by here context (Some Taskgroup) words = Stands DoTaskgroup
line_by here context (Some If) words = Stands (test_in words)
line_by here context (Some While) words = Stands (test_in words)
line_by here context (Some Else) words = Turns
line_by here context _ words = Passed

abbrev pub line_in : Setting → Context → List Word → Line
line_in here context [] = Passed
line_in here context (word ∷ words) = line_by here context (head_of word) words

abbrev pub line_with : Setting → Context → Option (List ℕ) → Line
line_with here context None = Passed
line_with here context (Some text) = line_in here context (line_words text)

-- what line n is
abbrev pub line_at : List (List ℕ) → ℕ → Line
line_at texts n = line_with (setting_at texts n) (context_at texts n) (slice_get texts n)

-- what the first n lines are
abbrev pub lines_until : List (List ℕ) → ℕ → List Line
lines_until texts zero = []
lines_until texts (suc n) = lines_until texts n ++ line_at texts n ∷ []

abbrev pub lines_in : List (List ℕ) → List Line
lines_in texts = lines_until texts (length texts)

-- ---- the program

-- the instruction of a line at which a task can be, or none
abbrev pub IsInstrOf : List Line → ℕ → Instr → Line → Type 0
IsInstrOf lines n i (Stands s) = (i.statement ≡ s) × LeadsTo lines n i.next i.otherwise s
IsInstrOf lines n i _ = i ≡ no_instr

-- the instruction of line n
abbrev pub IsInstrAt : List Line → ℕ → Instr → Type 0
IsInstrAt lines n i = IsInstrOf lines n i (slice_index_or lines n Passed)

-- the instructions of all lines
abbrev pub AreInstrsOf : List Line → List Instr → Type 0
AreInstrsOf lines instrs = (n : ℕ) → n < length lines → IsInstrAt lines n (slice_index_or instrs n no_instr)

-- a cell that no line gave a number begins at 0
abbrev pub first_number : Option ℤ → ℤ
first_number cell = unwrap_or cell (ℤ.pos 0)

-- P is the program of this text
pub record IsProgramOf (texts : List (List ℕ)) (P : Program) : Type 0 where
  pub cells : P.cells ≡ map first_number (context_at texts (length texts)).cells
  pub bodies : P.bodies ≡ (context_at texts (length texts)).bodies
  pub root_line : P.root_line ≡ line_of (heading_of (headings_from 0 texts) (codes "main"))
  pub count : length P.lines ≡ length texts
  pub instrs : AreInstrsOf (lines_in texts) P.lines

-- a line at which a task can be
abbrev pub IsPosition : Program → ℕ → Type 0
IsPosition P n = instr_at P n ≢ no_instr
